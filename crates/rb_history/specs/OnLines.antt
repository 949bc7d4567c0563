-- Which command a line's bytes are.
use Rattle.std.specs.Prelude.{ℕ, List, Option, None, if◌then◌else◌}
use Rattle.std.specs.Str.{is_utf8}
use Rattle.rb_money.specs.Settings.{Settings}
use Rattle.rb_site.specs.declared.world_event.WorldEvent.{WorldEvent}
use Rattle.rb_history.specs.Commands.{command_at}

-- the command on a line, at these settings
unfoldable pub command_on : Settings → List ℕ → Option WorldEvent
command_on s l = if is_utf8 l then command_at s l else None
