-- The replies of a site and the names that it holds fit a line, whatever its events; and so does each command that is
-- read.
use Rattle.std.specs.Prelude.{◌≡◌, ℕ, ◌<◌, List, Some, ⊤}
use Rattle.rb_money.specs.Settings.{IsConfigured, Settings}
use Rattle.rb_shadow.specs.NameText.{IsName}
use Rattle.rb_shadow.specs.Operations.{find_in}
use Rattle.rb_shadow.specs.declared.op_name.OpName.{OpName}
use Rattle.rb_shadow.specs.declared.shadow.Shadow.{Shadow}
use Rattle.rb_site.specs.declared.event.Event.{Event}
use Rattle.rb_site.specs.declared.world_event.WorldEvent.{WorldEvent}
use Rattle.rb_site.specs.declared.world_event.WorldEvent.TheVariants.{At, Deliver}
use Rattle.rb_site.specs.Events.{after_events, first_site, reply_to}
use Rattle.rb_site.specs.Worlds.{IsOwn}
use Rattle.rb_history.specs.Fits.{IsEvent, IsReply}
use Rattle.rb_history.specs.OnLines.{command_on}

-- the reply of a site to any event fits a line, whatever its events before
abbrev pub RepliesFitLines : Type 0
RepliesFitLines = (s : Settings) → IsConfigured s → (me : ℕ) → me < s.sites → (es : List Event) (e : Event)
    → IsReply (reply_to s (after_events s (first_site me) es) e)

-- and so does the name of each operation that it holds
abbrev pub HeldNamesFitLines : Type 0
HeldNamesFitLines = (s : Settings) → IsConfigured s → (me : ℕ) → me < s.sites → (es : List Event) (x : OpName)
    (v : Shadow) → find_in (after_events s (first_site me) es).held x ≡ Some v → IsName x

-- an event of a site's own that fits, or a delivery
abbrev pub IsFittingCommand : Settings → WorldEvent → Type 0
IsFittingCommand s (At i e) = IsOwn e × IsEvent s e
IsFittingCommand s (Deliver i k) = ⊤

-- each command that is read from any line is such a one
abbrev pub ReadCommandsFit : Type 0
ReadCommandsFit = (s : Settings) (line : List ℕ) (c : WorldEvent) → command_on s line ≡ Some c → IsFittingCommand s c
