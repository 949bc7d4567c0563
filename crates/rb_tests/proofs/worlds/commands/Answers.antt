-- One command more.
use Rattle.std.proofs.Common.{List, [], All, subst, sym}
use Rattle.std.proofs.lemmas.List.Elements.{All-append, All-cons, All-nil}
use Rattle.rb_site.specs.Worlds.{IsCommand}
use Rattle.rb_site.specs.declared.world_event.WorldEvent.{WorldEvent}
use Rattle.rb_tests.proofs.worlds.commands.Goals as goal

pub loop-line-preserved : goal.loop-line-preserved
loop-line-preserved c =
    let P : List WorldEvent → Type 0 = λ es. All IsCommand es in
    subst P (sym c.in-Ok.ensures.items) (All-append IsCommand c.loop-line.events.items _ c.loop-line.invariant
    (All-cons IsCommand _ [] c.in_ok-open_command.ensures.command (All-nil IsCommand)))
