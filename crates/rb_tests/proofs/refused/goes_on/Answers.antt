-- The events before and those after are some of the commands.
use Rattle.std.proofs.Common.{List, All, subst, sym}
use Rattle.std.proofs.lemmas.List.Elements.{All-drop, All-take}
use Rattle.rb_site.specs.Worlds.{IsCommand}
use Rattle.rb_site.specs.declared.world_event.WorldEvent.{WorldEvent}
use Rattle.rb_tests.proofs.refused.goes_on.Goals as goal

pub is_after-requires : goal.is_after-requires
is_after-requires c =
    let P : List WorldEvent → Type 0 = λ es. All IsCommand es in
    subst P (sym c.split_at.ensures.front) (All-take IsCommand _ _ c.requires.commands)

pub run-requires : goal.run-requires
run-requires c =
    let P : List WorldEvent → Type 0 = λ es. All IsCommand es in
    subst P (sym c.split_at.ensures.back) (All-drop IsCommand _ _ c.requires.commands)
