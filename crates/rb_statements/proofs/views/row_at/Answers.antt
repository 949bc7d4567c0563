use Rattle.std.proofs.Common.{◌∙◌, ap, sym, refl, arith, rules, FitsSigned}
use Rattle.std.specs.Int.{w64}
use Rattle.std.proofs.lemmas.Int.{ints, to_z-of_z}
use Rattle.rb_shadow.specs.declared.kind.Kind.{Kind}
use Rattle.rb_shadow.specs.Labels.{label_of}
use Rattle.rb_statements.proofs.Steps
use Rattle.rb_statements.proofs.views.row_at.Goals as goal

pub unwrap-entry-requires : goal.unwrap-entry-requires
unwrap-entry-requires c = Steps.has_entry _ _ _ _ c.requires.on c.requires.some c.operation.ensures

pub unwrap-moved-requires : goal.unwrap-moved-requires
unwrap-moved-requires c = Steps.has_moved _ _ _ _ _ c.requires.on c.requires.some c.moved.ensures.moved

pub returns-clause-row : goal.returns-clause-row
returns-clause-row c =
    let fits : FitsSigned w64 c.unwrap-moved.result = search rules in
    let (there, own) = Steps.found_there _ _ _ _ c.unwrap-entry.result c.requires.on c.requires.some
    c.operation.ensures c.unwrap-entry.ensures
    in
    let moved = to_z-of_z w64 c.unwrap-moved.result fits ∙ Steps.moved_there _ _ _ _ _ _ c.requires.on c.requires.some c.moved.ensures.moved
    c.unwrap-moved.ensures in
    simp (sym c.name.ensures) at (Steps.own_row _ _ _ _ c.unwrap-entry.result _ _ _ _ _ c.requires.some there own
    (c.label.ensures ∙ ap (λ (k : Kind). label_of k) c.kind.ensures) moved
    refl c.is_cancelled.ensures.first c.requires.sum)

pub returns-clause-moved : goal.returns-clause-moved
returns-clause-moved c =
    let fits : FitsSigned w64 c.unwrap-moved.result = search rules in
    let moved = to_z-of_z w64 c.unwrap-moved.result fits ∙ Steps.moved_there _ _ _ _ _ _ c.requires.on c.requires.some c.moved.ensures.moved
    c.unwrap-moved.ensures in
    omega (arith, ints, moved, c.requires.sum)
