use Rattle.std.proofs.Common.{◌≡◌, ◌∙◌, ◌-◌, ◌<◌, true, ap, sym, arith, rules, length}
use Rattle.std.specs.Prelude.{nat_lt}
use Rattle.std.proofs.lemmas.Bool.Decides.{nat_tests}
use Rattle.std.proofs.lemmas.List.Sorted.{IsPartitionPoint-from_clause}
use Rattle.rb_shadow.specs.declared.shadow.Shadow.{Shadow}
use Rattle.rb_shadow.specs.Operations.{number_of}
use Rattle.rb_inbox.proofs.Order.{all-before, none-before, parted-number, point-number, read-number}
use Rattle.rb_inbox.proofs.inbox.index_of.Goals as goal

pub returns-clause-index : goal.returns-clause-index
returns-clause-index c =
    point-number c.args.shadows.now c.args.name _ c.requires.placed c.partition_point.ensures.bound
    (IsPartitionPoint-from_clause (λ (u : Shadow). nat_lt (number_of u.name) (number_of c.args.name)) _ _
    c.partition_point.ensures.partitioned (parted-number c.args.shadows.now c.args.name c.requires.order c.requires.placed)
    (λ a r q k. search rules))

pub returns-then-number-clause-index : goal.returns-then-number-clause-index
returns-then-number-clause-index c =
    let us = c.args.shadows.now in
    let x = c.args.name in
    let last = c.in-Some.last.now in
    let found = c.in-Some.ensures.item in
    let less : number_of last.name < number_of x = omega (arith, c.number.ensures, c.number-number.ensures, c.if-number.true) in
    let before : nat_lt (number_of last.name) (number_of x) ≡ true = grind (arith, nat_tests) in
    all-before us x (length us - 1) last c.requires.order (omega (arith, found.3.0))
    (read-number us x (length us - 1) last c.requires.placed (omega (arith, found.3.0))
    ∙ ap (λ (u : Shadow). nat_lt (number_of u.name) (number_of x)) (sym found.1) ∙ before)

pub returns-then-number-2-clause-index : goal.returns-then-number-2-clause-index
returns-then-number-2-clause-index c =
    none-before c.args.shadows.now c.args.name _ _ c.requires.placed (omega (arith, c.in-Some.ensures.item.3.0)) c.number-2.ensures
    (omega (arith, c.number-number.ensures, c.if-number-2.true))
