use Rattle.std.proofs.Common.{◌++◌, ◌∷◌, ap, ◌∙◌, arith, cond, length, take}
use Rattle.rb_ledger.proofs.ClockTables
use Rattle.rb_ledger.proofs.counts.push_steps.Goals as goal

pub returns-clause-items : goal.returns-clause-items
returns-clause-items c =
    let base = c.args.base.now in
    let all = c.loop-site.all in
    let old = c.args.steps.now.items in
    let first = take (length base) all in
    let same = ClockTables.steps_are base (c.args.red ∷ c.args.blue.now) all (omega (arith, c.requires.few))
    (omega (arith, c.requires.most, c.loop-site.invariant.count))
    (λ k low. c.loop-site.invariant.steps k (omega (arith, low, c.loop-site-test.false, c.requires.some))) in
    c.extend_from_slice.ensures.items
    ∙ ap (λ b. cond b (old ++ first) old) c.if-is_err.ensures.negation
    ∙ ap (λ xs. old ++ xs) same
