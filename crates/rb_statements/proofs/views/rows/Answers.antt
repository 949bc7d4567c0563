use Rattle.std.proofs.Common.{ap, sym, ◌∙◌, subst, arith, rules, FitsSigned}
use Rattle.std.specs.Prelude.{pos, neg_ℤ, ◌+ℤ◌, ◌≤ℤ◌}
use Rattle.std.specs.Int.{w64}
use Rattle.std.proofs.lemmas.Int.{to_z-of_z}
use Rattle.rb_money.specs.declared.cents.TheConstants.{MOST_CENTS}
use Rattle.rb_ledger.proofs.Public.OnAccount
use Rattle.rb_statements.proofs.Steps
use Rattle.rb_statements.proofs.views.rows.Goals as goal

pub loop-position-init : goal.loop-position-init
loop-position-init c =
    let last = c.last_on-position.ensures.last in
    record {
      on = last.on;
      rows = Steps.rows_start _ _ _ _ _ last c.in_ok-rows.ensures.items;
      sum = c.requires.sum ∙ Steps.bal_start _ _ _ _ c.requires.valid last;
      bounded = omega (arith, c.requires.bounded, c.last_on-position.ensures.few);
    }

pub before-balance-requires : goal.before-balance-requires
before-balance-requires c =
    let fits : FitsSigned w64 c.row_at-row.result.moved = search rules in
    let same = sym (to_z-of_z w64 c.row_at-row.result.moved fits) in
    record {
      covered = subst (λ z. z ≤ℤ pos c.loop-position.balance) same (Steps.covered _ _ _ _ _ _ c.requires.valid
          c.row_at-row.ensures.moved);
      least = subst (λ z. neg_ℤ (pos MOST_CENTS) ≤ℤ z) same c.row_at-row.ensures.least;
      bounded = omega (arith, c.loop-position.invariant.bounded);
    }

pub loop-position-preserved : goal.loop-position-preserved
loop-position-preserved c =
    let fits : FitsSigned w64 c.row_at-row.result.moved = search rules in
    let low = OnAccount.on_within _ _ _ c.loop-position.invariant.on in
    let last = c.earlier-position.ensures.last in
    record {
      on = OnAccount.on_taken _ _ c.args.place _ last.on;
      rows = Steps.rows_back _ _ _ _ _ c.row_at-row.result _ _ low last c.loop-position.invariant.rows c.row_at-row.ensures.row
          c.in_ok-push.ensures.items;
      sum = Steps.bal_back _ _ _ _ _ _ _ _ c.requires.valid low last c.row_at-row.ensures.moved (c.before-balance.ensures.sum
          ∙ ap (λ z. pos c.before-balance.result +ℤ z) (to_z-of_z w64 c.row_at-row.result.moved fits));
      bounded = omega (arith, c.loop-position.invariant.bounded, c.before-balance.ensures.bounded, c.earlier-position.ensures.before);
    }

pub returns : goal.returns
returns c = c.reverse.ensures.items ∙ sym (Steps.rows_end _ _ _ _ c.loop-position.rows.items c.loop-position-test.false
    c.loop-position.invariant.rows)
