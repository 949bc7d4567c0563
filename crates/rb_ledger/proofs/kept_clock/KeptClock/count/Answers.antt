use Rattle.rb_ledger.proofs.Words.{◌<◌, ap, sym, ◌∙◌, arith, get_or, length, step_added}
use Rattle.rb_ledger.proofs.ClockTables
use Rattle.rb_ledger.proofs.kept_clock.KeptClock.count.Goals as goal

pub offset_bounds-self-inside-index : goal.offset_bounds-self-inside-index
offset_bounds-self-inside-index c = omega (arith, c.requires.near, c.requires.few)

pub bounds-self-inside-index : goal.bounds-self-inside-index
bounds-self-inside-index c = omega (
  arith,
  c.requires.near,
  c.self.invariant.base,
  ClockTables.sums_count _ _
      c.self.invariant.base,
  ap length c.self.view_is,
)

pub bounds-self-inside-index-2 : goal.bounds-self-inside-index-2
bounds-self-inside-index-2 c = omega (arith, c.requires.near, ClockTables.sums_count _ _ c.self.invariant.base, ap length c.self.view_is)

pub returns : goal.returns
returns c =
    let near : c.args.index < length c.self.inside.steps.now = omega
    (arith, c.requires.near, ClockTables.sums_count _ _ c.self.invariant.base, ap length c.self.view_is) in
    ap (step_added (get_or c.self.inside.base.now c.args.index 0)) c.from.ensures
    ∙ sym (ClockTables.sum_at c.self.inside.base.now c.self.inside.steps.now c.args.index c.self.invariant.base near)
    ∙ ap (λ ns. get_or ns c.args.index 0) c.self.view_is
