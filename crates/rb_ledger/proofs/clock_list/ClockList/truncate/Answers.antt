use Rattle.rb_ledger.proofs.Words.{◌≡◌, ◌+◌, ◌*◌, ap, ◌∙◌, arith, length, take, ClockTable}
use Rattle.rb_ledger.proofs.ClockTables
use Rattle.rb_ledger.proofs.clock_list.ClockList.truncate.Goals.{After-truncate-3}
use Rattle.rb_ledger.proofs.clock_list.ClockList.truncate.Goals as goal

-- what is kept is of the first clocks
cut : (c : After-truncate-3) → ClockTables.IsCut (c.self.inside.sites + 1) c.args.count c.self.inside.bases.items
    c.self.inside.starts.items c.self.inside.steps.items c.truncate-3.new.self.items c.truncate.new.self.items
    c.truncate-2.new.self.items
cut c =
    let w = c.self.inside.sites + 1 in
    let len : c.len.result ≡ length c.truncate.new.self.items = omega arith in
    ClockTables.cut w c.args.count (c.len.result * w) _ _ _ _ _ _ c.self.invariant.based c.self.invariant.steps
    c.truncate.ensures.items (ap (λ n. n * w) len) c.truncate-3.ensures.items c.truncate-2.ensures.items

pub invariant_of-self : goal.invariant_of-self
invariant_of-self c =
    let k = cut (goal.at.invariant_of-self c).After-truncate-3 in
    grind arith

pub returns-clause-items : goal.returns-clause-items
returns-clause-items c =
    (cut (goal.at.returns-clause-items c).After-truncate-3).clocks
    ∙ ap (λ (t : ClockTable). take c.args.count t.items) c.self.view_is
