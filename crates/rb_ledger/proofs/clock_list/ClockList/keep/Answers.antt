use Rattle.rb_ledger.proofs.Words.{◌≡◌, inl, inr, ◌+◌, ◌-◌, [], ap, sym, ◌∙◌, arith, get_or, length, refl, slice_set}
use Rattle.rb_ledger.proofs.Words.{length_push, number_of, row_of, ClockTable, clock_of_counts}
use Rattle.rb_ledger.proofs.ClockTables
use Rattle.rb_ledger.proofs.OperationTables
use Rattle.rb_ledger.proofs.clock_list.ClockList.keep.Goals.{After-len-count}
use Rattle.rb_ledger.proofs.clock_list.ClockList.keep.Goals as goal

-- the number that is read is that of the clocks
len : (c : After-len-count) → c.len-count.result ≡ length c.args.self.now.items
len c = omega (arith, ClockTables.seen_count _ _ _ _ _ (ap (λ (t : ClockTable). t.items) c.self.view_is))

pub is_at-requires : goal.is_at-requires
is_at-requires c = let before = goal.at.is_at-requires c in omega (arith, len before.After-len-count, c.if-count-gt0.true)

pub returns-then-is_at-clause-number : goal.returns-then-is_at-clause-number
returns-then-is_at-clause-number c =
    inr (omega (arith, len (goal.at.returns-then-is_at-clause-number c).After-len-count))

pub returns-then-is_at-clause-count : goal.returns-then-is_at-clause-count
returns-then-is_at-clause-count c =
    omega (arith, len (goal.at.returns-then-is_at-clause-count c).After-len-count)

pub returns-then-is_at-clause-clock : goal.returns-then-is_at-clause-clock
returns-then-is_at-clause-clock c =
    let v = c.args.shadow.now in
    OperationTables.kept_same c.args.self.now.sites _ v.deps v.name c.requires.sites c.is_at.ensures.all
    c.requires.own (λ m. c.if-is_at.ensures.same refl m)

pub returns-clause-number : goal.returns-clause-number
returns-clause-number c = inl (len (goal.at.returns-clause-number c).After-len-count)

pub returns-clause-count : goal.returns-clause-count
returns-clause-count c =
    let many = len (goal.at.returns-clause-count c).After-len-count in
    ap length c.push.ensures.items ∙ length_push c.args.self.now.items _ ∙ ap (λ k. k + 1) (sym many)

pub returns-clause-clock : goal.returns-clause-clock
returns-clause-clock c =
    let many = len (goal.at.returns-clause-clock c).After-len-count in
    let v = c.args.shadow.now in
    ap (λ k. clock_of_counts c.args.self.now.sites
    (slice_set (get_or c.push.new.self.items k []) (row_of v.name) (number_of v.name - 1))) many
    ∙ OperationTables.kept_behind c.args.self.now.sites c.args.self.now.items c.push.new.self.items v.deps v.name
    c.requires.sites c.push.ensures.all c.requires.own c.push.ensures.items
