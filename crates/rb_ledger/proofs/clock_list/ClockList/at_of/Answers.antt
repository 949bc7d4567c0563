use Rattle.rb_ledger.proofs.Words.{◌≡◌, ◌+◌, ◌-◌, ◌*◌, ◌<◌, ◌≤◌, drop, length, take, Some, refl, ap, sym, ◌∙◌, arith}
use Rattle.rb_ledger.proofs.Words.{length-take-le, slice_get, ClockTable, sums, length-drop, slice_get_read}
use Rattle.rb_ledger.proofs.ClockTables
use Rattle.rb_ledger.proofs.clock_list.ClockList.at_of.Goals.{After-self, After-index, After-deref-2}
use Rattle.rb_ledger.proofs.clock_list.ClockList.at_of.Goals as goal

-- the table's clocks have this number of counts
width : (c : After-self) → c.self.inside.sites + 1 ≡ c.args.width
width c = ap (λ (t : ClockTable). t.sites + 1) c.self.view_is ∙ sym c.requires.width

-- there is a clock at the index
near : (c : After-self) → c.args.index < length c.self.inside.starts.items
near c =
    let count = ClockTables.seen_count _ _ _ _ _ (ap (λ (t : ClockTable). t.items) c.self.view_is) in
    omega arith

-- its steps are all there
room : (c : After-self) → c.args.index * c.args.width + c.args.width ≤ length c.self.inside.steps.items
room c = omega (
  arith,
  ClockTables.room_more c.args.width c.args.index (length c.self.inside.starts.items) (near c),
  c.self.invariant.steps ∙ ap (λ j. length c.self.inside.starts.items * j) (width c),
)

-- where its base begins
there : (c : After-index) → slice_get c.self.inside.starts.items c.args.index ≡ Some c.index.result.now
there c =
    slice_get_read c.self.inside.starts.items _ _ _ refl (near (goal.at.After-index c).After-self) c.index.ensures

-- its base is whole
within : (c : After-index) → c.index.result.now + c.args.width ≤ length c.self.inside.bases.items
within c =
    let whole = ClockTables.based_at _ 0 _ c.self.inside.starts.items _ _ c.self.invariant.based (there c) in
    omega (arith, width (goal.at.After-index c).After-self)

-- what is read of the bases is its base
base : (c : After-deref-2) →
    take (c.index.result.now + c.args.width - c.index.result.now) (drop c.index.result.now c.deref.result.now)
    ≡ take c.args.width (drop c.index.result.now c.self.inside.bases.items)
base c = ClockTables.range_seen c.index.result.now c.args.width _ _ _ refl c.deref.ensures.value

-- what is read of the steps is its steps
steps : (c : After-deref-2) →
    take (c.args.index * c.args.width + c.args.width - c.args.index * c.args.width)
    (drop (c.args.index * c.args.width) c.deref-2.result.now)
    ≡ take c.args.width (drop (c.args.index * c.args.width) c.self.inside.steps.items)
steps c = ClockTables.range_seen (c.args.index * c.args.width) c.args.width _ _ _ refl c.deref-2.ensures.value

pub index-requires : goal.index-requires
index-requires c = omega (arith, near (goal.at.index-requires c).After-self)

pub overflow_mul-first : goal.overflow_mul-first
overflow_mul-first c = omega (arith, room (goal.at.overflow_mul-first c).After-self)

pub slice_bounds-result-end : goal.slice_bounds-result-end
slice_bounds-result-end c =
    omega (arith, within (goal.at.slice_bounds-result-end c).After-index, ap length c.deref.ensures.value)

pub overflow_add-result-2 : goal.overflow_add-result-2
overflow_add-result-2 c = omega (arith, room (goal.at.overflow_add-result-2 c).After-self)

pub slice_bounds-result-end-2 : goal.slice_bounds-result-end-2
slice_bounds-result-end-2 c =
    omega (arith, room (goal.at.slice_bounds-result-end-2 c).After-self, ap length c.deref-2.ensures.value)

pub returns-clause-counts : goal.returns-clause-counts
returns-clause-counts c =
    let p = goal.at.returns-clause-counts c in
    let w = c.args.width in
    let i = c.args.index in
    let o = c.index.result.now in
    let bs = c.self.inside.bases.items in
    let ss = c.self.inside.steps.items in
    let s = take (i * w + w - i * w) (drop (i * w) c.deref-2.result.now) in
    ap (λ (t : ClockTable). slice_get t.items i) (sym c.self.view_is)
    ∙ ClockTables.clock_at _ bs c.self.inside.starts.items ss i o (there p.After-index)
    ∙ ap (λ j. Some (sums (take j (drop o bs)) (take j (drop (i * j) ss)))) (width p.After-self)
    ∙ sym (ap (λ xs. Some (sums xs s)) (base p.After-deref-2)
    ∙ ap (λ ys. Some (sums (take w (drop o bs)) ys)) (steps p.After-deref-2))

pub returns-clause-length : goal.returns-clause-length
returns-clause-length c =
    let p = goal.at.returns-clause-length c in
    let w = c.args.width in
    let first = c.args.index * w in
    let o = c.index.result.now in
    let bs = c.self.inside.bases.items in
    let ss = c.self.inside.steps.items in
    let b_long = ap length (base p.After-deref-2)
    ∙ length-take-le w (drop o bs) (omega (arith, within p.After-index, length-drop o bs)) in
    let s_long = ap length (steps p.After-deref-2)
    ∙ length-take-le w (drop first ss) (omega (arith, room p.After-self, length-drop first ss)) in
    ClockTables.sums_count _ _ (b_long ∙ sym s_long) ∙ s_long ∙ c.requires.width
