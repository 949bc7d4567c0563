use Rattle.rb_ledger.proofs.Words.{◌≡◌, suc, ◌+◌, ◌-◌, ◌<◌, ◌≤◌, [], ◌∷◌, ◌++◌, length, take, drop, Some, refl, ap, sym}
use Rattle.rb_ledger.proofs.Words.{◌∙◌, arith, mul-le-mul_right, slice_get, ClockTable, clocks_of}
use Rattle.rb_ledger.proofs.ClockTables
use Rattle.rb_ledger.proofs.clock_list.ClockList.push_of.Goals.{After-self, In-Some, After-push_reserved}
use Rattle.rb_ledger.proofs.clock_list.ClockList.push_of.Goals as goal

-- there is memory for one more clock
more : (c : After-self) → length c.self.inside.starts.items < c.self.inside.limit
more c = omega (
  arith,
  ClockTables.seen_count _ _ _ _ _ (ap (λ (t : ClockTable). t.items) c.self.view_is),
  ap (λ (t : ClockTable). t.limit) c.self.view_is,
)

-- the table's clocks have this number of counts
width : (c : After-self) → c.args.width ≡ c.self.inside.sites + 1
width c = omega (arith, ap (λ (t : ClockTable). t.sites) c.self.view_is)

-- where the last clock's base begins
there : (c : In-Some) →
    slice_get c.self.inside.starts.items (length c.self.inside.starts.items - 1) ≡ Some c.in-Some.last.now
there c = ClockTables.last_seen _ _ c.in-Some.last.now c.deref.ensures.value (sym c.in-Some.ensures.value)

-- that base is whole
within : (c : In-Some) → c.in-Some.last.now + (c.self.inside.sites + 1) ≤ length c.self.inside.bases.items
within c = ClockTables.based_at _ 0 _ c.self.inside.starts.items _ c.in-Some.last.now c.self.invariant.based (there c)

-- what is kept with one more clock by that base
longer : (c : After-push_reserved) → ClockTables.IsLonger (c.self.inside.sites + 1) c.self.inside.bases.items
    c.self.inside.starts.items c.self.inside.steps.items c.self.inside.bases.items c.push_reserved.new.self.items
    c.push_steps.new.steps.items (c.args.red ∷ c.args.blue.now)
longer c =
    let p = goal.at.After-push_reserved c in
    let w = c.self.inside.sites + 1 in
    let o = c.in-Some.last.now in
    let os = c.self.inside.starts.items in
    let low = ClockTables.based_low w 0 _ os (length os - 1) o c.self.invariant.based (there p.In-Some) in
    let fewer = mul-le-mul_right w (let e : length os - 1 ≤ length os = omega arith in e) in
    let end : o + c.args.width ≡ o + w = ap (λ k. o + k) (width p.After-self) in
    let base = ClockTables.range_seen o w _ _ _ end c.deref-in-Some.ensures.value in
    ClockTables.longer w o _ os _ _ _ _ _ c.self.invariant.based c.self.invariant.steps (omega arith) (omega arith)
    (within p.In-Some) (omega arith) base (c.if-fits.ensures refl) c.push_reserved.ensures.items
    c.push_steps.ensures.items

pub slice_bounds-base-end : goal.slice_bounds-base-end
slice_bounds-base-end c =
    let p = goal.at.slice_bounds-base-end c in
    omega (arith, within p.In-Some, width p.After-self, ap length c.deref-in-Some.ensures.value)

pub push_steps-requires-clause-room : goal.push_steps-requires-clause-room
push_steps-requires-clause-room c =
    let p = goal.at.push_steps-requires-clause-room c in
    let o = c.in-Some.last.now in
    omega (
      arith,
      ClockTables.room_more (c.self.inside.sites + 1) _ _ (more p.After-self),
      width p.After-self,
      ClockTables.at_most (o + c.args.width - o) (drop o c.deref-in-Some.result.now),
    )

pub push_reserved-requires : goal.push_reserved-requires
push_reserved-requires c = omega (arith, more (goal.at.push_reserved-requires c).After-self)

pub invariant_of-self : goal.invariant_of-self
invariant_of-self c =
    let l = longer (goal.at.invariant_of-self c).After-push_reserved in
    grind arith

pub returns-then-fits-clause-items : goal.returns-then-fits-clause-items
returns-then-fits-clause-items c =
    let w = c.self.inside.sites + 1 in
    let one : w ≡ suc c.self.inside.sites = omega arith in
    (longer (goal.at.returns-then-fits-clause-items c).After-push_reserved).clocks
    ∙ ap (λ k. clocks_of w c.self.inside.bases.items c.self.inside.starts.items c.self.inside.steps.items
    ++ take k (c.args.red ∷ c.args.blue.now) ∷ []) one
    ∙ ap (λ (t : ClockTable). t.items ++ (c.args.red ∷ take t.sites c.args.blue.now) ∷ []) c.self.view_is
