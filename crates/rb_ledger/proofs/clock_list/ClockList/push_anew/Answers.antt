use Rattle.rb_ledger.proofs.Words.{◌≡◌, ◌+◌, ◌-◌, ◌<◌, ◌≤◌, [], ◌∷◌, ◌++◌, length, take, drop, ap, ◌∙◌, arith}
use Rattle.rb_ledger.proofs.Words.{length-take-le, mul-le-mul_right, take_all, ClockTable, clocks_of}
use Rattle.rb_ledger.proofs.ClockTables
use Rattle.rb_ledger.proofs.clock_list.ClockList.push_anew.Goals.{After-self, After-push_reserved}
use Rattle.rb_ledger.proofs.clock_list.ClockList.push_anew.Goals as goal

-- as many clocks are kept as there are
count : (c : After-self) → length c.self.inside.starts.items ≡ length c.args.self.now.items
count c = ClockTables.seen_count _ _ _ _ _ (ap (λ (t : ClockTable). t.items) c.self.view_is)

-- there is memory for one more clock
more : (c : After-self) → length c.self.inside.starts.items < c.self.inside.limit
more c = omega (arith, count c, ap (λ (t : ClockTable). t.limit) c.self.view_is)

-- of the clock an entry for each site is kept, and the red one
all : (c : After-self) → c.self.inside.sites + 1 ≡ length (c.args.red ∷ take c.self.inside.sites c.args.blue.now)
all c = omega (arith, length-take-le c.self.inside.sites c.args.blue.now (omega arith))

-- what is kept with one more clock by a base of its own
longer : (c : After-push_reserved) → ClockTables.IsLonger (c.self.inside.sites + 1) c.self.inside.bases.items
    c.self.inside.starts.items c.self.inside.steps.items c.push_base.new.bases.items c.push_reserved.new.self.items
    c.push_steps.new.steps.items (c.args.red ∷ take c.self.inside.sites c.args.blue.now)
longer c =
    let w = c.self.inside.sites + 1 in
    let o = c.len-start.result in
    let at : o ≡ length c.self.inside.bases.items = omega arith in
    let base = ClockTables.range_seen o w (o + c.self.inside.sites + 1) _ _ (omega arith) c.deref.ensures.value in
    ClockTables.longer_anew w o _ _ _ _ _ _ _ _ c.self.invariant.based c.self.invariant.steps c.self.invariant.few at
    (all (goal.at.After-push_reserved c).After-self) c.push_base.ensures.items base c.push_base.ensures.near
    c.push_reserved.ensures.items c.push_steps.ensures.items

pub push_base-requires : goal.push_base-requires
push_base-requires c =
    let room = ClockTables.room_more (c.self.inside.sites + 1) _ _ (more (goal.at.push_base-requires c).After-self) in
    let short = ClockTables.at_most c.self.inside.sites c.args.blue.now in
    record { room = omega arith }

pub push_steps-requires-clause-room : goal.push_steps-requires-clause-room
push_steps-requires-clause-room c =
    let o = c.len-start.result in
    omega (
      arith,
      ClockTables.room_more (c.self.inside.sites + 1) _ _ (more (goal.at.push_steps-requires-clause-room c).After-self),
      ClockTables.at_most (o + c.self.inside.sites + 1 - o) (drop o c.deref.result.now),
    )

pub push_reserved-requires : goal.push_reserved-requires
push_reserved-requires c = omega (arith, more (goal.at.push_reserved-requires c).After-self)

pub overflow_cast-start : goal.overflow_cast-start
overflow_cast-start c =
    let same = count (goal.at.overflow_cast-start c).After-self in
    let many : length c.self.inside.starts.items ≤ 17000000 = omega arith in
    omega (arith, mul-le-mul_right (c.self.inside.sites + 1) many)

pub invariant_of-self : goal.invariant_of-self
invariant_of-self c =
    let l = longer (goal.at.invariant_of-self c).After-push_reserved in
    grind arith

pub returns-clause-items : goal.returns-clause-items
returns-clause-items c =
    let p = goal.at.returns-clause-items c in
    let w = c.self.inside.sites + 1 in
    (longer p.After-push_reserved).clocks
    ∙ ap (λ xs. clocks_of w c.self.inside.bases.items c.self.inside.starts.items c.self.inside.steps.items ++ xs ∷ [])
    (take_all w (c.args.red ∷ take c.self.inside.sites c.args.blue.now) (omega (arith, all p.After-self)))
    ∙ ap (λ (t : ClockTable). t.items ++ (c.args.red ∷ take t.sites c.args.blue.now) ∷ []) c.self.view_is
