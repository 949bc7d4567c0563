use Rattle.rb_ledger.proofs.Words.{◌≡◌, ◌+◌, ◌-◌, ◌<◌, [], ◌∷◌, ◌++◌, length, Some, refl, ap, sym, ◌∙◌, subst, arith}
use Rattle.rb_ledger.proofs.Words.{length-take-le, slice_get, Settings, IsValid, parts_of, IsIndex, IsLinked, Rewinding}
use Rattle.rb_ledger.proofs.Words.{records_of}
use Rattle.rb_ledger.proofs.CheckpointFacts
use Rattle.rb_ledger.proofs.Cursors
use Rattle.rb_ledger.proofs.Lengths
use Rattle.rb_ledger.proofs.SeenLists
use Rattle.rb_ledger.proofs.rewound.Rewound.forth.Goals.{After-self, After-unwrap-shadow, After-first-before}
use Rattle.rb_ledger.proofs.rewound.Rewound.forth.Goals as goal

-- there is a next operation
more : (c : After-self) → c.self.inside.at < length c.self.inside.entries.items
more c = omega (
  arith,
  ap (λ (w : Rewinding). w.at) c.self.view_is,
  ap (λ (w : Rewinding). length w.ledger.entries) c.self.view_is,
)

-- it is the one that is read
there : (c : After-unwrap-shadow) → slice_get c.self.inside.entries.items c.self.inside.at ≡ Some c.unwrap-shadow.result
there c = sym c.get.ensures ∙ c.unwrap-shadow.ensures

-- those before it are as many as the position says
before : (c : After-first-before) → length c.first-before.result ≡ c.self.inside.at
before c = ap length c.first-before.ensures
    ∙ length-take-le c.self.inside.at c.self.inside.entries.items c.self.invariant.at.within

-- the index is theirs
index : (c : After-first-before) → IsIndex c.self.inside.index.config c.first-before.result c.self.inside.index
index c = subst (λ us. IsIndex c.self.inside.index.config us c.self.inside.index) (sym c.first-before.ensures)
    c.self.invariant.at.index

-- and they are valid with it
longer : (c : After-first-before) →
    IsValid c.self.inside.index.config (c.first-before.result ++ c.unwrap-shadow.result ∷ [])
longer c =
    let next = there (goal.at.After-first-before c).After-unwrap-shadow in
    subst (λ us. IsValid c.self.inside.index.config (us ++ c.unwrap-shadow.result ∷ [])) (sym c.first-before.ensures)
    (Cursors.next _ _ _ _ c.self.invariant.at.valid next)

pub parts-parts-requires-clause-longer : goal.parts-parts-requires-clause-longer
parts-parts-requires-clause-longer c = longer (goal.at.parts-parts-requires-clause-longer c).After-first-before

pub push-requires-clause-longer : goal.push-requires-clause-longer
push-requires-clause-longer c = longer (goal.at.push-requires-clause-longer c).After-first-before

pub push-requires-clause-links : goal.push-requires-clause-links
push-requires-clause-links c =
    let next = there (goal.at.push-requires-clause-links c).After-unwrap-shadow in
    subst (λ us. IsLinked c.self.inside.index.config us c.unwrap-shadow.result c.at-links.result)
    (sym c.first-before.ensures)
    (Cursors.linked _ _ _ _ _ c.at-links.result c.self.invariant.at.links next c.at-links.ensures)

pub invariant_of-self : goal.invariant_of-self
invariant_of-self c =
    let next = there (goal.at.invariant_of-self c).After-unwrap-shadow in
    record {
      at = Cursors.forth _ _ _ _ _ _ _ _ _ _ c.new.result c.self.invariant.at refl next
          (c.new.ensures ∙ c.parts-parts.ensures ∙ ap (λ us. parts_of c.self.inside.index.config us
          c.unwrap-shadow.result) c.first-before.ensures)
          c.push_reserved.ensures.parts c.push_reserved.ensures.room
          (subst (λ us. IsIndex c.self.inside.index.config (us ++ c.unwrap-shadow.result
          ∷ []) c.push.new.self) c.first-before.ensures c.push.ensures.index);
      cancelled = c.self.invariant.cancelled;
      checkpoints = CheckpointFacts.moved _ _ _ _ _ _ c.self.invariant.checkpoints c.push.ensures.index.config refl refl
          refl refl;
      sites = omega (arith, c.self.invariant.sites, ap (λ (s : Settings). s.sites) c.push.ensures.index.config);
      room = grind arith;
    }

pub parts-parts-requires-clause-index : goal.parts-parts-requires-clause-index
parts-parts-requires-clause-index c = index (goal.at.parts-parts-requires-clause-index c).After-first-before

pub push_reserved-requires : goal.push_reserved-requires
push_reserved-requires c = omega (arith, more (goal.at.push_reserved-requires c).After-self)

pub push-requires-clause-cancels : goal.push-requires-clause-cancels
push-requires-clause-cancels c =
    let p = goal.at.push-requires-clause-cancels c in
    omega (arith, before p.After-first-before, more p.After-self)

pub at-links-requires : goal.at-links-requires
at-links-requires c = omega (arith, more (goal.at.at-links-requires c).After-self)

pub push-requires-clause-index : goal.push-requires-clause-index
push-requires-clause-index c = index (goal.at.push-requires-clause-index c).After-first-before

pub push-requires-clause-parts : goal.push-requires-clause-parts
push-requires-clause-parts c = c.parts-parts.ensures

pub push-requires-clause-rows : goal.push-requires-clause-rows
push-requires-clause-rows c =
    let p = goal.at.push-requires-clause-rows c in
    omega (arith, before p.After-first-before, more p.After-self)

pub overflow_add-self : goal.overflow_add-self
overflow_add-self c =
    let long = Lengths.valid_length _ _ c.self.invariant.at.index.clocked.configured c.self.invariant.at.valid in
    omega (arith, more (goal.at.overflow_add-self c).After-self)

pub returns-clause-ledger : goal.returns-clause-ledger
returns-clause-ledger c =
    SeenLists.same_book c.self.inside.index.config _ _ _ _ _ _ (ap (λ (w : Rewinding). w.ledger) c.self.view_is)
    c.push.ensures.index.config refl (ap (λ n. n - length c.self.inside.entries.items) c.push.ensures.limit)

pub returns-clause-log : goal.returns-clause-log
returns-clause-log c =
    let at = c.self.inside.at in
    let len = length c.self.inside.entries.items in
    let room = c.push_reserved.new.self.room - (len - (at + 1)) in
    let same : room ≡ c.self.inside.log.room - (len - at) =
    omega (arith, more (goal.at.returns-clause-log c).After-self) in
    ap (λ s. Cursors.log (records_of s c.self.inside.entries.items) room)
    c.push.ensures.index.config
    ∙ ap (Cursors.log (records_of c.self.inside.index.config c.self.inside.entries.items)) same
    ∙ ap (λ (w : Rewinding). w.log) c.self.view_is

pub returns-clause-at : goal.returns-clause-at
returns-clause-at c = ap (λ n. n + 1) (ap (λ (w : Rewinding). w.at) c.self.view_is)
