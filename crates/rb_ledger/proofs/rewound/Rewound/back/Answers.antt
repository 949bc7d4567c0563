use Rattle.rb_ledger.proofs.Words.{◌≡◌, ◌+◌, ◌-◌, ◌++◌, ◌∷◌, [], length, subst, sym, ap, ◌∙◌, refl, arith, Settings}
use Rattle.rb_ledger.proofs.Words.{parts_of, IsIndex, IsLinked, Rewinding, records_of}
use Rattle.rb_ledger.proofs.CheckpointFacts
use Rattle.rb_ledger.proofs.Cursors
use Rattle.rb_ledger.proofs.SeenLists
use Rattle.rb_ledger.proofs.rewound.Rewound.back.Goals as goal

pub pop-requires-in-Some : goal.pop-requires-in-Some
pop-requires-in-Some c =
    let next : c.self.inside.at ≡ c.self.inside.at - 1 + 1 = omega (arith, c.requires, ap (λ (w : Rewinding). w.at) c.self.view_is) in
    let latest = Cursors.latest _ _ _ (c.self.inside.at - 1) _ _ _ _ c.in-Some.undo c.self.invariant.at next c.in-Some.ensures.0 in
    let link = Cursors.linked _ _ _ _ latest.last c.at-links.result c.self.invariant.at.links latest.there
    c.at-links.ensures in (
      latest.last,
      subst (λ us. IsIndex c.self.inside.index.config (us ++ latest.last
          ∷ []) c.self.inside.index) (sym c.first-before.ensures) latest.index,
      c.spend.ensures ∙ latest.parts ∙ ap (λ us. parts_of c.self.inside.index.config us latest.last)
          (sym c.first-before.ensures),
      subst (λ us. IsLinked c.self.inside.index.config us latest.last c.at-links.result)
          (sym c.first-before.ensures) link,
    )

pub invariant_of-self : goal.invariant_of-self
invariant_of-self c =
    let next : c.self.inside.at ≡ c.self.inside.at - 1 + 1 = omega (arith, c.requires, ap (λ (w : Rewinding). w.at) c.self.view_is) in
    record {
      at = Cursors.back _ _ _ _ _ _ _ _ _ c.in-Some.undo c.self.invariant.at next c.in-Some.ensures.0 c.in-Some.ensures.1
          (subst (λ us. IsIndex c.self.inside.index.config us c.pop-in-Some.new.self) c.first-before.ensures
          c.pop-in-Some.ensures.index);
      cancelled = c.self.invariant.cancelled;
      checkpoints = CheckpointFacts.moved _ _ _ _ _ _ c.self.invariant.checkpoints c.pop-in-Some.ensures.index.config refl refl refl refl;
      sites = omega (arith, c.self.invariant.sites, ap (λ (s : Settings). s.sites) c.pop-in-Some.ensures.index.config);
      room = grind arith;
    }

pub unreachable-requires : goal.unreachable-requires
unreachable-requires c =
    Cursors.some_records _ _ _ _ _ _ c.self.invariant.at
    (omega (arith, c.requires, ap (λ (w : Rewinding). w.at) c.self.view_is)) c.in-None.ensures.0

pub overflow_sub-self : goal.overflow_sub-self
overflow_sub-self c =
    omega (arith, c.requires, ap (λ (w : Rewinding). w.at) c.self.view_is)

pub returns-clause-ledger : goal.returns-clause-ledger
returns-clause-ledger c = SeenLists.same_book c.self.inside.index.config _ _ _ _ _ _ (ap (λ (w : Rewinding). w.ledger) c.self.view_is)
    c.pop-in-Some.ensures.index.config refl (ap (λ n. n - length c.self.inside.entries.items) c.pop-in-Some.ensures.limit)

pub returns-clause-log : goal.returns-clause-log
returns-clause-log c =
    let len = length c.self.inside.entries.items in
    let same : c.pop.new.self.room - (len - (c.self.inside.at - 1)) ≡ c.self.inside.log.room - (len - c.self.inside.at) = omega (
      arith,
      c.requires,
      ap (λ (w : Rewinding). w.at) c.self.view_is,
      c.in-Some.ensures.1,
      c.self.invariant.at.within,
    ) in
    ap (λ s. Cursors.log (records_of s c.self.inside.entries.items) (c.pop.new.self.room - (len - (c.self.inside.at - 1))))
    c.pop-in-Some.ensures.index.config
    ∙ ap (Cursors.log (records_of c.self.inside.index.config c.self.inside.entries.items)) same
    ∙ ap (λ (w : Rewinding). w.log) c.self.view_is

pub returns-clause-at : goal.returns-clause-at
returns-clause-at c =
    omega (arith, c.requires, ap (λ (w : Rewinding). w.at) c.self.view_is)

pub at-links-requires : goal.at-links-requires
at-links-requires c =
    omega (
      arith,
      c.requires,
      ap (λ (w : Rewinding). w.at) c.self.view_is,
      c.self.invariant.at.within,
      c.self.invariant.at.links.count,
    )
