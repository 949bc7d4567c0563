use Rattle.rb_ledger.proofs.Words.{◌∙◌, ◌-◌, ◌≤◌, Some, ap, arith, length, refl, subst, sym, slice_get, Settings}
use Rattle.rb_ledger.proofs.Words.{same_shadow-refl, Book}
use Rattle.rb_shadow.proofs.Public.SoundFacts
use Rattle.rb_ledger.proofs.FoundNames
use Rattle.rb_ledger.proofs.OperationTables
use Rattle.rb_ledger.proofs.ledger.Ledger.is_at.Goals as goal

pub overflow_sub-index : goal.overflow_sub-index
overflow_sub-index c = (FoundNames.other_near c.args.self.now.entries c.args.shadow.now.name c.args.position _ c.requires.there refl).0

pub is_at-requires-clause-near : goal.is_at-requires-clause-near
is_at-requires-clause-near c = omega (
  arith,
  (FoundNames.other_near c.args.self.now.entries c.args.shadow.now.name c.args.position _ c.requires.there refl).1,
  ap (λ (b : Book). length b.entries) c.self.view_is,
)

pub is_at-requires-clause-sites : goal.is_at-requires-clause-sites
is_at-requires-clause-sites c =
    OperationTables.of_sites c.args.self.now.settings c.args.shadow.now _ c.requires.sound
    (subst (λ (s : Settings). s.sites ≤ c.self.inside.entries.sites) (ap (λ (b : Book). b.settings) c.self.view_is) c.self.invariant.sites)

pub is_at-requires-clause-home : goal.is_at-requires-clause-home
is_at-requires-clause-home c = (SoundFacts.sound_facts _ c.args.shadow.now c.requires.sound).own

pub is_at-requires-clause-own : goal.is_at-requires-clause-own
is_at-requires-clause-own c = (SoundFacts.is_next _ c.args.shadow.now c.requires.sound).own

pub returns-then-is_at : goal.returns-then-is_at
returns-then-is_at c =
    let v = c.args.shadow.now in
    ap Some (sym (same_shadow-refl v))
    ∙ FoundNames.known c.args.self.now.entries v c.args.position v c.requires.there
    (ap (λ (b : Book). slice_get b.entries (c.args.position - 1)) (sym c.self.view_is) ∙ c.if-is_at.ensures refl)

pub unreachable-requires : goal.unreachable-requires
unreachable-requires c =
    FoundNames.nothing_missing c.args.self.now.entries c.args.shadow.now.name c.args.position c.requires.there
    (ap (λ (b : Book). slice_get b.entries (c.args.position - 1)) (sym c.self.view_is) ∙ sym c.in-None.ensures)

pub returns : goal.returns
returns c =
    ap Some c.same.ensures.same
    ∙ FoundNames.known c.args.self.now.entries c.args.shadow.now c.args.position c.in-Some.applied c.requires.there
    (ap (λ (b : Book). slice_get b.entries (c.args.position - 1)) (sym c.self.view_is) ∙ sym c.in-Some.ensures)
