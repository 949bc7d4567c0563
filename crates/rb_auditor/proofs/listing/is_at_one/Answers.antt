-- Each position is looked at.
use Rattle.std.proofs.Common.{◌≡◌, ◌∙◌, IsTrue, ap, sym, subst, arith, slice_get, get_or, inl, inr}
use Rattle.std.proofs.lemmas.Bool.{false≢true}
use Rattle.std.proofs.lemmas.Option.{get_or_from_slice_get}
use Rattle.rb_site.proofs.Public.Places.{same_number}
use Rattle.rb_site.proofs.Public.Recorded
use Rattle.rb_auditor.proofs.listing.is_at_one.Goals as goal

pub returns-then-is_at-clause-known : goal.returns-then-is_at-clause-known
returns-then-is_at-clause-known c = λ m here yes. Recorded.at_place c.args.posted.now.items
    (get_or c.args.positions.now c.loop-position.position-index 0) m
    ((c.is_at.ensures m here).0 (subst IsTrue (sym c.if-is_at.true) yes))

pub loop-position-preserved : goal.loop-position-preserved
loop-position-preserved c = λ m k position here less at known. elim (same_number c.loop-position.position-index k) [
  | inl e ↦
      let there : get_or c.args.positions.now c.loop-position.position-index 0 ≡ position =
      get_or_from_slice_get c.args.positions.now c.loop-position.position-index position 0
      (ap (slice_get c.args.positions.now) (sym e) ∙ at) in
      false≢true (sym c.if-is_at.false
      ∙ (c.is_at.ensures m here).1 (ap (slice_get c.args.posted.now.items) there ∙ known))
  | inr ne ↦ c.loop-position.invariant m k position here (omega arith) at known
]
