-- The message at a position is at its place among all.
use Rattle.std.proofs.Common.{◌≡◌, ◌∙◌, ap, slice_get, sym}
use Rattle.std.proofs.lemmas.Bool.{eq-eqb}
use Rattle.rb_auditor.specs.MessageLists.{SentTable}
use Rattle.rb_auditor.proofs.Positions
use Rattle.rb_auditor.proofs.posted.Posted.is_at.Goals.{In-Some}
use Rattle.rb_auditor.proofs.posted.Posted.is_at.Goals as goal

-- the message that was sent at the position is at its place among all
sent_at : (c : In-Some)
    → slice_get c.args.self.now.items c.args.position ≡ slice_get c.args.self.now.all c.in-Some.known.now
sent_at c = Positions.at_place c.self.inside.all.now.items c.self.inside.places.items c.deref.result.now c.args.self.now
    c.args.position c.in-Some.known.now c.self.view_is c.self.invariant c.deref.ensures.value
    c.in-Some.ensures.lookup.3.0 c.in-Some.ensures.lookup.1

pub returns-then-known-place : goal.returns-then-known-place
returns-then-known-place c = λ m here.
    let at = sent_at (goal.at.returns-then-known-place c).In-Some in (
      λ yes. at ∙ ap (slice_get c.args.self.now.all) c.if-known-place.true ∙ here,
      λ there. eq-eqb _ _ c.if-known-place.true,
    )

pub returns-else-known-place : goal.returns-else-known-place
returns-else-known-place c = λ m here.
    let at = sent_at (goal.at.returns-else-known-place c).In-Some in
    let all = ap (λ (t : SentTable). slice_get t.all c.in-Some.known.now) c.self.view_is in
    let same = c.are_same.ensures m (ap (λ (t : SentTable). slice_get t.all c.args.place) c.self.view_is ∙ here) in (
      λ yes. at ∙ sym all ∙ same.0 yes,
      λ there. same.1 (all ∙ sym at ∙ there),
    )
