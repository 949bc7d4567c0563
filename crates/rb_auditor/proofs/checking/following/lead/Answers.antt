-- One entry more is taken in the order.
use Rattle.std.proofs.Common.{◌≡◌, ◌∙◌, ◌+◌, ◌<◌, ◌∷◌, [], Some, sym}
use Rattle.std.proofs.Common.{subst, length, get_or, take, drop, arith}
use Rattle.std.specs.Prelude.{slice_get}
use Rattle.std.proofs.lemmas.List.{drop_all, take_all, take_more, drop_more}
use Rattle.std.proofs.lemmas.Option.{slice_get_read}
use Rattle.rb_auditor.specs.Certificates.{Certifies}
use Rattle.rb_auditor.specs.Findings.{lists_of}
use Rattle.rb_auditor.specs.Progress.{IsHeldUp, IsTaking, first_progress}
use Rattle.rb_auditor.specs.Walks.{TakesNext, progress_of}
use Rattle.rb_auditor.proofs.Following
use Rattle.rb_auditor.proofs.Following.{IsFollowing}
use Rattle.rb_auditor.proofs.Listed
use Rattle.rb_auditor.proofs.Results
use Rattle.rb_auditor.proofs.Takings
use Rattle.rb_auditor.proofs.Walking
use Rattle.rb_auditor.proofs.checking.following.lead.Goals.{After-as_slice, After-sites}
use Rattle.rb_auditor.proofs.checking.following.lead.Goals as goal

pub loop-place-init : goal.loop-place-init
loop-place-init c =
    let s = c.args.config.now in
    let hs = lists_of c.args.histories.now in
    let n : length hs ≡ s.sites = Listed.length_lists c.args.histories.now ∙ c.requires.one in
    let first : progress_of s hs [] c.args.sites.now.items c.new-sent.result.messages.items ≡ first_progress s hs =
    Walking.nothing_taken s hs c.args.sites.now.items c.new-sent.result.messages.items c.requires.first n c.new-sent.ensures in (
      Walking.along_first s hs c.args.sites.now.items c.requires.first n,
      subst IsTaking (sym first) (Takings.first_taken s hs n c.requires.replays),
      λ cert. subst (λ p. IsFollowing p c.args.order.now) (sym first) (Following.following s hs c.args.order.now n cert),
    )

-- what is left of the order, by its next place
rest : (c : After-sites) → Certifies c.args.config.now (lists_of c.args.histories.now) c.args.order.now → IsFollowing
    (progress_of c.args.config.now (lists_of c.args.histories.now) (take c.loop-place.place-index c.args.order.now)
    c.loop-place.sites.items c.loop-place.sent.messages.items)
    (get_or c.args.order.now c.loop-place.place-index 0 ∷ drop (c.loop-place.place-index + 1) c.args.order.now)
rest c cert =
    rw (drop_more c.args.order.now c.loop-place.place-index 0 c.loop-place-test.true) at (c.loop-place.invariant.2 cert)

pub returns-then-place-sites : goal.returns-then-place-sites
returns-then-place-sites c =
    let n = Listed.length_lists c.args.histories.now ∙ c.requires.one in
    Results.denied _ (λ cert. Following.names_a_site _ _ _ c.loop-place.invariant.1
    (omega (arith, n, c.sites.ensures.same, c.if-place-sites.true))
    (rest (goal.at.returns-then-place-sites c).After-sites cert))

-- the history that the next place of the order names, and its site
here : (c : After-as_slice)
    → (slice_get (lists_of c.args.histories.now) (get_or c.args.order.now c.loop-place.place-index 0)
    ≡ Some c.index-histories-site.result.items)
    × (slice_get c.loop-place.sites.items (get_or c.args.order.now c.loop-place.place-index 0)
    ≡ Some c.index_mut.result.now)
here c =
    let n : length (lists_of c.args.histories.now) ≡ c.args.config.now.sites =
    Listed.length_lists c.args.histories.now ∙ c.requires.one in
    let less : get_or c.args.order.now c.loop-place.place-index 0 < c.args.config.now.sites =
    omega (arith, c.sites.ensures.same, c.if-place-sites.false) in (
      Listed.row_at c.args.histories.now _ c.index-histories-site.result (omega (arith, c.requires.one))
          c.index-histories-site.is,
      slice_get_read c.loop-place.sites.items c.args.config.now.sites _ c.index_mut.result.now
          (sym n ∙ sym c.loop-place.invariant.0.sites) less c.index_mut.ensures.value,
    )

pub take_next-requires-clause-along : goal.take_next-requires-clause-along
take_next-requires-clause-along c =
    let at = here (goal.at.take_next-requires-clause-along c).After-as_slice in
    (Walking.at_site _ c.loop-place.invariant.0 c.requires.replays at.0 at.1 c.as_slice.ensures.value).0

pub take_next-requires-clause-replays : goal.take_next-requires-clause-replays
take_next-requires-clause-replays c =
    let at = here (goal.at.take_next-requires-clause-replays c).After-as_slice in
    (Walking.at_site _ c.loop-place.invariant.0 c.requires.replays at.0 at.1 c.as_slice.ensures.value).1

pub returns-then-not-branch : goal.returns-then-not-branch
returns-then-not-branch c =
    let p = goal.at.returns-then-not-branch c in
    let at = here p.After-as_slice in
    let held : IsHeldUp c.loop-place.sent.messages.items
    (drop (length c.index_mut.result.now.entries) c.as_slice.result.now) =
    rw c.if-not-branch.true at c.in_ok-take_next.ensures in
    Results.denied _ (λ cert. Following.never_rests _ _ _ c.loop-place.invariant.1
    (Walking.rests c.loop-place.sites.items at.0 at.1 (rw c.as_slice.ensures.value at held)) (rest p.After-sites cert))

pub loop-place-preserved : goal.loop-place-preserved
loop-place-preserved c =
    let order = c.args.order.now in
    let k = c.loop-place.place-index in
    let p = goal.at.loop-place-preserved c in
    let at = here p.After-as_slice in
    let given : TakesNext c.index_mut.result.now c.take_next.new.site c.as_slice.result.now
    c.loop-place.sent.messages.items
    c.take_next.new.sent.messages.items = rw c.if-not-branch.false at c.in_ok-take_next.ensures in
    let taken = rw c.as_slice.ensures.value at given in
    let took = Walking.took {order = take k order} c.loop-place.invariant.0 at.0 at.1 taken in
    let more = sym (take_more order k 0 c.loop-place-test.true) in (
      Walking.along_next _ c.loop-place.invariant.0 at.0 at.1 taken,
      rw more at (Takings.took_one _ _ _ c.loop-place.invariant.1 took),
      λ cert. rw more at (Following.following_next _ _ _ (drop (k + 1) order) c.loop-place.invariant.1 took
          (rest p.After-sites cert)),
    )

pub returns : goal.returns
returns c =
    let hs = lists_of c.args.histories.now in
    let order = c.args.order.now in
    let k = c.loop-place.place-index in
    let taking = c.loop-place.invariant.1 in
    Results.decided c.are_at_end.result _ _ _ c.are_at_end.ensures
    (λ end. rw (take_all k order c.loop-place-test.false) at (Takings.all_certified _ taking
    (Walking.done _ hs _ c.loop-place.sites.items _ taking (rw c.as_slice-2.ensures.value at end))))
    (λ before cert. Following.nothing_left _ taking
    (Walking.left _ hs _ c.loop-place.sites.items _ (rw c.as_slice-2.ensures.value at before))
    (rw (drop_all k order c.loop-place-test.false) at (c.loop-place.invariant.2 cert)))
