-- Histories that aren't one for each site, or that their sites don't record, aren't certified.
use Rattle.std.proofs.Common.{◌≡◌, ◌∙◌, ◌<◌, Some, sym, subst, length, arith, inl, inr}
use Rattle.std.specs.Prelude.{slice_get}
use Rattle.std.proofs.lemmas.Bool.{false≢true}
use Rattle.std.proofs.lemmas.Option.{slice_get_within}
use Rattle.rb_site.proofs.Public.Places.{same_number}
use Rattle.rb_auditor.specs.Findings.{IsReplay, lists_of}
use Rattle.rb_auditor.proofs.Listed
use Rattle.rb_auditor.proofs.Refuting
use Rattle.rb_auditor.proofs.checking.check.check.Goals as goal

pub returns-then-histories-sites-clause-certified : goal.returns-then-histories-sites-clause-certified
returns-then-histories-sites-clause-certified c = (
  λ t. absurd (false≢true t),
  λ cert. absurd (c.if-histories-sites.true (sym (Listed.length_lists c.args.histories.now)
      ∙ Refuting.one_for_each c.args.config.now (lists_of c.args.histories.now) c.args.certificate.now cert ∙ sym c.sites.ensures.same)),
)

pub returns-then-not-branch-clause-certified : goal.returns-then-not-branch-clause-certified
returns-then-not-branch-clause-certified c =
    let s = c.args.config.now in
    let hs = lists_of c.args.histories.now in
    let there : slice_get hs c.loop-site.site ≡ Some c.index-histories-site.result.items =
    Listed.row_at c.args.histories.now c.loop-site.site c.index-histories-site.result
    (omega (arith, c.sites.ensures.same, c.sites-site-end.ensures.same, c.if-histories-sites.false, c.loop-site-test.true))
    c.index-histories-site.is in (
      λ t. absurd (false≢true t),
      λ cert. absurd (false≢true (sym c.if-not-branch.true ∙ c.in_ok-is_recorded.ensures.1
          (subst (IsReplay s c.loop-site.site) (sym c.as_slice.ensures.value)
          (Refuting.one_worlds_replay s hs c.loop-site.site c.index-histories-site.result.items
          (Refuting.one_worlds s hs c.args.certificate.now cert) there)))),
    )

pub loop-site-preserved : goal.loop-site-preserved
loop-site-preserved c i h less at =
    let s = c.args.config.now in
    let hs = lists_of c.args.histories.now in
    let there : slice_get hs c.loop-site.site ≡ Some c.index-histories-site.result.items =
    Listed.row_at c.args.histories.now c.loop-site.site c.index-histories-site.result
    (omega (arith, c.sites.ensures.same, c.sites-site-end.ensures.same, c.if-histories-sites.false, c.loop-site-test.true))
    c.index-histories-site.is in
    let here : IsReplay s c.loop-site.site c.index-histories-site.result.items =
    subst (IsReplay s c.loop-site.site) c.as_slice.ensures.value (c.in_ok-is_recorded.ensures.0 c.if-not-branch.false) in
    elim (same_number c.loop-site.site i) [
      | inl e ↦ (let same : h ≡ c.index-histories-site.result.items = cc (there, e, at) in rw (e, same) here)
      | inr ne ↦ c.loop-site.invariant i h (omega (arith, less, ne)) at
    ]

pub follow-requires-clause-replays : goal.follow-requires-clause-replays
follow-requires-clause-replays c i h at =
    let within : i < length (lists_of c.args.histories.now) = slice_get_within (lists_of c.args.histories.now) i h at in
    let size : length (lists_of c.args.histories.now) ≡ length c.args.histories.now =
    Listed.length_lists c.args.histories.now in
    c.loop-site.invariant i h
    (omega (arith, c.sites.ensures.same, c.sites-site-end.ensures.same, c.if-histories-sites.false, c.loop-site-test.false)) at
