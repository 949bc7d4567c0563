-- The first site that doesn't record an entry.
use Rattle.std.proofs.Common.{◌≡◌, ◌∙◌, ◌+◌, ◌<◌, ◌≤◌, Some, length, subst, sym, arith}
use Rattle.std.specs.Prelude.{slice_get}
use Rattle.std.proofs.lemmas.Bool.{false≢true}
use Rattle.std.proofs.lemmas.Option.{slice_get_read}
use Rattle.rb_money.specs.declared.limits.TheConstants.{MOST_HISTORY}
use Rattle.rb_auditor.specs.Findings.{IsFirstWrong}
use Rattle.rb_auditor.specs.Kept.{histories_in}
use Rattle.rb_auditor.proofs.Judged
use Rattle.rb_auditor.proofs.wrong.first_wrong.Goals as goal

-- the number of steps
few : (c : goal.After-len) → c.len.result ≤ MOST_HISTORY
few c =
    let less : c.loop-site.site < c.args.config.now.sites = omega (arith, c.sites-site-end.ensures.same, c.loop-site-test.true) in
    let at : slice_get c.args.notes.now c.loop-site.site ≡ Some c.index-notes-site.result =
    slice_get_read c.args.notes.now c.args.config.now.sites c.loop-site.site c.index-notes-site.result (sym c.requires.1.notes) less
    c.index-notes-site.is in
    let most : length c.index-notes-site.result.steps.items ≤ MOST_HISTORY =
    Judged.steps_few c.args.config.now c.loop-site.site c.index-notes-site.result c.requires.0 c.sites-site-end.ensures.configured
    (c.requires.1.each c.loop-site.site c.index-notes-site.result at) in
    let size : c.len.result ≡ length c.index-notes-site.result.steps.items = c.len.ensures ∙ c.index-notes-site.result.steps.ok.0 in
    omega arith

pub overflow_cast-result : goal.overflow_cast-result
overflow_cast-result c = let most : c.len.result ≤ MOST_HISTORY = few c in omega arith

pub overflow_add-result : goal.overflow_add-result
overflow_add-result c = let most : c.len.result ≤ MOST_HISTORY = few c in omega arith

pub returns-then-not-are_whole-clause-some : goal.returns-then-not-are_whole-clause-some
returns-then-not-are_whole-clause-some c =
    let less : c.loop-site.site < c.args.config.now.sites = omega (arith, c.sites-site-end.ensures.same, c.loop-site-test.true) in
    let at : slice_get c.args.notes.now c.loop-site.site ≡ Some c.index-notes-site.result =
    slice_get_read c.args.notes.now c.args.config.now.sites c.loop-site.site c.index-notes-site.result (sym c.requires.1.notes) less
    c.index-notes-site.is in
    let size : c.len.result ≡ length c.index-notes-site.result.steps.items = c.len.ensures ∙ c.index-notes-site.result.steps.ok.0 in
    subst (λ k. IsFirstWrong c.args.config.now (histories_in c.args.notes.now) c.loop-site.site (k + 1)) (sym size)
    (Judged.wrong_found c.args.config.now c.args.notes.now c.requires.0 c.loop-site.site c.index-notes-site.result c.requires.1
    c.loop-site.invariant at (λ whole. false≢true (sym c.if-not-are_whole.true ∙ c.are_whole.ensures.1 whole)))

pub loop-site-preserved : goal.loop-site-preserved
loop-site-preserved c =
    let less : c.loop-site.site < c.args.config.now.sites = omega (arith, c.sites-site-end.ensures.same, c.loop-site-test.true) in
    Judged.whole_more c.args.notes.now c.loop-site.site c.index-notes-site.result c.loop-site.invariant
    (slice_get_read c.args.notes.now c.args.config.now.sites c.loop-site.site c.index-notes-site.result (sym c.requires.1.notes) less
    c.index-notes-site.is) (c.are_whole.ensures.0 c.if-not-are_whole.false)
