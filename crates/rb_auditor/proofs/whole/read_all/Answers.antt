-- One history more was read.
use Rattle.std.proofs.Common.{◌≡◌, ◌∙◌, ◌<◌, [], Some, ap, sym, subst, length, arith}
use Rattle.std.specs.Prelude.{replicate, slice_get}
use Rattle.rb_auditor.specs.Audits.{HasMore}
use Rattle.rb_auditor.specs.Findings.{lists_of}
use Rattle.rb_auditor.proofs.Listed
use Rattle.rb_auditor.proofs.Read
use Rattle.rb_auditor.proofs.Results.{went_well}
use Rattle.rb_auditor.proofs.whole.read_all.Goals as goal

pub loop-site-init : goal.loop-site-init
loop-site-init c =
    let count : length (lists_of c.args.histories.now) ≡ c.args.config.now.sites =
    Listed.length_lists c.args.histories.now ∙ c.requires in (
      c.in_ok-auditor.ensures.settings ∙ c.in_ok-try_copy.ensures.same,
      c.in_ok-auditor.ensures.none ∙ ap (λ s. replicate s.sites []) c.in_ok-try_copy.ensures.same
          ∙ ap (λ n. replicate n []) (sym count)
          ∙ Read.filled_none (lists_of c.args.histories.now),
    )

pub read-requires : goal.read-requires
read-requires c = omega (
  arith,
  Listed.length_lists c.args.histories.now,
  ap length c.loop-site.invariant.1,
  Read.filled_length (lists_of c.args.histories.now) c.loop-site.site,
  c.sites-site-end.ensures.same,
  c.loop-site-test.true,
)

pub loop-site-preserved : goal.loop-site-preserved
loop-site-preserved c =
    let less : c.loop-site.site < length c.args.histories.now =
    omega (arith, c.sites-site-end.ensures.same, c.loop-site-test.true, c.requires) in
    let at : slice_get (lists_of c.args.histories.now) c.loop-site.site ≡ Some c.index-histories-site.result.items =
    Listed.row_at c.args.histories.now c.loop-site.site c.index-histories-site.result less c.index-histories-site.is in
    let more : HasMore c.loop-site.auditor c.read.new.auditor c.loop-site.site c.as_slice.result.now =
    went_well c.read.result (sym c.if-is_err.ensures.value) c.read.ensures.ok in (
      c.read.ensures.settings ∙ c.loop-site.invariant.0,
      Read.filled_next c.loop-site.auditor c.read.new.auditor (lists_of c.args.histories.now) c.loop-site.site
          c.index-histories-site.result.items c.loop-site.invariant.1 at
          (subst (HasMore c.loop-site.auditor c.read.new.auditor c.loop-site.site) c.as_slice.ensures.value more),
    )

pub returns-clause-histories : goal.returns-clause-histories
returns-clause-histories c =
    c.loop-site.invariant.1 ∙ Read.filled_all (lists_of c.args.histories.now) c.loop-site.site
    (omega (arith, Listed.length_lists c.args.histories.now, c.requires, c.sites-site-end.ensures.same, c.loop-site-test.false))
