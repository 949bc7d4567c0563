-- A journal that isn't sealed isn't changed if a site doesn't start with it.
use Rattle.std.proofs.Common.{subst, sym, true≢false, ◌∙◌}
use Rattle.rb_journal.specs.Lines.{IsSealed}
use Rattle.rb_journal.proofs.Public.Moments.{started}
use Rattle.rb_run_site.specs.Seals.{IsSealRun}
use Rattle.rb_run_site.proofs.Sealing.{unchanged_run}
use Rattle.rb_run_site.proofs.seal.seal_site.Goals as goal

pub returns-clause-any_moment : goal.returns-clause-any_moment
returns-clause-any_moment g c =
    let host = g.H.Host in
    let file = c.args.bytes.items in
    let not : IsSealed file → ⊥ = λ is. true≢false
    (sym (c.is_sealed.ensures.1 (subst IsSealed (sym c.deref.ensures.value) is)) ∙ c.if-is_sealed.false) in
    started host.moment host.left_since c.args.host (IsSealRun file (host.output c.args.host))
    (λ f d left. let now = g.met.H.Host.only_now c.args.host f d left in
    unchanged_run file (host.output c.args.host) f d not (c.requires.durable now.0 f now.1 ∙ sym c.requires.bytes) now.2)
