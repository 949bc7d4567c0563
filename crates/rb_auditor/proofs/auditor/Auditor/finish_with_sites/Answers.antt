-- The notes are right, and the sites are at the end of their histories.
use Rattle.std.proofs.Common.{◌∙◌, ap, subst}
use Rattle.rb_auditor.specs.Audits.{Audited}
use Rattle.rb_auditor.specs.Certificates.{Certifies}
use Rattle.rb_auditor.specs.Findings.{IsFound}
use Rattle.rb_auditor.specs.Kept.{histories_in}
use Rattle.rb_auditor.specs.Replays.{ended_sites}
use Rattle.rb_auditor.proofs.Ended
use Rattle.rb_auditor.proofs.Kept
use Rattle.rb_auditor.proofs.auditor.Auditor.finish_with_sites.Goals as goal

pub find-requires : goal.find-requires
find-requires c = rw c.as_slice.ensures.value (Kept.judged_all c.self.invariant)

pub returns-in-Ok-clause-sites : goal.returns-in-Ok-clause-sites
returns-in-Ok-clause-sites c =
    Ended.sites_ended c.self.invariant
    (subst (λ ns. Certifies c.self.inside.config (histories_in ns) c.in-Ok.order) c.as_slice.ensures.value c.in-Ok.ensures.certified)
    ∙ ap (λ (a : Audited). ended_sites a.settings 0 a.histories) c.self.view_is

pub returns-clause-found : goal.returns-clause-found
returns-clause-found c =
    subst (λ (a : Audited). IsFound a.settings a.histories c.in-Err.fault) c.self.view_is
    (subst (λ ns. IsFound c.self.inside.config (histories_in ns) c.in-Err.fault) c.as_slice.ensures.value c.in-Err.ensures.found)
