-- The line of a fault of an audit.
use Rattle.rb_runs.proofs.Words.{ℕ, List, false, inl, inr, IsFaultLine, ReportsVerdict, Input}
use Rattle.rb_auditor.specs.declared.audit_fault.AuditFault.{AuditFault}
use Rattle.rb_auditor.specs.declared.audit_fault.AuditFault.TheVariants.{OutOfMemory, Stuck, WrongReply}
use Rattle.rb_auditor.specs.Findings.{IsFound, Refutes}

-- the line of what an audit found is its verdict
pub faulted : (x : Input) (fault : AuditFault) (line : List ℕ) → IsFound x.settings x.histories fault
    → Refutes x.settings x.histories fault → IsFaultLine fault line → ReportsVerdict false x line
faulted x (WrongReply site event) line found refuted is = (
  refuted,
  inl (record { site = site; event = event; first = found; line_is = is }),
)
faulted x (Stuck next) line found refuted is = (refuted, inr (record { next = next.items; stuck = found; line_is = is }))
faulted x OutOfMemory line found refuted is = absurd is
