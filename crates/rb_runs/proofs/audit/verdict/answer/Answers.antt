-- The order, or what shows that there is none.
use Rattle.rb_runs.proofs.Words.{ap, ◌∙◌, order_json, verdict_line}
use Rattle.rb_runs.proofs.Faulted.{faulted}
use Rattle.rb_runs.proofs.audit.verdict.answer.Goals as goal

pub returns-in_ok-order_line-in-Ok : goal.returns-in_ok-order_line-in-Ok
returns-in_ok-order_line-in-Ok c = record {
  order = c.in-Ok.order;
  certifies = c.in-Ok.ensures.certified;
  line_is = c.in_ok-order_line-in-Ok.ensures ∙ ap (λ o. verdict_line (order_json o)) c.as_slice.ensures;
}

pub returns-in_ok-fault_line-in-Err : goal.returns-in_ok-fault_line-in-Err
returns-in_ok-fault_line-in-Err c =
    faulted (record { settings = c.args.auditor.settings; histories = c.args.auditor.histories }) c.in-Err.fault _ c.in-Err.ensures.found
    c.in-Err.ensures.refuted c.in_ok-fault_line-in-Err.ensures
