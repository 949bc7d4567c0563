use Rattle.rb_runs.proofs.Words.{None, Some, input_rest}
use Rattle.rb_runs.proofs.Taken.{config_taken}
use Rattle.rb_runs.proofs.Unanswered.{taken_unanswered}
use Rattle.rb_runs.proofs.audit.collected.CollectedTakesLines.open.Goals as goal

pub returns : goal.returns
returns c =
    let auditor = c.in_ok-auditor.auditor in
    taken_unanswered input_rest None (Some (record { auditor = auditor })) c.args.line.now
    (config_taken auditor c.in_ok-config.config c.args.line.now c.requires.short c.requires.some c.in_ok-config.ensures
    c.in_ok-auditor.ensures.settings c.in_ok-auditor.ensures.none) c.args._buffered.now.items
