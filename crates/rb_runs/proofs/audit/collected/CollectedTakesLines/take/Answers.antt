-- The auditor has the entry of the line.
use Rattle.rb_runs.proofs.Words.{◌∙◌, Some, ap, sym, entry_on, input_rest}
use Rattle.rb_runs.proofs.Taken.{entry_taken}
use Rattle.rb_runs.proofs.Unanswered.{taken_unanswered}
use Rattle.rb_runs.proofs.audit.collected.CollectedTakesLines.take.Goals as goal

pub returns : goal.returns
returns c =
    let old = c.args.self.now in
    let new = c.take.new.self in
    let is = ap (λ s. entry_on s c.args.line.now) (sym c.config.ensures.same) ∙ c.in_ok-site.ensures.0 in
    taken_unanswered input_rest (Some old) (Some (record { auditor = new })) c.args.line.now
    (entry_taken old.auditor new (c.in_ok-site.site, c.entry_of.new.entry) c.args.line.now c.requires.short c.requires.some is
    c.in_ok-take.ensures.ok) c.args._buffered.now.items
