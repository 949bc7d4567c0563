-- All journals were taken, so there is a bank, and its accounts may be added.
use Rattle.rb_runs.proofs.Words.{◌∙◌, sym}
use Rattle.rb_runs.proofs.TakenFiles.{added-there, bank-there}
use Rattle.rb_runs.proofs.books.run.run_close.Goals as goal

pub unreachable-requires : goal.unreachable-requires
unreachable-requires g c = let took = c.in_default-take_all.ensures.taken in
    bank-there c.take_all.new.closing c.args.ask.now _ c.args.journals took.0 took.1 c.requires.some
    (sym c.into_auditor.ensures ∙ c.in_default-into_auditor.is)

pub answer_closing-requires : goal.answer_closing-requires
answer_closing-requires g c = record {
  sites = c.requires.sites;
  added = added-there c.take_all.new.closing c.args.ask.now _ c.in-Some.auditor c.in_default-take_all.ensures.taken.0
      (sym c.into_auditor.ensures ∙ c.in-Some.is);
}
