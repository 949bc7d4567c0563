-- This number of journals was taken, and nothing was at fault.
use Rattle.rb_runs.proofs.Words.{◌≡◌, HasTaken}
use Rattle.rb_runs.proofs.books.run.take_all.Given as goal

abbrev pub invariant-loop-site : goal.invariant-loop-site
invariant-loop-site g l = record {
  taken : HasTaken l.closing l.ask (g.F.JournalFiles.read l.files);
  at : l.closing.taken ≡ l.site;
  journals : l.closing.journals ≡ l.journals;
  same : g.F.JournalFiles.known l.files ≡ g.F.JournalFiles.known l.initial.files;
}
