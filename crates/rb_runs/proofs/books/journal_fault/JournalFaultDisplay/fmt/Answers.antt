-- The text of a wrong number of journals.
use Rattle.rb_runs.proofs.Words.{subst, sym, journal_reason_of}
use Rattle.std.specs.Fmt.{HasWritten}
use Rattle.rb_runs.proofs.books.journal_fault.JournalFaultDisplay.fmt.Goals as goal

pub returns-in-Count-clause-writes : goal.returns-in-Count-clause-writes
returns-in-Count-clause-writes g c = λ plain ok.
    subst (λ fault. HasWritten g.W.Write.write_str_gives c.args.f.now (journal_reason_of fault) c.write-in-Count.new.self)
    (sym c.in-Count.is) (c.write-in-Count.ensures.writes plain ok)
