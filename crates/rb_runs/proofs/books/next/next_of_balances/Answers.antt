-- Nothing can be wrong.
use Rattle.rb_runs.proofs.Words.{sym, ◌∙◌}
use Rattle.rb_runs.proofs.NextAccounts.{no_fault}
use Rattle.rb_runs.proofs.books.next.next_of_balances.Goals as goal

pub unreachable-requires : goal.unreachable-requires
unreachable-requires c =
    let none = no_fault c.args.config.now c.args.balances.now c.args.ask.now c.in-Err.ensures.configured c.requires.each
    c.requires.few c.requires.proper in
    let wrong = sym none ∙ c.in-Err.ensures.first c.in_default.not-OutOfMemory in
    cc
