-- One account more.
use Rattle.rb_runs.proofs.Words.{◌++◌, ◌∙◌, ap, map, refl, sym, account_of}
use Rattle.rb_runs.proofs.NextAccounts.{added_at, one_more}
use Rattle.rb_runs.proofs.books.added.named.Goals as goal

pub loop-name-preserved : goal.loop-name-preserved
loop-name-preserved c =
    let items = c.args.names.now in
    let i = c.loop-name.name-index in
    let done = map account_of c.loop-name.accounts.items in
    one_more done _ _ _ c.in_ok-add.ensures
    ∙ ap (λ l. done ++ l) (sym (added_at (λ name. name.now) items (map (λ name. name.now) items) i _ refl c.loop-name-test.true))
    ∙ c.loop-name.invariant
