-- One account more.
use Rattle.rb_runs.proofs.Words.{◌≡◌, ◌++◌, ◌∷◌, [], ◌∙◌, Some, ap, get_or, map, rules, slice_get, sym, account_of, NextBank}
use Rattle.rb_runs.proofs.NextAccounts.{added_at, left_at, one_more}
use Rattle.rb_runs.proofs.books.next.accounts.Goals as goal

pub loop-place-preserved : goal.loop-place-preserved
loop-place-preserved c =
    let s = c.args.config.now in
    let bs = c.args.balances.now in
    let i = c.loop-place.place in
    let name = c.in-Some.name.now in
    let done = map account_of c.loop-place.accounts.items in
    let there : slice_get s.names i ≡ Some name = search rules in
    let pushed : map account_of c.add.new.accounts.items ≡ done ++ (name, get_or bs i 0) ∷ [] = search rules in
    one_more done _ _ _ pushed
    ∙ ap (λ l. done ++ l) (sym (left_at s.names bs i name c.requires.each c.loop-place-test.true there))
    ∙ c.loop-place.invariant

pub loop-name-preserved : goal.loop-name-preserved
loop-name-preserved c =
    let items = c.ask.inside.added.now in
    let i = c.loop-name.name-index in
    let done = map account_of c.loop-name.accounts.items in
    let pushed = c.in_ok-add-2.ensures in
    one_more done _ _ _ pushed
    ∙ ap (λ l. done ++ l) (sym (added_at (λ name. name.now) items c.args.ask.now.added i _ (ap (λ (a : NextBank). a.added) c.ask.view_is)
    c.loop-name-test.true))
    ∙ c.loop-name.invariant
