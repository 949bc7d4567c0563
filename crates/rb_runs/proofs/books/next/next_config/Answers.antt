-- The settings are those of the accounts, in the version that is asked for.
use Rattle.rb_runs.proofs.Words.{◌∙◌, ap, map, sym, account_of, in_version_2}
use Rattle.rb_runs.proofs.NextAccounts.{made_first, made_second}
use Rattle.rb_runs.proofs.books.next.next_config.Goals as goal

pub returns-then-version-eq2-clause-next : goal.returns-then-version-eq2-clause-next
returns-then-version-eq2-clause-next c =
    c.to_version2.ensures ∙ ap in_version_2 c.in_ok-next.ensures.config
    ∙ made_second c.args.config.now c.args.balances.now c.args.ask.now c.sites.result
    (map account_of c.in-Ok.accounts.items) c.limits.result c.requires.each c.sites.ensures c.in-Ok.ensures.all c.limits.ensures
    (sym c.version.ensures.same ∙ c.if-version-eq2.true)

pub returns-else-version-eq2-clause-next : goal.returns-else-version-eq2-clause-next
returns-else-version-eq2-clause-next c =
    c.in_ok-next.ensures.config
    ∙ made_first c.args.config.now c.args.balances.now c.args.ask.now c.sites.result
    (map account_of c.in-Ok.accounts.items) c.limits.result c.requires.each c.sites.ensures c.in-Ok.ensures.all c.limits.ensures
    (λ two. c.if-version-eq2.false (c.version.ensures.same ∙ two))
