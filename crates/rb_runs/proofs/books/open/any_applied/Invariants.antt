-- None of the sites so far has applied it.
use Rattle.rb_runs.proofs.Words.{◌≡◌, drop, list_any, names, applied_by}
use Rattle.rb_runs.proofs.books.open.any_applied.Given as goal

abbrev pub invariant-loop-site : goal.invariant-loop-site
invariant-loop-site l = list_any (λ us. names us l.name) (applied_by (drop l.site-index l.sites))
    ≡ list_any (λ us. names us l.name) (applied_by l.sites)
