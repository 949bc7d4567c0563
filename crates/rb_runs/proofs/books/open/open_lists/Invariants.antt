-- So far there is a list for each of the first sites.
use Rattle.rb_runs.proofs.Words.{◌≡◌, map, take, SeenSite, state_of, applied_by, lacked}
use Rattle.rb_runs.proofs.books.open.open_lists.Given as goal

abbrev pub invariant-loop-site : goal.invariant-loop-site
invariant-loop-site l = map (λ list. list.items) l.lists.items
    ≡ map (λ (x : SeenSite). lacked x.settings.sites (applied_by l.sites) (state_of x).ops) (take l.site-index l.sites)
