use Rattle.rb_history.proofs.Words.{counts_in, MOST_SITES_OF_VERSION_1, as_array, items_view, view, List, None, Some, ap, length, rules}
use Rattle.rb_history.proofs.Words.{sym, ℕ, ◌==◌, ◌∙◌, ◌≡◌, if◌then◌else◌, option_and_then}
use Rattle.rb_history.proofs.SiteCounts.{other_length}
use Rattle.rb_history.proofs.read.counts.first_counts.Goals as goal

pub returns-then-len-ne-MOST_SITES_OF_VERSION_1 : goal.returns-then-len-ne-MOST_SITES_OF_VERSION_1
returns-then-len-ne-MOST_SITES_OF_VERSION_1 c =
    let items = c.in_ok-items.items.now.items in
    let found : Some (items_view items) ≡ as_array (view c.args.value.now) = search rules in
    let long : c.len.result ≡ length items = search rules in
    sym (other_length items MOST_SITES_OF_VERSION_1 (λ e. c.if-len-ne-MOST_SITES_OF_VERSION_1.true (long ∙ e)))
    ∙ ap (λ o. option_and_then (λ (ns : List ℕ). if length ns == MOST_SITES_OF_VERSION_1 then Some ns else None)
    (option_and_then counts_in o)) found
