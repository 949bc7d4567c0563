-- So far there is a count for each entry below.
use Rattle.std.proofs.Common.{◌≡◌, ◌≤◌, length, take, vec_len, vec_capacity}
use Rattle.std.specs.Prelude.{map}
use Rattle.rb_shadow.specs.Operations.{cancel_count}
use Rattle.rb_shadow.specs.declared.shadow.Shadow.{Shadow}
use Rattle.rb_site.proofs.report_lists.with_counts.Given as goal

abbrev pub invariant-loop-before : goal.invariant-loop-before
invariant-loop-before l =
    (l.counts.items ≡ map (λ (u : Shadow). cancel_count l.ledger.entries u.name) (take l.before l.ledger.entries))
    × (vec_len l.counts ≡ l.before)
    × (length l.ledger.entries ≤ vec_capacity l.counts)
