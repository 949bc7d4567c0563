use Rattle.std.proofs.Common.{◌≡◌, ◌<◌, ◌+◌, ◌∷◌, ℕ, true, get_or}
use Rattle.rb_ledger.proofs.counts.is_same_of_many.Given as goal

-- if none differed so far, the entries so far are the same, but for the own one
abbrev pub invariant-loop-site : goal.invariant-loop-site
invariant-loop-site l = l.same ≡ true → (k : ℕ) → k < l.site + 1 → (k ≡ l.own → ⊥) →
    get_or l.kept k 0 ≡ get_or (l.red ∷ l.blue) k 0
