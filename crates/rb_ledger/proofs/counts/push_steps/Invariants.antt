use Rattle.rb_ledger.proofs.Words.{◌≡◌, ◌<◌, ◌+◌, ◌∷◌, ℕ, get_or, length, MOST_SITES, kept_step}
use Rattle.rb_ledger.proofs.counts.push_steps.Given as goal

-- the steps so far
abbrev pub invariant-loop-site : goal.invariant-loop-site
invariant-loop-site l = record {
  count : length l.all ≡ MOST_SITES + 1;
  steps : (k : ℕ) → k < l.site + 1 → get_or l.all k 0 ≡ kept_step (get_or l.base k 0) (get_or (l.red ∷ l.blue) k 0);
}
