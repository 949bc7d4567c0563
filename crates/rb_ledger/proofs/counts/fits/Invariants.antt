use Rattle.rb_ledger.proofs.Words.{◌≡◌, ◌<◌, ◌+◌, ◌∷◌, ℕ, true, get_or, kept_step, step_added}
use Rattle.rb_ledger.proofs.counts.fits.Given as goal

-- if all were near so far, the base with the steps added gives the counts so far
abbrev pub invariant-loop-site : goal.invariant-loop-site
invariant-loop-site l = l.near ≡ true → (k : ℕ) → k < l.site + 1 →
    step_added (get_or l.base k 0) (kept_step (get_or l.base k 0) (get_or (l.red ∷ l.blue) k 0)) ≡ get_or (l.red ∷ l.blue) k 0
