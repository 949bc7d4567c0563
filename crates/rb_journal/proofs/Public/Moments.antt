-- How a run of a host's calls goes on.
use Rattle.std.proofs.Common.{inl, inr, ⊎_elim, ℕ, List, arith}
use Rattle.rb_journal.specs.Host.{Elapses, LeavesOnly}

module _ {H : Type 0} (moment : H → ℕ) (left_since : H → ℕ → List ℕ → List ℕ → Type 0) where
  -- before the first call
  pub started : (old : H) (P : List ℕ → List ℕ → Type 0) → ((c d : List ℕ) → left_since old (moment old) c d → P c d) →
      LeavesOnly moment left_since old old P
  started old P here = record { later = omega arith; each = here; before = λ t c d le left. inl left }

  -- one call more, during which a crash leaves what has P
  pub goes_on : (old mid new : H) (P during : List ℕ → List ℕ → Type 0) → LeavesOnly moment left_since old mid P →
      Elapses moment left_since mid new during
      → ((c d : List ℕ) → during c d → P c d) → LeavesOnly moment left_since old new P
  goes_on old mid new P during so_far time here = record {
    later = omega (arith, so_far.later, time.later);
    each = λ c d left. ⊎_elim (so_far.each c d) (here c d) (time.nothing_else (moment old) c d so_far.later left);
    before = λ t c d le left. ⊎_elim (so_far.before t c d le) (λ now. inr (here c d now))
        (time.nothing_else t c d (omega (arith, le, so_far.later)) left);
  }

  -- one run and then another
  pub runs_on : (old mid new : H) (P Q : List ℕ → List ℕ → Type 0) → LeavesOnly moment left_since old mid P →
      LeavesOnly moment left_since mid new Q → ((c d : List ℕ) → Q c d → P c d)
      → LeavesOnly moment left_since old new P
  runs_on old mid new P Q so_far then_on here = record {
    later = omega (arith, so_far.later, then_on.later);
    each = λ c d left. ⊎_elim (so_far.each c d) (here c d) (then_on.before (moment old) c d so_far.later left);
    before = λ t c d le left. ⊎_elim (so_far.before t c d le) (λ now. inr (here c d now))
        (then_on.before t c d (omega (arith, le, so_far.later)) left);
  }

  -- a weaker claim
  pub weaker : (old new : H) (P Q : List ℕ → List ℕ → Type 0) → LeavesOnly moment left_since old new P → ((c d : List ℕ) → P c d → Q c d) →
      LeavesOnly moment left_since old new Q
  weaker old new P Q run here = record {
    later = run.later;
    each = λ c d left. here c d (run.each c d left);
    before = λ t c d le left. ⊎_elim (λ was. inl was) (λ now. inr (here c d now)) (run.before t c d le left);
  }

  -- two claims
  pub both : (old new : H) (P Q : List ℕ → List ℕ → Type 0) → LeavesOnly moment left_since old new P
      → LeavesOnly moment left_since old new Q → LeavesOnly moment left_since old new (λ c d. P c d × Q c d)
  both old new P Q one other = record {
    later = one.later;
    each = λ c d left. (one.each c d left, other.each c d left);
    before = λ t c d le left. ⊎_elim (λ was. inl was)
        (λ p. ⊎_elim (λ was. inl was) (λ q. inr (p, q)) (other.before t c d le left)) (one.before t c d le left);
  }
