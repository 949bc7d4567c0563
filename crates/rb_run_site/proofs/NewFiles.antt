-- Files that a crash left before the first line of a journal was there.
use Rattle.std.proofs.Common.{◌≡◌, ◌≤◌, ◌+◌, ◌⊎◌, inl, inr, ℕ, zero, suc, List, [], ◌∷◌, ◌++◌, length, take, sym, ap, subst, ◌∙◌}
use Rattle.std.proofs.Common.{refl, arith}
use Rattle.std.specs.List.{concat}
use Rattle.std.proofs.lemmas.List.{length-take}
use Rattle.rb_journal.specs.Journal.{HasClosedGate, IsRepaired}
use Rattle.rb_journal.proofs.Public.Lines.{closed, front_nothing, short_nothing}
use Rattle.rb_run_site.specs.Files.{BeginsClosed, IsNew}

front_closed : (n : ℕ) (file : List ℕ) (most : ℕ) → (file ≡ []) ⊎ (BeginsClosed file × (length file ≤ most))
    → (take n file ≡ []) ⊎ (BeginsClosed (take n file) × (length (take n file) ≤ most))
front_closed zero file most is = inl refl
front_closed (suc n) [] most is = inl refl
front_closed (suc n) (b ∷ bytes) most (inl none) = absurd (cc none)
front_closed (suc n) (b ∷ bytes) most (inr (shut, few)) = inr (shut, omega (arith, few, length-take n bytes))

-- what a repair leaves of a new journal is one
pub repaired_new : (file c first : List ℕ) → IsNew file first → IsRepaired file c → IsNew c first
repaired_new file c first (none, is) (inl cut) =
    subst (λ f. IsNew f first) cut.front (front_nothing (length c) file none, front_closed (length c) file (length first + 1) is)
repaired_new file c first (none, is) (inr (inl gate)) =
    let alone : c ≡ 32 ∷ [] = gate ∙ ap (λ ls. concat ls ++ 32 ∷ []) none in
    subst (λ f. IsNew f first) (sym alone) (short_nothing (32 ∷ []) (omega arith), inr (inl refl, omega arith))
repaired_new file c first (none, is) (inr (inr nul)) =
    let alone : c ≡ 0 ∷ [] = nul ∙ ap (λ ls. concat ls ++ 0 ∷ []) none in
    subst (λ f. IsNew f first) (sym alone) (short_nothing (0 ∷ []) (omega arith), inr (inr refl, omega arith))

-- so is what a write of the first line leaves while the gate is closed
pub closed_new : (c first : List ℕ) → HasClosedGate [] (length first) c → IsNew c first
closed_new c first (bytes, is, few) =
    subst (λ f. IsNew f first) (sym is) (closed 32 bytes (λ b. absurd (omega (arith, b))), inr (inl refl, omega (arith, few)))
