-- Files that are sealed.
use Rattle.std.proofs.Common.{◌≡◌, ◌⊎◌, ⊎_elim, inl, inr, ℕ, List, [], ◌∷◌, ◌++◌, length, drop, refl, sym, ◌∙◌, ap, subst, arith}
use Rattle.std.specs.List.{concat}
use Rattle.std.proofs.lemmas.List.{append-nil, drop_at, take_all}
use Rattle.rb_journal.specs.Host.{IsWritten, TornByte}
use Rattle.rb_journal.specs.Journal.{IsRepaired}
use Rattle.rb_journal.specs.Lines.{at_rest, recovered, sealed, behind_lines, IsIntact, IsSealed, MayBeBehind}
use Rattle.rb_journal.proofs.Public.Lines.{recovered-append, short_nothing}
use Rattle.rb_journal.proofs.Crash.{fits, over_byte, torn_over}

-- a sealed file is read as its lines
pub sealed_is : (file : List ℕ) → recovered (sealed (recovered file)) ≡ recovered file
sealed_is file =
    recovered-append file (9 ∷ []) ∙ ap (λ ls. recovered file ++ ls) (short_nothing (9 ∷ []) (omega arith))
    ∙ append-nil (recovered file)

-- so is a file at rest in which the seal was written over the gate
pub sealed_at : (file c : List ℕ) (at : ℕ) → file ≡ at_rest (recovered file) → at ≡ length (concat (recovered file))
    → IsWritten file at (9 ∷ []) c → c ≡ sealed (recovered file)
sealed_at file c at rest is written =
    over_byte (concat (recovered file)) [] at 32 9 (sym is) c (subst (λ (l : List ℕ). IsWritten l at (9 ∷ []) c) rest written)

-- a crash while it is written leaves it there, or the file as it was
pub torn_seal : (file d c : List ℕ) (at : ℕ) → file ≡ at_rest (recovered file) → at ≡ length (concat (recovered file)) → d ≡ file
    → TornByte at 9 d c → (c ≡ file) ⊎ (c ≡ sealed (recovered file))
torn_seal file d c at rest is same torn = ⊎_elim (λ was. inl (was ∙ sym rest)) inr
    (torn_over (concat (recovered file)) [] at 32 9 (sym is) c (subst (λ (l : List ℕ). TornByte at 9 l c) (same ∙ rest) torn))

-- the seal is what comes after its lines
seal_behind : (file : List ℕ) → IsSealed file → behind_lines file ≡ 9 ∷ []
seal_behind file is =
    let text : List ℕ = concat (recovered file) in
    ap (λ (f : List ℕ). drop (length text) f) is.1 ∙ drop_at text (9 ∷ []) (length text) refl

-- no crash of an append or of a repair leaves the seal
not_behind : MayBeBehind (9 ∷ []) → ⊥
not_behind (inl is) = absurd (omega (arith, is))
not_behind (inr (inl is)) = absurd (omega (arith, is))
not_behind (inr (inr (is, one))) = absurd (omega (arith, is))

-- so a file that isn't damaged isn't sealed
pub intact_unsealed : (file : List ℕ) → IsIntact file → IsSealed file → ⊥
intact_unsealed file may is = not_behind (subst MayBeBehind (seal_behind file is) may)

-- a file that wasn't changed is one that a repair may leave
pub untouched : (file : List ℕ) → IsRepaired file file
untouched file = inl (record { no_shorter = fits file; front = take_all (length file) file (omega arith) })
