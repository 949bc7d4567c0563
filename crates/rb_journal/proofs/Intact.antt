-- Files that aren't damaged: what comes after their lines.
use Rattle.std.proofs.Common.{◌≡◌, ◌⊎◌, inl, inr, ℕ, zero, suc, ◌-◌, ◌≤◌, List, [], ◌∷◌, ◌++◌, length, get_or, take, drop}
use Rattle.std.proofs.Common.{refl, sym, ◌∙◌, ap, subst, arith, append_assoc, append-nil}
use Rattle.std.specs.Prelude.{◌≢◌}
use Rattle.std.specs.List.{concat}
use Rattle.std.proofs.lemmas.List.{drop_at}
use Rattle.std.proofs.lemmas.List.Elements.{All-take}
use Rattle.rb_journal.specs.Lines.{recovered, at_rest, behind_lines, MayBeBehind, IsBatch, IsIntact}
use Rattle.rb_journal.specs.Journal.{IsAppended, HasClosedGate, IsRepaired}
use Rattle.rb_journal.proofs.Public.Lines.{parts, recovered-append, closed, short_nothing, front_nothing, front_of_line}
use Rattle.rb_journal.proofs.Crash.{after_gate, cut_is}

-- bytes that are read as nothing come after the lines of a file, and of both together
pub behind_is : (file rest : List ℕ) → recovered rest ≡ [] → behind_lines (concat (recovered file) ++ rest) ≡ rest
behind_is file rest none =
    let text : List ℕ = concat (recovered file) in
    let same : recovered (text ++ rest) ≡ recovered file =
    recovered-append file rest ∙ ap (λ ls. recovered file ++ ls) none ∙ append-nil (recovered file) in
    ap (λ ls. drop (length (concat ls)) (text ++ rest)) same ∙ drop_at text rest (length text) refl

-- what a crash may leave after lines is read as nothing, but for the beginning of a line
pub intact : (file rest : List ℕ) → recovered rest ≡ [] → MayBeBehind rest → IsIntact (concat (recovered file) ++ rest)
intact file rest none may = subst MayBeBehind (sym (behind_is file rest none)) may

-- so is what comes after the lines of a file
pub end_is : (file : List ℕ) → behind_lines file ≡ (parts file).end
end_is file = ap behind_lines (parts file).split ∙ behind_is file (parts file).end (parts file).nothing

-- a closed gate, with any bytes after it
pub gate_intact : (file rest : List ℕ) → IsIntact (concat (recovered file) ++ 32 ∷ rest)
gate_intact file rest = intact file (32 ∷ rest) (closed 32 rest (λ is. absurd (omega arith))) (inl refl)

-- a file at rest, and one whose gate is closed
pub closed_intact : (file c : List ℕ) (most : ℕ) → HasClosedGate (recovered file) most c → IsIntact c
closed_intact file c most (bytes, is, few) =
    subst IsIntact (sym (is ∙ append_assoc (concat (recovered file)) (32 ∷ []) bytes)) (gate_intact file bytes)

pub at_rest_intact : (file : List ℕ) → IsIntact (at_rest (recovered file))
at_rest_intact file = gate_intact file []

-- what may be after lines may be there in part
front_behind : (n : ℕ) (rest : List ℕ) → MayBeBehind rest → MayBeBehind (take n rest)
front_behind zero rest may = tt
front_behind (suc n) [] may = tt
front_behind (suc n) (b ∷ rest) (inl space) = inl space
front_behind (suc n) (b ∷ rest) (inr (inl nul)) = inr (inl nul)
front_behind (suc n) (b ∷ rest) (inr (inr (opens, one))) = inr (inr (opens, All-take (λ c. c ≢ 10) n rest one))

-- what a repair leaves of a file that isn't damaged isn't either
pub repaired_intact : (file c : List ℕ) → IsIntact file → IsRepaired file c → IsIntact c
repaired_intact file c was (inr (inl gate)) = subst IsIntact (sym gate) (gate_intact file [])
repaired_intact file c was (inr (inr nul)) =
    subst IsIntact (sym nul) (intact file (0 ∷ []) (short_nothing (0 ∷ []) (omega arith)) (inr (inl refl)))
repaired_intact file c was (inl cut) =
    let end = (parts file).end in
    let n = length c - length (concat (recovered file)) in
    subst IsIntact (sym (cut_is file c cut)) (intact file (take n end) (front_nothing n end (parts file).nothing)
    (front_behind n end (subst MayBeBehind (end_is file) was)))

-- ---- the first byte after the lines says whether a file is damaged

-- the first of some bytes says whether they may be after lines
pub by_first : (rest : List ℕ) → recovered rest ≡ []
    → (get_or rest 0 0 ≡ 0) ⊎ (get_or rest 0 0 ≡ 32) ⊎ (get_or rest 0 0 ≡ 123) → MayBeBehind rest
by_first [] none first = tt
by_first (b ∷ rest) none (inl nul) = inr (inl nul)
by_first (b ∷ rest) none (inr (inl space)) = inl space
by_first (b ∷ rest) none (inr (inr opens)) = inr (inr (opens, front_of_line b rest opens none))

-- what an append leaves isn't damaged
pub appended_intact : (file batch : List ℕ) → IsBatch batch → 1 ≤ length batch → (c : List ℕ) → IsAppended (recovered file) batch c
    → IsAppended (recovered file) batch c × IsIntact c
appended_intact file batch all some c (inl shut) = (inl shut, closed_intact file c (length batch) shut)
appended_intact file batch all some c (inr is) = (
  inr is,
  subst IsIntact (sym is) (subst (λ ls. IsIntact (at_rest ls)) (after_gate file batch all some)
      (at_rest_intact (at_rest (recovered file ++ recovered batch)))),
)
