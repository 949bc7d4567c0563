-- A batch, split at its first line feed.
use Rattle.std.proofs.Common.{◌≡◌, ◌+◌, ◌<◌, ◌==◌, ℕ, zero, suc, true, List, [], ◌∷◌, ◌++◌, length, take, drop, get_or, refl, sym, ap, ◌∙◌}
use Rattle.std.proofs.Common.{position, Some, None, arith, add-one, drop-cons, take-append-drop, append_assoc}
use Rattle.std.proofs.Common.{length-drop, take_while, inl, inr}
use Rattle.std.specs.Prelude.{◌≢◌, All, slice_index}
use Rattle.std.specs.List.{position_or_len}
use Rattle.std.proofs.lemmas.Bool.{cases_lt, cond-true, eqb-true, eq-eqb, false≢true, lt-ltb}
use Rattle.std.proofs.lemmas.List.{get_or-take, length-take-le}
use Rattle.std.proofs.lemmas.List.Quantifiers.{position-Some}
use Rattle.std.proofs.lemmas.List.Sums.{fails_before_first}
use Rattle.rb_journal.specs.Lines.{IsBatch, IsLine, is_open, lines_in, recovered}
use Rattle.rb_journal.proofs.Public.Lines.{begins as first_byte, no_line}
use Rattle.rb_run_site.proofs.Prefixes.{begins}
use Rattle.rb_run_site.specs.Replays.{IsSplit}

-- the bytes are the line, its line feed, and what is after it
parts : (l : List ℕ) (n : ℕ) → n < length l → get_or l n 0 ≡ 10 → l ≡ (take n l ++ 10 ∷ []) ++ drop (n + 1) l
parts l n within is =
    sym (take-append-drop n l) ∙ ap (λ r. take n l ++ r) (drop-cons l n 0 within ∙ ap (λ b. b ∷ drop (suc n) l) is
    ∙ ap (λ k. 10 ∷ drop k l) (sym (add-one n))) ∙ sym (append_assoc (take n l) (10 ∷ []) (drop (n + 1) l))

-- before the first line feed there is none
no_feed : (l : List ℕ) (n : ℕ) → position (λ b. b == 10) l ≡ Some n → All (λ b. b ≢ 10) (take n l)
no_feed l n found = λ k d below is.
    let at = position-Some (λ b. b == 10) l n d found in
    let long : length (take n l) ≡ n = length-take-le n l (omega (arith, at.0)) in
    let same : get_or (take n l) k d ≡ get_or l k d = get_or-take n l k d (omega arith) in
    false≢true (sym (at.2 k (omega arith)) ∙ eq-eqb (get_or l k d) 10 (sym same ∙ is))

-- a line of a batch begins with a brace, so the first line feed isn't its first byte
brace_first : (b : ℕ) (l : List ℕ) (n : ℕ) → b ≡ 123 → (get_or (b ∷ l) n 0 == 10) ≡ true → slice_index (take n (b ∷ l)) 0 ≡ 123
brace_first b l zero is feed = absurd (omega (arith, eqb-true b 10 feed))
brace_first b l (suc n) is feed = is

line_of_batch : (l : List ℕ) (n : ℕ) → IsBatch l → position (λ b. b == 10) l ≡ Some n → IsLine (take n l)
line_of_batch [] n all found = absurd (cc found)
line_of_batch (b ∷ l) n all found = record {
  begins = brace_first b l n (first_byte b l all) (position-Some (λ c. c == 10) (b ∷ l) n 0 found).1;
  one = no_feed (b ∷ l) n found;
}

-- it is split at the first line feed
pub split_there : (l : List ℕ) (n : ℕ) → IsBatch l → position (λ b. b == 10) l ≡ Some n → IsSplit l (take n l) (drop (n + 1) l)
split_there l n all found =
    let at = position-Some (λ b. b == 10) l n 0 found in
    let two = begins l (take n l ++ 10 ∷ []) (drop (n + 1) l) (take n l) (line_of_batch l n all found) refl
    (all ∙ parts l n at.0 (eqb-true (get_or l n 0) 10 at.1)) in
    record { lines_are = two.0; batch = two.1; shorter = omega (arith, at.0, length-drop (n + 1) l) }

-- if there is no line feed, there is no line
pub none_there : (l : List ℕ) → position (λ b. b == 10) l ≡ None → recovered l ≡ []
none_there l none = elim (cases_lt (position_or_len (λ b. b == 10) l) (length l)) [
  | inl lt ↦
      let some : position (λ b. b == 10) l ≡ Some (position_or_len (λ b. b == 10) l) = cond-true _ _ _ (lt-ltb _ _ lt) in
      absurd (cc (sym none ∙ some))
  | inr ge ↦
      let whole : lines_in l ≡ [] = no_line l (λ k below is. false≢true
      (sym (fails_before_first (λ b. b == 10) l k 0 (omega arith)) ∙ eq-eqb (get_or l k 0) 10 is)) in
      ap (λ (ls : List (List ℕ)). take_while is_open ls) whole
]
