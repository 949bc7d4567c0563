-- The lines of bytes that are joined, cut or begun.
use Rattle.std.proofs.Common.{◌≡◌, ℕ, zero, suc, ◌<◌, true, false, List, [], ◌∷◌, ◌++◌, length, get_or, take, drop, take_while, inl, inr}
use Rattle.std.proofs.Common.{refl, sym, ◌∙◌, ap, subst, arith}
use Rattle.std.specs.Prelude.{◌≢◌, All}
use Rattle.std.specs.List.{concat, prefix_len}
use Rattle.std.proofs.lemmas.Bool.{cases_eq, cases_Bool, cond-true, cond-false, eq-eqb, ne_eqb}
use Rattle.std.proofs.lemmas.List.{append-nil, append_cancel_left}
use Rattle.std.proofs.lemmas.List.Elements.{All-cons, All-take}
use Rattle.std.proofs.lemmas.List.Folds.{concat-append}
use Rattle.std.proofs.lemmas.List.Sums.{take_while-cons}
use Rattle.rb_journal.specs.Lines.{joined, lines_in, is_open, recovered, IsBatch, IsLine}

-- an LF at the beginning is a line alone, before the lines of what comes after it
pub whole-lf : (b : ℕ) (bytes : List ℕ) → b ≡ 10 → lines_in (b ∷ bytes) ≡ (10 ∷ []) ∷ lines_in bytes
whole-lf b bytes is = cond-true _ _ _ (eq-eqb b 10 is)

-- any other byte at the beginning belongs to the first line of what comes after it, if there is one
pub whole-other : (b : ℕ) (bytes : List ℕ) → (b ≡ 10 → ⊥) → lines_in (b ∷ bytes) ≡ joined b (lines_in bytes)
whole-other b bytes other = cond-false _ _ _ (ne_eqb b 10 other)

-- a first line that begins with `{` is read, and after it what is read of the others
pub open-true : (line : List ℕ) (lines : List (List ℕ)) → is_open line ≡ true →
    take_while is_open (line ∷ lines) ≡ line ∷ take_while is_open lines
open-true line lines is = take_while-cons is_open line lines ∙ cond-true (is_open line) (line ∷ take_while is_open lines) [] is

-- after a first line that doesn't begin with `{` nothing is read, nor is that line
pub open-false : (line : List ℕ) (lines : List (List ℕ)) → is_open line ≡ false → take_while is_open (line ∷ lines) ≡ []
open-false line lines is = take_while-cons is_open line lines ∙ cond-false (is_open line) (line ∷ take_while is_open lines) [] is

-- after the lines that are read of some, more are read as they are alone
open_then : (lines more : List (List ℕ))
    → take_while is_open (take_while is_open lines ++ more) ≡ take_while is_open lines ++ take_while is_open more
open_then [] more = refl
open_then (line ∷ lines) more = elim (cases_Bool (is_open line)) [
  | inl is ↦ rw (open-true line lines is) (open-true line (take_while is_open lines ++ more) is
      ∙ ap (λ (ls : List (List ℕ)). line ∷ ls) (open_then lines more))
  | inr is ↦ rw (open-false line lines is) refl
]

-- the lines are a front of the bytes, which this end follows; and other bytes after them are split as they are alone
abbrev AreFront : List (List ℕ) → List ℕ → List ℕ → Type 0
AreFront lines bytes rest =
    (end : List ℕ) × (bytes ≡ concat lines ++ end) × (lines_in (concat lines ++ rest) ≡ lines ++ lines_in rest)

behind_byte : (b n : ℕ) (bytes rest : List ℕ) (lines : List (List ℕ)) → (b ≡ 10 → ⊥) → AreFront (take (suc n) lines) bytes rest
    → AreFront (take (suc n) (joined b lines)) (b ∷ bytes) rest
behind_byte b n bytes rest [] other front = (b ∷ bytes, refl, refl)
behind_byte b n bytes rest (line ∷ lines) other front =
    let behind : List ℕ = (line ++ concat (take n lines)) ++ rest in
    (front.0, ap (λ (l : List ℕ). b ∷ l) front.1, whole-other b behind other ∙ ap (λ (ls : List (List ℕ)). joined b ls) front.2)

-- so are the first lines of the bytes
first_lines : (n : ℕ) (bytes rest : List ℕ) → AreFront (take n (lines_in bytes)) bytes rest
first_lines zero bytes rest = (bytes, refl, refl)
first_lines (suc n) [] rest = ([], refl, refl)
first_lines (suc n) (b ∷ bytes) rest = elim (cases_eq b 10) [
  | inl is ↦
      let front = first_lines n bytes rest in
      subst (λ ls. AreFront (take (suc n) ls) (b ∷ bytes) rest) (sym (whole-lf b bytes is))
      (front.0, (λ i. is i ∷ front.1 i), ap (λ (ls : List (List ℕ)). (10 ∷ []) ∷ ls) front.2)
  | inr other ↦
      subst (λ ls. AreFront (take (suc n) ls) (b ∷ bytes) rest) (sym (whole-other b bytes other))
      (behind_byte b n bytes rest (lines_in bytes) other (first_lines (suc n) bytes rest))
]

-- more bytes are read after the lines of a file
pub recovered-append : (file rest : List ℕ) → recovered (concat (recovered file) ++ rest) ≡ recovered file ++ recovered rest
recovered-append file rest =
    ap (λ (ls : List (List ℕ)). take_while is_open ls) (first_lines (prefix_len is_open (lines_in file)) file rest).2
    ∙ open_then (lines_in file) (lines_in rest)

-- a file is its lines, and an end that is read as nothing
pub record Parts (file : List ℕ) : Type 0 where
  pub end : List ℕ
  pub split : file ≡ concat (recovered file) ++ end
  pub nothing : recovered end ≡ []

-- every file is made up of such parts
pub parts : (file : List ℕ) → Parts file
parts file =
    let front = first_lines (prefix_len is_open (lines_in file)) file [] in
    let twice : recovered file ++ [] ≡ recovered file ++ recovered front.0 =
    append-nil (recovered file) ∙ ap recovered front.1 ∙ recovered-append file front.0 in
    record { end = front.0; split = front.1; nothing = sym (append_cancel_left (recovered file) [] (recovered front.0) twice) }

closed_joined : (b : ℕ) (lines : List (List ℕ)) → (b ≡ 123 → ⊥) → take_while is_open (joined b lines) ≡ []
closed_joined b [] shut = refl
closed_joined b (line ∷ lines) shut = open-false (b ∷ line) lines (ne_eqb b 123 shut)

-- a line that doesn't begin with `{` ends them, whatever comes after it
pub closed : (b : ℕ) (bytes : List ℕ) → (b ≡ 123 → ⊥) → recovered (b ∷ bytes) ≡ []
closed b bytes shut = elim (cases_eq b 10) [
  | inl is ↦ ap (λ (ls : List (List ℕ)). take_while is_open ls) (whole-lf b bytes is) ∙ open-false (10 ∷ []) (lines_in bytes) refl
  | inr other ↦ ap (λ (ls : List (List ℕ)). take_while is_open ls) (whole-other b bytes other) ∙ closed_joined b (lines_in bytes) shut
]

-- one byte is no line
pub short_nothing : (bytes : List ℕ) → length bytes < 2 → recovered bytes ≡ []
short_nothing [] short = refl
short_nothing (b ∷ []) short = elim (cases_eq b 10) [
  | inl is ↦ ap (λ (ls : List (List ℕ)). take_while is_open ls) (whole-lf b [] is) ∙ open-false (10 ∷ []) [] refl
  | inr other ↦ ap (λ (ls : List (List ℕ)). take_while is_open ls) (whole-other b [] other)
]
short_nothing (b ∷ c ∷ bytes) short = absurd (omega arith)

-- lines begin with `{`
pub begins : (b : ℕ) (bytes : List ℕ) → IsBatch (b ∷ bytes) → b ≡ 123
begins b bytes all = elim (cases_eq b 123) [
  | inl is ↦ is
  | inr shut ↦ let none : [] ≡ b ∷ bytes = sym (ap concat (closed b bytes shut)) ∙ all in absurd (cc (none))
]

-- lines, and then what follows
pub lines-append : (lines rest : List ℕ) → IsBatch lines → recovered (lines ++ rest) ≡ recovered lines ++ recovered rest
lines-append lines rest all = ap (λ (l : List ℕ). recovered (l ++ rest)) (sym all) ∙ recovered-append lines rest

-- and so are lines after lines
pub both_lines : (xs ys : List ℕ) → IsBatch xs → IsBatch ys → IsBatch (xs ++ ys)
both_lines xs ys first second =
    ap concat (lines-append xs ys first) ∙ concat-append (recovered xs) (recovered ys)
    ∙ ap (λ (l : List ℕ). l ++ concat (recovered ys)) first ∙ ap (λ (l : List ℕ). xs ++ l) second

-- at the first LF a line ends
pub first_line : (bytes : List ℕ) (i : ℕ) → i < length bytes → get_or bytes i 0 ≡ 10 → ((k : ℕ) → k < i → get_or bytes k 0 ≡ 10 → ⊥)
    → lines_in bytes ≡ take (suc i) bytes ∷ lines_in (drop (suc i) bytes)
first_line [] i within lf others = absurd (omega arith)
first_line (b ∷ bytes) zero within lf others = whole-lf b bytes lf ∙ (λ j. (sym lf j ∷ []) ∷ lines_in bytes)
first_line (b ∷ bytes) (suc i) within lf others =
    let so_far = first_line bytes i (omega arith) lf (λ k below. others (suc k) (omega arith)) in
    whole-other b bytes (others 0 (omega arith)) ∙ ap (λ (ls : List (List ℕ)). joined b ls) so_far

-- without an LF there is none
pub no_line : (bytes : List ℕ) → ((k : ℕ) → k < length bytes → get_or bytes k 0 ≡ 10 → ⊥) → lines_in bytes ≡ []
no_line [] others = refl
no_line (b ∷ bytes) others =
    whole-other b bytes (others 0 (omega arith)) ∙ ap (λ (ls : List (List ℕ)). joined b ls)
    (no_line bytes (λ k below. others (suc k) (omega arith)))

none_joined : (b : ℕ) (lines : List (List ℕ)) → joined b lines ≡ [] → lines ≡ []
none_joined b [] none = refl
none_joined b (line ∷ lines) none = absurd (cc (none))

-- bytes without a whole line have no LF
no_lf : (bytes : List ℕ) → lines_in bytes ≡ [] → All (λ c. c ≢ 10) bytes
no_lf [] none = λ k d within. absurd (omega arith)
no_lf (b ∷ bytes) none = elim (cases_eq b 10) [
  | inl is ↦ let some : (10 ∷ []) ∷ lines_in bytes ≡ [] = sym (whole-lf b bytes is) ∙ none in absurd (cc (some))
  | inr other ↦ All-cons (λ c. c ≢ 10) b bytes other
      (no_lf bytes (none_joined b (lines_in bytes) (sym (whole-other b bytes other) ∙ none)))
]

not_whole : (b : ℕ) (lines : List (List ℕ)) → b ≡ 123 → take_while is_open (joined b lines) ≡ [] → lines ≡ []
not_whole b [] is none = refl
not_whole b (line ∷ lines) is none =
    let some : (b ∷ line) ∷ take_while is_open lines ≡ [] = sym (open-true (b ∷ line) lines (eq-eqb b 123 is)) ∙ none in
    absurd (cc (some))

-- `{` after the lines begins a line that isn't whole
pub front_of_line : (b : ℕ) (bytes : List ℕ) → b ≡ 123 → recovered (b ∷ bytes) ≡ [] → All (λ c. c ≢ 10) bytes
front_of_line b bytes is none =
    let other : b ≡ 10 → ⊥ = λ lf. absurd (omega (arith, lf, is)) in
    no_lf bytes (not_whole b (lines_in bytes) is (ap (λ ls. take_while is_open ls) (sym (whole-other b bytes other)) ∙ none))

-- a prefix of bytes that are read as nothing is read as nothing
pub front_nothing : (n : ℕ) (end : List ℕ) → recovered end ≡ [] → recovered (take n end) ≡ []
front_nothing zero end none = refl
front_nothing (suc n) [] none = refl
front_nothing (suc n) (b ∷ bytes) none = elim (cases_eq b 123) [
  | inl is ↦
      let one = All-take (λ c. c ≢ 10) n bytes (front_of_line b bytes is none) in
      ap (λ (ls : List (List ℕ)). take_while is_open ls) (whole-other b (take n bytes) (λ lf. absurd (omega (arith, lf, is)))
      ∙ ap (λ (ls : List (List ℕ)). joined b ls) (no_line (take n bytes) (λ k below. one k 0 below)))
  | inr shut ↦ closed b (take n bytes) shut
]

one_whole : (line : List ℕ) → ((k : ℕ) → k < length line → get_or line k 0 ≡ 10 → ⊥) →
    lines_in (line ++ 10 ∷ []) ≡ (line ++ 10 ∷ []) ∷ []
one_whole [] others = refl
one_whole (b ∷ line) others =
    whole-other b (line ++ 10 ∷ []) (others 0 (omega arith)) ∙ ap (λ (ls : List (List ℕ)). joined b ls)
    (one_whole line (λ k below. others (suc k) (omega arith)))

-- a line with its LF is one line
pub line_alone : (line : List ℕ) → IsLine line → recovered (line ++ 10 ∷ []) ≡ (line ++ 10 ∷ []) ∷ []
line_alone [] is = absurd (omega (arith, is.begins))
line_alone (b ∷ line) is =
    ap (λ (ls : List (List ℕ)). take_while is_open ls) (one_whole (b ∷ line) (λ k below lf. is.one k 0 below lf))
    ∙ open-true ((b ∷ line) ++ 10 ∷ []) [] (eq-eqb b 123 is.begins)

-- lines, and after them one more with its LF, are lines
pub still_lines : (bytes line : List ℕ) → IsBatch bytes → IsLine line → IsBatch (bytes ++ (line ++ 10 ∷ []))
still_lines bytes line all is = both_lines bytes (line ++ 10 ∷ []) all (ap concat (line_alone line is) ∙ append-nil (line ++ 10 ∷ []))
