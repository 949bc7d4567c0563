-- The first of some lines, and those after it.
use Rattle.rb_runs.proofs.Words.{◌≡◌, ◌<◌, ◌≤◌, ◌+◌, ◌==◌, ◌⊎◌, ℕ, Bool, true, false, cond, List, [], ◌∷◌, length, take, drop, inl, inr}
use Rattle.rb_runs.proofs.Words.{refl, sym, ap, ◌∙◌, append-nil, arith, position, Some, None, nat_lt, not, ltb-true, ltb-false}
use Rattle.rb_runs.proofs.Words.{prefix_len-le-length, line_len, lines_of}
use Rattle.std.proofs.Math.Seq.{take-length}
use Rattle.std.proofs.Math.ListN.{drop_of_length-le}
use Rattle.rb_lines.proofs.Public.Walks.{Walks, after_line}

-- no line was taken, and all bytes wait
waiting : (p : List ℕ) → Walks p [] p [] true
waiting p = record {
  got = p;
  lines = ap lines_of (sym (append-nil p));
  bytes = sym (append-nil p);
  whole = λ going tail. absurd (cc going);
}

split : (p : List ℕ) (n : ℕ) → n ≡ line_len p → n ≤ length p → (n < length p) ⊎ ((n ≡ length p) × (0 < n) × (true ≡ true))
    → lines_of p ≡ take n p ∷ lines_of (drop (n + 1) p)
split p n len fits found = (after_line p [] p [] true n (waiting p) len fits found (λ _. refl)).lines
    ∙ ap (λ r. take n p ∷ lines_of r) (append-nil (drop (n + 1) p))

there : (t : Bool) (p : List ℕ) (n : ℕ) → nat_lt (line_len p) (length p) ≡ t → cond t (Some (line_len p)) None ≡ Some n
    → lines_of p ≡ take n p ∷ lines_of (drop (n + 1) p)
there false p n lt found = absurd (cc found)
there true p n lt found =
    let same : line_len p ≡ n = cc found in
    let less = ltb-true (line_len p) (length p) lt in
    split p n (sym same) (omega (arith, same, less)) (inl (omega (arith, same, less)))

-- the line before the first line feed is the first
pub split_there : (p : List ℕ) (n : ℕ) → position (λ b. b == 10) p ≡ Some n → lines_of p ≡ take n p ∷ lines_of (drop (n + 1) p)
split_there p n found = there (nat_lt (line_len p) (length p)) p n refl found

all : (t : Bool) (p : List ℕ) → nat_lt (line_len p) (length p) ≡ t → cond t (Some (line_len p)) None ≡ None → 0 < length p
    → lines_of p ≡ p ∷ []
all true p lt none some = absurd (cc none)
all false p lt none some =
    let len : length p ≡ line_len p =
    omega (arith, ltb-false (line_len p) (length p) lt, prefix_len-le-length (λ b. not (b == 10)) p) in
    split p (length p) len (omega arith) (inr (refl, some, refl))
    ∙ ap (λ l. l ∷ lines_of (drop (length p + 1) p)) (take-length p)
    ∙ ap (λ r. p ∷ lines_of r) (drop_of_length-le p (omega arith))

-- bytes without a line feed are one line
pub split_all : (p : List ℕ) → 0 < length p → position (λ b. b == 10) p ≡ None → lines_of p ≡ p ∷ []
split_all p some none = all (nat_lt (line_len p) (length p)) p refl none some
