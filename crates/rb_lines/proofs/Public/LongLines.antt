-- A line that is too long.
use Rattle.std.proofs.Common.{◌≡◌, ◌<◌, ◌≤◌, ◌+◌, ◌==◌, ℕ, suc, Bool, true, false, cond, List, [], ◌∷◌, ◌++◌, length, take, drop, refl}
use Rattle.std.proofs.Common.{arith}
use Rattle.std.specs.List.{onto_first}
use Rattle.std.proofs.lemmas.List.Recursion.{is_position_or_len}
use Rattle.rb_lines.specs.Lines.{lines_of, whole_lines, line_len}

-- the length by recursion
abbrev pub len : List ℕ → ℕ
len [] = 0
len (b ∷ bs) = cond (b == 10) 0 (1 + len bs)

-- it is the length of the first line
pub len_is : (bs : List ℕ) → len bs ≡ line_len bs
len_is = is_position_or_len len (λ b. b == 10) refl (λ x xs. refl)

one_more : (n : ℕ) (b : ℕ) (bs : List ℕ) → (take (1 + n) (b ∷ bs) ≡ b ∷ take n bs) × (drop ((1 + n) + 1) (b ∷ bs) ≡ drop (n + 1) bs)
one_more n b bs = (let e : 1 + n ≡ suc n = omega arith in rw e refl, let e : (1 + n) + 1 ≡ suc (n + 1) = omega arith in rw e refl)

-- a line with its line feed is the first, whatever follows it
abbrev IsFirst : List ℕ → List ℕ → Type 0
IsFirst p tail = (lines_of (p ++ tail) ≡ take (len p) p ∷ lines_of (drop (len p + 1) p ++ tail))
    × (whole_lines (p ++ tail) ≡ take (len p) p ∷ whole_lines (drop (len p + 1) p ++ tail))

first_step : (t : Bool) (b : ℕ) (bs tail : List ℕ) → (b == 10) ≡ t → (len bs < length bs → IsFirst bs tail) → len (b ∷ bs) < length (b ∷ bs)
    → IsFirst (b ∷ bs) tail
first_step true b bs tail e more h = rw e (refl, refl)
first_step false b bs tail e more h =
    let below : len bs < length bs = omega (arith, rw e at h) in
    let rest = more below in
    rw (e, (one_more (len bs) b bs).0, (one_more (len bs) b bs).1, rest.0, rest.1) (refl, refl)

-- if a line feed comes, what is before it is the first line, and a whole one
pub first : (p tail : List ℕ) → len p < length p → IsFirst p tail
first [] tail h = absurd (omega arith)
first (b ∷ bs) tail h = first_step (b == 10) b bs tail refl (first bs tail) h

-- the first line has at least the bytes that are there
abbrev first_len : List (List ℕ) → ℕ
first_len [] = 0
first_len (l ∷ ls) = length l

onto_longer : (b : ℕ) (ls : List (List ℕ)) → first_len (onto_first b ls) ≡ 1 + first_len ls
onto_longer b [] = refl
onto_longer b (l ∷ ls) = omega arith

long_step : (t : Bool) (b : ℕ) (bs tail : List ℕ) → (b == 10) ≡ t → len bs ≤ first_len (lines_of (bs ++ tail))
    → len (b ∷ bs) ≤ first_len (lines_of ((b ∷ bs) ++ tail))
long_step true b bs tail e more = rw e (omega arith)
long_step false b bs tail e more = rw (e, onto_longer b (lines_of (bs ++ tail))) (omega arith)

long : (p tail : List ℕ) → len p ≤ first_len (lines_of (p ++ tail))
long [] tail = omega arith
long (b ∷ bs) tail = long_step (b == 10) b bs tail refl (long bs tail)

has_first : (ls : List (List ℕ)) → 0 < first_len ls → (l : List ℕ) × (more : List (List ℕ)) × (ls ≡ l ∷ more) × (first_len ls ≡ length l)
has_first [] h = absurd (omega arith)
has_first (l ∷ ls) h = (l, ls, refl, refl)

-- if more than n bytes have no line feed, the first line has more than n
pub long_line : (p tail : List ℕ) (n : ℕ) → n < line_len p
    → (l : List ℕ) × (more : List (List ℕ)) × (lines_of (p ++ tail) ≡ l ∷ more) × (n < length l)
long_line p tail n h =
    let enough : n < first_len (lines_of (p ++ tail)) = omega (arith, long p tail, len_is p) in
    let found = has_first (lines_of (p ++ tail)) (omega arith) in
    (found.0, found.1, found.2, omega (arith, found.3, enough))
