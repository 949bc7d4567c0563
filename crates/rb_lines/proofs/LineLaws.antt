-- Lines at the front of the bytes.
use Rattle.std.proofs.Common.{◌≡◌, ◌<◌, ◌≤◌, ◌+◌, ◌==◌, ℕ, zero, suc, Bool, true, false, List, [], ◌∷◌, ◌++◌, length, take, drop, refl, ◌∙◌}
use Rattle.std.proofs.Common.{arith}
use Rattle.rb_lines.specs.Lines.{lines_of, whole_lines, line_len}
use Rattle.rb_lines.proofs.Public.LongLines.{len, len_is, first}

-- if a line feed comes, what is before it is the first line
pub first_line : (p tail : List ℕ) → line_len p < length p
    → lines_of (p ++ tail) ≡ take (line_len p) p ∷ lines_of (drop (line_len p + 1) p ++ tail)
first_line p tail h = rw (len_is p) at (first p tail (rw (len_is p) h)).0

-- if a line feed comes, what is before it is the first whole line
pub first_whole : (p tail : List ℕ) → line_len p < length p
    → whole_lines (p ++ tail) ≡ take (line_len p) p ∷ whole_lines (drop (line_len p + 1) p ++ tail)
first_whole p tail h = rw (len_is p) at (first p tail (rw (len_is p) h)).1

-- the line that some bytes are, if there are any
abbrev only_line : List ℕ → List (List ℕ)
only_line [] = []
only_line (b ∷ bs) = (b ∷ bs) ∷ []

-- with no line feed there is one line, which isn't whole
abbrev IsLast : List ℕ → Type 0
IsLast p = (lines_of p ≡ only_line p) × (whole_lines p ≡ [])

last_step : (t : Bool) (b : ℕ) (bs : List ℕ) → (b == 10) ≡ t → (len bs ≡ length bs → IsLast bs) → len (b ∷ bs) ≡ length (b ∷ bs)
    → IsLast (b ∷ bs)
last_step true b bs e more h = absurd (omega (arith, rw e at h))
last_step false b [] e more h = rw e (refl, refl)
last_step false b (c ∷ bs) e more h =
    let below : len (c ∷ bs) ≡ length (c ∷ bs) = omega (arith, rw e at h) in
    let rest = more below in
    rw (e, rest.0, rest.1) (refl, refl)

last : (p : List ℕ) → len p ≡ length p → IsLast p
last [] h = (refl, refl)
last (b ∷ bs) h = last_step (b == 10) b bs refl (last bs) h

-- bytes without a line feed are one line
pub last_line : (p : List ℕ) → line_len p ≡ length p → 0 < length p → lines_of p ≡ p ∷ []
last_line [] h some = absurd (omega arith)
last_line (b ∷ bs) h some = (last (b ∷ bs) (len_is (b ∷ bs) ∙ h)).0

-- bytes without a line feed are no whole line
pub last_whole : (p : List ℕ) → line_len p ≡ length p → whole_lines p ≡ []
last_whole p h = (last p (len_is p ∙ h)).1

-- ---- a line that was searched in part

after_step : (t : Bool) (b : ℕ) (bs : List ℕ) (k : ℕ) → (b == 10) ≡ t → (k ≤ len bs → len bs ≡ k + len (drop k bs)) → suc k ≤ len (b ∷ bs)
    → len (b ∷ bs) ≡ suc k + len (drop k bs)
after_step true b bs k e more h = absurd (omega (arith, rw e at h))
after_step false b bs k e more h = rw e (omega (arith, more (omega (arith, rw e at h))))

after : (bs : List ℕ) (k : ℕ) → k ≤ len bs → len bs ≡ k + len (drop k bs)
after bs zero h = omega arith
after [] (suc k) h = absurd (omega arith)
after (b ∷ bs) (suc k) h = after_step (b == 10) b bs k refl (after bs k) h

-- if the first k bytes have no line feed, the line is found among the others
pub found_later : (bs : List ℕ) (k : ℕ) → k ≤ line_len bs → line_len bs ≡ k + line_len (drop k bs)
found_later bs k h = omega (arith, after bs k (omega (arith, len_is bs)), len_is bs, len_is (drop k bs))

longer_step : (t : Bool) (b : ℕ) (bs more : List ℕ) → (b == 10) ≡ t → len bs ≤ len (bs ++ more) → len (b ∷ bs) ≤ len ((b ∷ bs) ++ more)
longer_step true b bs more e h = rw e (omega arith)
longer_step false b bs more e h = rw e (omega arith)

longer : (bs more : List ℕ) → len bs ≤ len (bs ++ more)
longer [] more = omega arith
longer (b ∷ bs) more = longer_step (b == 10) b bs more refl (longer bs more)

-- more bytes make the first line no shorter
pub grows_longer : (bs more : List ℕ) → line_len bs ≤ line_len (bs ++ more)
grows_longer bs more = omega (arith, longer bs more, len_is bs, len_is (bs ++ more))

within_step : (t : Bool) (b : ℕ) (bs : List ℕ) → (b == 10) ≡ t → len bs ≤ length bs → len (b ∷ bs) ≤ length (b ∷ bs)
within_step true b bs e h = rw e (omega arith)
within_step false b bs e h = rw e (omega arith)

within : (bs : List ℕ) → len bs ≤ length bs
within [] = omega arith
within (b ∷ bs) = within_step (b == 10) b bs refl (within bs)

-- the first line is no longer than the bytes
pub stays_within : (bs : List ℕ) → line_len bs ≤ length bs
stays_within bs = omega (arith, within bs, len_is bs)
