-- The place of a line in joined files.
use Rattle.std.proofs.Common.{◌≡◌, ◌∙◌, ◌==◌, ◌+◌, ◌-◌, ◌^◌, ◌<◌, ◌≤◌, ◌++◌, ℕ, Bool, cond, true, false, refl, sym, ap, subst, zero, suc}
use Rattle.std.proofs.Common.{arith, List, [], ◌∷◌, length, length-append, drop, map, Some}
use Rattle.std.specs.Prelude.{flat_map, min, nat_lt, slice_get, slice_index_or}
use Rattle.std.proofs.Math.ListN.{drop_of_length-le}
use Rattle.std.proofs.Math.Seq.{drop-cons}
use Rattle.std.proofs.lemmas.Bool.{le-ltb, ltb-false, ltb-true, ne_eqb}
use Rattle.rb_lines.specs.Lines.{lines_of}
use Rattle.rbbank.specs.Files.{IsPlace, line_counts, lines_behind, joined_lines}

abbrev pub own_number : ℕ → ℕ → ℕ
own_number file n = cond (file == 0) n (min (n + 1) (2 ^ 64 - 1))

-- the place of a line among those of the files from this one on, by how many lines of each there are
abbrev pub place_from : ℕ → List ℕ → ℕ → ℕ × ℕ
place_from i [] n = (0, n)
place_from i (c ∷ cs) n = cond (nat_lt c n) (place_from (i + 1) cs (n - c)) (i, own_number i n)

slice_left : {X : Type 0} (xs ys : List X) (k : ℕ) → k < length xs → slice_get (xs ++ ys) k ≡ slice_get xs k
slice_left [] ys k less = absurd (omega (arith, less))
slice_left (x ∷ xs) ys zero less = refl
slice_left (x ∷ xs) ys (suc k) less = slice_left xs ys k (omega (arith, less))

slice_right : {X : Type 0} (xs ys : List X) (j k : ℕ) → j ≡ length xs + k → slice_get (xs ++ ys) j ≡ slice_get ys k
slice_right [] ys j k is = ap (slice_get ys) (omega (arith, is))
slice_right (x ∷ xs) ys zero k is = absurd (omega (arith, is))
slice_right (x ∷ xs) ys (suc j) k is = slice_right xs ys j k (omega (arith, is))

-- one line is left out
slice_behind : {X : Type 0} (xs : List X) (j k : ℕ) → k ≡ j + 1 → slice_get (drop 1 xs) j ≡ slice_get xs k
slice_behind [] j k is = refl
slice_behind (x ∷ xs) j zero is = absurd (omega (arith, is))
slice_behind (x ∷ xs) j (suc k) is = ap (slice_get xs) (omega (arith, is))

-- the place of a line of files after the first
record IsBehind (files : List (List ℕ)) (i n : ℕ) (place : ℕ × ℕ) : Type 0 where
  k : ℕ
  file : place.0 ≡ i + k
  bytes : List ℕ
  there : slice_get files k ≡ Some bytes
  is : slice_get (flat_map lines_behind files) (n - 1) ≡ slice_get (lines_of bytes) (place.1 - 1)

place_behind : (i : ℕ) (files : List (List ℕ)) (n : ℕ) → 1 ≤ i → 1 ≤ n → n ≤ length (flat_map lines_behind files) → n < 2 ^ 64 - 1
    → IsBehind files i n (place_from i (map (λ (g : List ℕ). length (lines_behind g)) files) n)
place_behind i [] n later some few less = absurd (omega (arith, some, few))
place_behind i (f ∷ fs) n later some few less = go (nat_lt (length (lines_behind f)) n) refl (λ more.
    let all = length-append (lines_behind f) (flat_map lines_behind fs) in
    place_behind (i + 1) fs (n - length (lines_behind f)) (omega (arith, later)) (omega (arith, more))
    (omega (arith, few, all, more)) (omega (arith, less)))
  where
    counts : List ℕ
    counts = map (λ (g : List ℕ). length (lines_behind g)) fs

    go : (t : Bool) → nat_lt (length (lines_behind f)) n ≡ t
        → (length (lines_behind f) < n → IsBehind fs (i + 1) (n - length (lines_behind f))
        (place_from (i + 1) counts (n - length (lines_behind f))))
        → IsBehind (f ∷ fs) i n (cond t (place_from (i + 1) counts (n - length (lines_behind f))) (i, own_number i n))
    go true is behind =
        let more = ltb-true (length (lines_behind f)) n is in
        let rest = behind more in record {
          k = suc rest.k;
          file = omega (arith, rest.file);
          bytes = rest.bytes;
          there = rest.there;
          is = slice_right (lines_behind f) (flat_map lines_behind fs) (n - 1) (n - length (lines_behind f) - 1) (omega (arith, more))
              ∙ rest.is;
        }
    go false is behind =
        let within = ltb-false (length (lines_behind f)) n is in
        let not_first : (i == 0) ≡ false = ne_eqb _ _ (λ e. omega (arith, e, later)) in
        let own : own_number i n ≡ n + 1 = ap (λ b. cond b n (min (n + 1) (2 ^ 64 - 1))) not_first ∙ omega (arith, less) in record {
          k = 0;
          file = omega arith;
          bytes = f;
          there = refl;
          is = slice_left (lines_behind f) (flat_map lines_behind fs) (n - 1) (omega (arith, within, some))
              ∙ slice_behind (lines_of f) (n - 1) (own_number i n - 1) (omega (arith, own, some));
        }

one_more : (k : ℕ) → 1 + k ≡ suc k
one_more k = omega arith

-- a line of the input is in the file at this place
pub place_is : (files : List (List ℕ)) (n : ℕ) → 1 ≤ n → n ≤ length (joined_lines files) → n < 2 ^ 64 - 1
    → IsPlace files n (place_from 0 (line_counts files) n).0 (place_from 0 (line_counts files) n).1
place_is [] n some few less = absurd (omega (arith, some, few))
place_is (f ∷ fs) n some few less = go (nat_lt (length (lines_of f)) n) refl
  where
    counts : List ℕ
    counts = map (λ (g : List ℕ). length (lines_behind g)) fs

    place : Bool → ℕ × ℕ
    place t = cond t (place_from 1 counts (n - length (lines_of f))) (0, n)

    go : (t : Bool) → nat_lt (length (lines_of f)) n ≡ t → IsPlace (f ∷ fs) n (place t).0 (place t).1
    go true is =
        let more = ltb-true (length (lines_of f)) n is in
        let all = length-append (lines_of f) (flat_map lines_behind fs) in
        let rest = place_behind 1 fs (n - length (lines_of f)) (omega arith) (omega (arith, more))
        (omega (arith, few, all, more)) (omega (arith, less)) in record {
          bytes = rest.bytes;
          there = ap (slice_get (f ∷ fs)) (rest.file ∙ one_more rest.k) ∙ rest.there;
          is = slice_right (lines_of f) (flat_map lines_behind fs) (n - 1) (n - length (lines_of f) - 1) (omega (arith, more)) ∙ rest.is;
        }
    go false is = record {
      bytes = f;
      there = refl;
      is = slice_left (lines_of f) (flat_map lines_behind fs) (n - 1) (omega (arith, ltb-false (length (lines_of f)) n is, some));
    }

-- the line is in the file that the count of lines is reached at
pub at_file : (counts : List ℕ) (file left count : ℕ) → file < length counts → count ≡ slice_index_or counts file count → left ≤ count
    → place_from file (drop file counts) left ≡ (file, own_number file left)
at_file counts file left count less is few =
    ap (λ cs. place_from file cs left) (drop-cons counts file count less ∙ ap (λ c. c ∷ drop (suc file) counts) (sym is))
    ∙ ap (λ b. cond b (place_from (file + 1) (drop (suc file) counts) (left - count)) (file, own_number file left)) (le-ltb count left few)

-- and after all files there is none
pub at_end : (counts : List ℕ) (file left : ℕ) → length counts ≤ file → place_from file (drop file counts) left ≡ (0, left)
at_end counts file left past = ap (λ cs. place_from file cs left) (drop_of_length-le counts past)

-- so this is the line's place
pub found : (files : List (List ℕ)) (counts : List ℕ) (n file line : ℕ) → counts ≡ line_counts files
    → place_from 0 counts n ≡ (file, line) → 1 ≤ n → n ≤ length (joined_lines files) → n < 2 ^ 64 - 1 → IsPlace files n file line
found files counts n file line are is some few less =
    subst (λ (p : ℕ × ℕ). IsPlace files n p.0 p.1) (ap (λ cs. place_from 0 cs n) (sym are) ∙ is) (place_is files n some few less)
