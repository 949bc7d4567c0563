-- Names as words.
use Rattle.std.proofs.Common.{◌≡◌, List, [], ◌∷◌, ℕ, zero, suc, ◌*◌, ◌<◌, ◌≤◌, Some, refl, ap, sym, subst, ◌∙◌, ◌++◌, length, take}
use Rattle.std.proofs.Common.{arith}
use Rattle.std.specs.List.{All}
use Rattle.rb_money.specs.Settings.{place_in}
use Rattle.rb_money.specs.Words.{AreBytes, IsShort, word}
use Rattle.rb_money.specs.declared.place.Place.{Place}

-- a word is no zero
pub word_some : (name : List ℕ) → 1 ≤ word name
word_some [] = omega arith
word_some (b ∷ ys) = let some = word_some ys in omega arith

-- what words of this number of bytes are below
abbrev top : ℕ → ℕ
top zero = 2
top (suc n) = top n * 256

below_top : (name : List ℕ) → AreBytes name → word name < top (length name)
below_top [] bytes = omega arith
below_top (b ∷ ys) bytes =
    let first = bytes 0 0 (omega arith) in
    let rest = below_top ys (λ k d l. bytes (suc k) d (omega arith)) in
    omega (arith, first, rest)

top_small : (n : ℕ) → n ≤ 6 → top n ≤ 562949953421312
top_small zero h = omega arith
top_small (suc zero) h = omega arith
top_small (suc (suc zero)) h = omega arith
top_small (suc (suc (suc zero))) h = omega arith
top_small (suc (suc (suc (suc zero)))) h = omega arith
top_small (suc (suc (suc (suc (suc zero))))) h = omega arith
top_small (suc (suc (suc (suc (suc (suc zero)))))) h = omega arith
top_small (suc (suc (suc (suc (suc (suc (suc n))))))) h = absurd (omega arith)

-- a word of six bytes at most leaves space for one byte more
pub word_small : (name : List ℕ) → AreBytes name → length name ≤ 6 → word name < 562949953421312
word_small name bytes h = let below = below_top name bytes in let small = top_small (length name) h in omega (arith, below, small)

-- names with the same word are the same
pub same_word : (a b : List ℕ) → AreBytes a → AreBytes b → word a ≡ word b → a ≡ b
same_word [] [] h k e = refl
same_word [] (b ∷ ys) h k e = let some = word_some ys in absurd (omega (arith, some, e))
same_word (a ∷ xs) [] h k e = let some = word_some xs in absurd (omega (arith, some, e))
same_word (a ∷ xs) (b ∷ ys) h k e =
    let ha = h 0 0 (omega arith) in
    let hb = k 0 0 (omega arith) in
    let rest : word xs ≡ word ys = omega (arith, ha, hb, e) in
    let first : a ≡ b = omega (arith, rest, e) in
    let same = same_word xs ys (λ i d l. h (suc i) d (omega arith)) (λ i d l. k (suc i) d (omega arith)) rest in
    ap (λ x. x ∷ xs) first ∙ ap (λ l. b ∷ l) same

-- a word and its place
pub is_short : (names : List (List ℕ)) (name : List ℕ) (w : ℕ) (place : Place) → AreBytes name → w ≡ word name →
    place_in names name ≡ Some place → IsShort names (w, place)
is_short names name w place bytes e found other others same =
    ap (place_in names) (same_word other name others bytes (same ∙ e)) ∙ found

-- nothing is asked of an empty slot
pub empty_slot : (names : List (List ℕ)) (place : Place) → IsShort names (0, place)
empty_slot names place name bytes e = let some = word_some name in absurd (omega (arith, some, e))

none_taken : {X : Type 0} (n : ℕ) (none : List X) → none ≡ [] → take n none ≡ []
none_taken zero none e = refl
none_taken (suc n) [] e = refl
none_taken (suc n) (x ∷ xs) e = absurd (cc)

-- what is put after nothing
pub all_filled : {X : Type 0} (P : X → Type 0) (old rest new : List X) (n : ℕ) → old ≡ [] → new ≡ take n old ++ rest → All P rest →
    All P new
all_filled P old rest new n e f h = subst (All P) (sym (f ∙ ap (λ l. l ++ rest) (none_taken n old e))) h
