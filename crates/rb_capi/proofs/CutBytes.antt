-- Bytes that are cut into files, and the sum of the files' lengths.
use Rattle.std.proofs.Common.{◌≡◌, ◌∙◌, ◌+◌, ◌<◌, ℕ, zero, suc, List, [], ◌∷◌, ◌++◌, length, take, drop, get_or, ap, arith, sym}
use Rattle.core.proofs.slice.Lists.{drop-cons}
use Rattle.rb_capi.specs.Close.{pieces_of}

one_more : (t : ℕ) → suc t ≡ t + 1
one_more t = omega arith

taken : {X : Type 0} (xs : List X) (t : ℕ) (y : X) (ys : List X) → drop t xs ≡ y ∷ ys → take (suc t) xs ≡ take t xs ++ y ∷ []
taken [] zero y ys e = absurd (cc e)
taken [] (suc t) y ys e = absurd (cc e)
taken (x ∷ xs) zero y ys e = cc e
taken (x ∷ xs) (suc t) y ys e = ap (λ l. x ∷ l) (taken xs t y ys e)

left : {X : Type 0} (xs : List X) (t : ℕ) (y : X) (ys : List X) → drop t xs ≡ y ∷ ys → drop (suc t) xs ≡ ys
left [] zero y ys e = absurd (cc e)
left [] (suc t) y ys e = absurd (cc e)
left (x ∷ xs) zero y ys e = cc e
left (x ∷ xs) (suc t) y ys e = left xs t y ys e

-- the first item after some is the next
pub take_next_one : {X : Type 0} (xs : List X) (t : ℕ) (y : X) (ys : List X) → drop t xs ≡ y ∷ ys → take (t + 1) xs ≡ take t xs ++ y ∷ []
take_next_one xs t y ys e = ap (λ n. take n xs) (sym (one_more t)) ∙ taken xs t y ys e

-- and the others are after it
pub drop_next_one : {X : Type 0} (xs : List X) (t : ℕ) (y : X) (ys : List X) → drop t xs ≡ y ∷ ys → drop (t + 1) xs ≡ ys
drop_next_one xs t y ys e = ap (λ n. drop n xs) (sym (one_more t)) ∙ left xs t y ys e

-- a list after some items
drop_is : {X : Type 0} (xs : List X) (t : ℕ) (d : X) → t < length xs → drop t xs ≡ get_or xs t d ∷ drop (t + 1) xs
drop_is xs t d less = drop-cons xs t d less ∙ ap (λ n. get_or xs t d ∷ drop n xs) (one_more t)

-- of the files that are left the first has the next length
pub next_file : (ls bytes rest : List ℕ) (t : ℕ) → t < length ls → pieces_of (drop t ls) rest ≡ drop t (pieces_of ls bytes)
    → drop t (pieces_of ls bytes) ≡ take (get_or ls t 0) rest ∷ pieces_of (drop (t + 1) ls) (drop (get_or ls t 0) rest)
next_file ls bytes rest t less place = sym place ∙ ap (λ l. pieces_of l rest) (drop_is ls t 0 less)
