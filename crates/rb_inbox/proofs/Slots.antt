-- Lists behind slots that are free.
use Rattle.std.proofs.Common.{◌≡◌, ℕ, suc, zero, ◌+◌, ◌<◌, ◌≤◌, List, [], ◌∷◌, ◌++◌, take, drop, length, set, ap, sym}
use Rattle.std.proofs.Common.{◌∙◌, append_assoc, arith, length-drop, length-take-le}
use Rattle.std.specs.Prelude.{insert, remove}
use Rattle.std.proofs.Math.Seq.{paste}
use Rattle.std.proofs.lemmas.List.{drop-drop, drop-set-add, drop_at, drop_more, set_at}
use Rattle.rb_shadow.specs.declared.shadow.Shadow.{Shadow}

-- an insertion after them is one in the list
pub insert_behind : (us : List Shadow) (n i k : ℕ) (v : Shadow) → k ≡ n + i → n ≤ length us →
    drop n (insert us k v) ≡ insert (drop n us) i v
insert_behind us zero i k v e l = ap (λ j. insert us j v) (omega arith)
insert_behind [] (suc n) i k v e l = absurd (omega arith)
insert_behind (u ∷ us) (suc n) i zero v e l = absurd (omega arith)
insert_behind (u ∷ us) (suc n) i (suc k) v e l = insert_behind us n i k v (omega arith) (omega arith)

-- and so is a removal
pub remove_behind : (us : List Shadow) (n i k : ℕ) → k ≡ n + i → n ≤ length us →
    drop n (remove us k) ≡ remove (drop n us) i
remove_behind us zero i k e l = ap (remove us) (omega arith)
remove_behind [] (suc n) i k e l = absurd (omega arith)
remove_behind (u ∷ us) (suc n) i zero e l = absurd (omega arith)
remove_behind (u ∷ us) (suc n) i (suc k) e l = remove_behind us n i k (omega arith) (omega arith)

-- shadows that are copied to a slot stand from there on, before those that were after them
copied_to : (us ws : List Shadow) (n i : ℕ) → n ≤ length us →
    drop n (paste us n ws i) ≡ take i ws ++ drop (n + i) us
copied_to us ws n i l =
    ap (drop n) (append_assoc (take n us) (take i ws) _) ∙ drop_at (take n us) _ n (length-take-le n us l)

-- the first ones a slot to the left, and a shadow after them: an insertion in the list
pub insert_left : (us : List Shadow) (n m i k : ℕ) (v : Shadow) → m ≡ n + 1 → k ≡ n + i → k < length us →
    drop n (set (paste us n (drop m us) i) k v) ≡ insert (drop m us) i v
insert_left us n m i k v next place l =
    let first = take i (drop m us) in
    ap (λ j. drop n (set (paste us n (drop m us) i) j v)) place ∙ drop-set-add n _ i v
    ∙ ap (λ ws. set ws i v) (copied_to us _ n i (omega arith) ∙ ap (λ ws. first ++ ws) (drop_more us _ v (omega arith)))
    ∙ set_at first _ _ v i (length-take-le i (drop m us) (omega (arith, length-drop m us)))
    ∙ ap (λ ws. first ++ v ∷ ws) (ap (λ j. drop j us) {y = m + i} (omega arith) ∙ sym (drop-drop i m us))

-- the first ones a slot to the right, over the next: a removal in the list
pub remove_right : (us : List Shadow) (n i : ℕ) → n < length us →
    drop (n + 1) (paste us (n + 1) (drop n us) i) ≡ remove (drop n us) i
remove_right us n i l =
    let first = take i (drop n us) in
    copied_to us _ (n + 1) i (omega arith)
    ∙ ap (λ ws. first ++ ws) (ap (λ k. drop k us) {y = n + suc i} (omega arith) ∙ sym (drop-drop (suc i) n us))
