-- A part of a list, from one place to another, as the list changes around it.
use Rattle.std.proofs.Common.{◌≡◌, ◌≤◌, ◌+◌, ◌-◌, ℕ, List, ◌++◌, length, take, drop, slice_range, sym, ap, ◌∙◌, arith, append_assoc}
use Rattle.std.proofs.Common.{length-append, length-drop}
use Rattle.std.proofs.lemmas.List.{drop-drop, length-take-le, take-append-drop, take_at}
use Rattle.std.proofs.lemmas.Slice.{between_is}
use borrow.Rule.Slice.PartMut.{post_of, put_mid}

-- the lists are equal up to the part's end
pub same_part : (xs ys : List ℕ) (start end : ℕ) → take end ys ≡ take end xs → slice_range ys start end ≡ slice_range xs start end
same_part xs ys start end same = between_is ys start end ∙ ap (drop start) same ∙ sym (between_is xs start end)

-- the part begins n places later
pub skipped : (xs : List ℕ) (start end n : ℕ) → slice_range xs (start + n) end ≡ drop n (slice_range xs start end)
skipped xs start end n = between_is xs (start + n) end ∙ sym (drop-drop n start (take end xs)) ∙ ap (drop n) (sym (between_is xs start end))

regroup : (p t d r : List ℕ) → p ++ ((t ++ d) ++ r) ≡ (p ++ t) ++ (d ++ r)
regroup p t d r = simp append_assoc

-- a part behind the front was written over: the front, and then the first of what was written
over_part : (xs ys : List ℕ) (end k n : ℕ) → end ≤ length xs → n ≤ length ys
    → take (end + n) (put_mid end k xs ys) ≡ take end xs ++ take n ys
over_part xs ys end k n within few =
    let front = take end xs in
    let after = drop n ys ++ post_of end k xs in
    let whole : put_mid end k xs ys ≡ (front ++ take n ys) ++ after =
    ap (λ l. front ++ (l ++ post_of end k xs)) (sym (take-append-drop n ys))
    ∙ regroup front (take n ys) (drop n ys) (post_of end k xs) in
    ap (take (end + n)) whole
    ∙ take_at (front ++ take n ys) after (end + n)
    (omega (arith, length-append front (take n ys), length-take-le end xs within, length-take-le n ys few))

-- the same if as many are taken as there were
pub over_part_of : (xs ys more : List ℕ) (len end k n : ℕ) → len ≡ length xs → end + k ≤ length xs → length ys ≡ k → n ≤ length ys
    → take (end + n) (take len (put_mid end k xs ys ++ more)) ≡ take end xs ++ take n ys
over_part_of xs ys more len end k n all within full few =
    let front : length (take end xs) ≡ end = length-take-le end xs (omega arith) in
    let rest : length (post_of end k xs) ≡ length xs - end - k = length-drop k (drop end xs) ∙ ap (λ m. m - k) (length-drop end xs) in
    let as_long : length (put_mid end k xs ys) ≡ len =
    omega (arith, all, full, front, rest, length-append (take end xs) (ys ++ post_of end k xs), length-append ys (post_of end k xs)) in
    ap (take (end + n)) (take_at (put_mid end k xs ys) more len as_long) ∙ over_part xs ys end k n (omega arith) few
