-- Which operations are cancelled, from one list to the next.
use Rattle.rb_ledger.proofs.Words.{◌≡◌, ℕ, zero, suc, ◌+◌, ◌-◌, ◌≤◌, Bool, true, false, cond, List, [], ◌∷◌, ◌++◌}
use Rattle.rb_ledger.proofs.Words.{length, take, get_or, set, map, refl, ap, sym, ◌∙◌, arith, inl, inr, Some, None}
use Rattle.rb_ledger.proofs.Words.{length-set, slice_get, nat_lt, option_and_then, is_some, length-map, map_push}
use Rattle.rb_ledger.proofs.Words.{map-set, set-set, set-get_or, take_at, Settings, Shadow, OpName, is_cancelled}
use Rattle.rb_ledger.proofs.Words.{target_of, Cancels, IsValid, position_of, operation_at, find_position}
use Rattle.rb_ledger.proofs.Words.{first_cancel_in, first_cancel_from, all_cancels, all_cancelled, cancels_of}
use Rattle.rb_ledger.proofs.Words.{counted_at, changed_at, no_cancels, one_more, marked_at, is_below, not_below}
use Rattle.rb_ledger.proofs.Words.{cancel_count}
use Rattle.std.proofs.Math.ListN.{get_or-map}
use Rattle.rb_money.proofs.Public.Tests
use Rattle.rb_shadow.proofs.Public.Members
use Rattle.rb_ledger.proofs.Public.Legal
use Rattle.rb_ledger.proofs.CancelFacts
use Rattle.rb_ledger.proofs.FoundNames

-- whether a count is of some
abbrev counted : Cancels → Bool
counted c = nat_lt 0 c.count

-- what has some cancellations is cancelled
by_count : (us : List Shadow) (x : OpName) → counted (cancels_of us x) ≡ is_cancelled us x
by_count us x = elim (Members.bool_cases (is_cancelled us x)) [
  | inl e ↦ is_below 0 (cancel_count us x) (CancelFacts.counted_some us x e) ∙ sym e
  | inr e ↦ not_below 0 (cancel_count us x) (omega (arith, CancelFacts.counted_none us x e)) ∙ sym e
]

-- the same of all operations
by_counts : (us vs : List Shadow) → map counted (map (λ (u : Shadow). cancels_of us u.name) vs)
    ≡ map (λ (u : Shadow). is_cancelled us u.name) vs
by_counts us [] = refl
by_counts us (v ∷ vs) = ap (λ b. b ∷ map counted (map (λ (u : Shadow). cancels_of us u.name) vs)) (by_count us v.name)
    ∙ ap (λ bs. is_cancelled us v.name ∷ bs) (by_counts us vs)

-- one more cancellation marks what it cancels
changed_marks : (n p : ℕ) (cs : List Cancels) → map counted (changed_at n (one_more p) cs) ≡ marked_at n true (map counted cs)
changed_marks zero p cs = refl
changed_marks (suc i) p cs = map-set counted cs i (one_more p (get_or cs i no_cancels))
    ∙ ap (set (map counted cs) i) (is_below 0 ((get_or cs i no_cancels).count + 1) (omega arith))

-- with one more operation
pub marks_push : (s : Settings) (us : List Shadow) (h : Shadow) → IsValid s (us ++ h ∷ []) →
    all_cancelled (us ++ h ∷ []) ≡ marked_at (position_of us (target_of h.kind)) true (all_cancelled us) ++ false ∷ []
marks_push s us h longer =
    let may = Legal.IsValid-last s us h longer in
    let valid = Legal.IsValid-front s us (h ∷ []) longer in
    let p = position_of us (target_of h.kind) in
    let cs = changed_at p (one_more (length us + 1)) (all_cancels us) in
    sym (by_counts (us ++ h ∷ []) (us ++ h ∷ []))
    ∙ ap (map counted) (CancelFacts.all_cancels_push us h valid.unique valid.targets may.fresh may.target)
    ∙ map_push counted cs no_cancels
    ∙ ap (λ bs. bs ++ false ∷ []) (changed_marks p (length us + 1) (all_cancels us) ∙ ap (marked_at p true) (by_counts us us))

-- a mark changes no length
marked_length : (n : ℕ) (b : Bool) (bs : List Bool) → length (marked_at n b bs) ≡ length bs
marked_length zero b bs = refl
marked_length (suc i) b bs = length-set bs i b

-- a mark that is what it was
marked_back : (n : ℕ) (a : Bool) (cs : List Cancels) → marked_at n (counted_at n cs) (marked_at n a (map counted cs)) ≡ map counted cs
marked_back zero a cs = refl
marked_back (suc i) a cs = set-set (map counted cs) i a (counted (get_or cs i no_cancels))
    ∙ ap (set (map counted cs) i) (sym (get_or-map counted cs i no_cancels)) ∙ set-get_or (map counted cs) i false

-- without the last operation
pub marks_front : (s : Settings) (us : List Shadow) (h : Shadow) (bs : List Bool) → IsValid s (us ++ h ∷ []) →
    bs ≡ all_cancelled (us ++ h ∷ []) →
    marked_at (position_of us (target_of h.kind)) (counted_at (position_of us (target_of h.kind)) (all_cancels us)) (take (length us) bs)
    ≡ all_cancelled us
marks_front s us h bs longer are =
    let p = position_of us (target_of h.kind) in
    let long : length (marked_at p true (all_cancelled us)) ≡ length us =
    marked_length p true (all_cancelled us) ∙ length-map us (λ (u : Shadow). is_cancelled us u.name) in
    ap (λ xs. marked_at p (counted_at p (all_cancels us)) (take (length us) xs)) (are ∙ marks_push s us h longer)
    ∙ ap (marked_at p (counted_at p (all_cancels us))) (take_at (marked_at p true (all_cancelled us)) (false ∷ []) (length us) long)
    ∙ ap (λ xs. marked_at p (counted_at p (all_cancels us)) (marked_at p true xs)) (sym (by_counts us us))
    ∙ marked_back p true (all_cancels us) ∙ by_counts us us

-- ---- what is read of them

-- what is cancelled has a first cancellation
first_there : (us : List Shadow) (x : OpName) → is_cancelled us x ≡ is_some (first_cancel_in us x)
first_there us x = at (is_cancelled us x)
  where
    at : (b : Bool) → b ≡ is_some (cond b (Some (first_cancel_from 1 us x)) None)
    at true = refl
    at false = refl

-- the mark of one of them, by its first cancellation
read_all : (us vs : List Shadow) (i : ℕ) → get_or (map (λ (u : Shadow). is_cancelled us u.name) vs) i false
    ≡ is_some (option_and_then (λ u. first_cancel_in us u.name) (slice_get vs i))
read_all us [] i = refl
read_all us (v ∷ vs) zero = first_there us v.name
read_all us (v ∷ vs) (suc i) = read_all us vs i

-- the mark of the operation at a position
pub first_read : (us : List Shadow) (bs : List Bool) (p i : ℕ) (r : Bool) → bs ≡ all_cancelled us → 1 ≤ p → i ≡ p - 1 →
    r ≡ get_or bs i false → r ≡ is_some (option_and_then (λ u. first_cancel_in us u.name) (operation_at us p))
first_read us bs p i r are some at is = is ∙ ap (λ xs. get_or xs i false) are ∙ read_all us us i
    ∙ ap (λ o. is_some (option_and_then (λ (u : Shadow). first_cancel_in us u.name) o)) (ap (slice_get us) at
    ∙ sym (ap (λ b. cond b None (slice_get us (p - 1))) (Tests.positive p some)))

-- there is no operation at 0
pub first_unread : (us : List Shadow) (p : ℕ) → p ≡ 0 →
    false ≡ is_some (option_and_then (λ u. first_cancel_in us u.name) (operation_at us p))
first_unread us p none = ap (λ n. is_some (option_and_then (λ (u : Shadow). first_cancel_in us u.name) (operation_at us n))) (sym none)

-- the same by the name under which it is found
pub found_read : (us : List Shadow) (x : OpName) (p : ℕ) (r : Bool) → Some p ≡ find_position us x →
    r ≡ is_some (option_and_then (λ u. first_cancel_in us u.name) (operation_at us p)) → r ≡ is_cancelled us x
found_read us x p r e is =
    let (t, there, named, found) = FoundNames.found_there us x p e in
    is ∙ ap (λ o. is_some (option_and_then (λ (u : Shadow). first_cancel_in us u.name) o)) there
    ∙ sym (first_there us t.name) ∙ ap (is_cancelled us) named
