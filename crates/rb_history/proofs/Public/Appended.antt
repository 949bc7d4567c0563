-- The bytes that one call adds after another.
use Rattle.rb_history.proofs.Words.{◌≡◌, ℕ, List, ◌++◌, length, take, drop, take-append-drop, refl, sym, ap, ◌∙◌, append_assoc, Result, Ok}
use Rattle.rb_history.proofs.Words.{Err, IsErr, take_at, Adds}

-- what was there before a text was added is there after more was added
pub front_stays : (old mid new a : List ℕ) → mid ≡ old ++ a → take (length mid) new ≡ mid → take (length old) new ≡ old
front_stays old mid new a e h =
    let rest = drop (length mid) new in
    let whole : new ≡ old ++ (a ++ rest) = sym (take-append-drop (length mid) new) ∙ ap (λ l. l ++ rest) (h ∙ e) ∙ append_assoc old a rest
    in
    ap (take (length old)) whole ∙ take_at old (a ++ rest) (length old) refl

-- a prefix of a prefix
pub front_of_front : (old mid new : List ℕ) → take (length old) mid ≡ old → take (length mid) new ≡ mid → take (length old) new ≡ old
front_of_front old mid new e h =
    let more = drop (length old) mid in
    front_stays old mid new more (sym (take-append-drop (length old) mid) ∙ ap (λ l. l ++ more) e) h

-- what a text was added to is there before it
pub front_of_sum : (old new a : List ℕ) → new ≡ old ++ a → take (length old) new ≡ old
front_of_sum old new a e = ap (take (length old)) e ∙ take_at old a (length old) refl

-- two calls, each of which added a text
pub both : (old mid new a b : List ℕ) → mid ≡ old ++ a → new ≡ mid ++ b → new ≡ old ++ (a ++ b)
both old mid new a b e f = f ∙ ap (λ l. l ++ b) e ∙ append_assoc old a b

-- the last of two calls, after what the first added
pub then : {A E : Type 0} (r : Result A E) (old mid new a b t : List ℕ) → mid ≡ old ++ a → Adds r mid new b → a ++ b ≡ t → Adds r old new t
then (Ok x) old mid new a b t e h f = both old mid new a b e h ∙ ap (λ l. old ++ l) f
then (Err x) old mid new a b t e h f = front_stays old mid new a e h

-- a failed call, after what another added
pub failed : {A E : Type 0} (r : Result A E) (old mid new a t : List ℕ) → IsErr r → mid ≡ old ++ a → take (length mid) new ≡ mid →
    Adds r old new t
failed (Ok x) old mid new a t is e h = absurd (cc)
failed (Err x) old mid new a t is e h = front_stays old mid new a e h

-- a failed call that left what was there before
pub failed_first : {A E : Type 0} (r : Result A E) (old new t : List ℕ) → IsErr r → take (length old) new ≡ old → Adds r old new t
failed_first (Ok x) old new t is h = absurd (cc)
failed_first (Err x) old new t is h = h
