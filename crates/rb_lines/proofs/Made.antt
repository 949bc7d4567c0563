-- The value that lines make of a responder, for a source whose bytes are known.
use Rattle.std.proofs.Common.{◌≡◌, ◌<◌, ◌≤◌, ◌+◌, ◌⊎◌, ℕ, Bool, true, List, [], ◌∷◌, ◌++◌, length, take, drop, Option, Some, None}
use Rattle.std.proofs.Common.{Result, Ok, Err, refl, sym, ap, ◌∙◌, append_assoc}
use Rattle.std.specs.Prelude.{IfSome, OnOk}
use Rattle.std.specs.Io.KnownBytes.{IsAtEnd}
use Rattle.rb_lines.specs.Buffers.{Reads}
use Rattle.rb_lines.specs.Lines.{lines_of, line_len}
use Rattle.rb_lines.proofs.Public.Walks as walk

-- what all lines make of the first is what those to come make of this
abbrev pub IsMade : {M : Type 0} → (List (List ℕ) → M) → (List (List ℕ) → M) → Option (List ℕ) → Option (List ℕ) → List ℕ → Type 0
IsMade first made None now p = Unit {0}
IsMade first made (Some all) None p = ⊥
IsMade first made (Some all) (Some rest) p = first (lines_of all) ≡ made (lines_of (p ++ rest))

-- at first all lines are to come
pub made_first : {M : Type 0} (made : List (List ℕ) → M) (a : Option (List ℕ)) (p : List ℕ) → p ≡ [] → IsMade made made a a p
made_first made None p none = tt
made_first made (Some all) p none = ap (λ q. made (lines_of (q ++ all))) (sym none)

-- bytes more were read: the lines to come are the same
pub made_read : {M : Type 0} (first made : List (List ℕ) → M) (a b b' : Option (List ℕ)) (p p' : List ℕ) → IsMade first made a b p
    → Reads p p' b b' → IsMade first made a b' p'
made_read first made None b b' p p' m r = tt
made_read first made (Some all) None b' p p' m r = absurd m
made_read first made (Some all) (Some x) None p p' m r = absurd r.2
made_read first made (Some all) (Some x) (Some y) p p' m (more, at_end, taken) =
    m ∙ ap (λ bytes. made (lines_of bytes))
    (ap (λ q. p ++ q) taken ∙ sym (append_assoc p more y) ∙ ap (λ q. q ++ y) (sym at_end))

-- a whole line at the front is the first of the lines to come
next : (p r : List ℕ) (e : Bool) (n : ℕ) → n ≡ line_len p → n ≤ length p → (n < length p) ⊎ ((n ≡ length p) × (0 < n) × (e ≡ true))
    → (e ≡ true → r ≡ []) → lines_of (p ++ r) ≡ take n p ∷ lines_of (drop (n + 1) p ++ r)
next p r e n len fits at_front end =
    let none : walk.Walks (p ++ r) [] p r e = record { got = p; lines = refl; bytes = refl; whole = λ _ tail. refl } in
    (walk.after_line (p ++ r) [] p r e n none len fits at_front end).lines

-- the line at the front was answered
pub made_line : {M : Type 0} (first made made' : List (List ℕ) → M) (a b : Option (List ℕ)) (p : List ℕ) (e : Bool) (n : ℕ)
    → IsMade first made a b p → n ≡ line_len p → n ≤ length p → (n < length p) ⊎ ((n ≡ length p) × (0 < n) × (e ≡ true))
    → (e ≡ true → IsAtEnd b) → ((ls : List (List ℕ)) → made (take n p ∷ ls) ≡ made' ls) → IsMade first made' a b (drop (n + 1) p)
made_line first made made' None b p e n m len fits at_front end answered = tt
made_line first made made' (Some all) None p e n m len fits at_front end answered = absurd m
made_line first made made' (Some all) (Some x) p e n m len fits at_front end answered =
    m ∙ ap made (next p x e n len fits at_front end) ∙ answered (lines_of (drop (n + 1) p ++ x))

all_made : {M : Type 0} (first made : List (List ℕ) → M) (a b : Option (List ℕ)) (p : List ℕ) → IsMade first made a b p → p ≡ []
    → IsAtEnd b → IfSome a (λ input. first (lines_of input) ≡ made [])
all_made first made None b p m none end = tt
all_made first made (Some all) None p m none end = absurd m
all_made first made (Some all) (Some x) p m none end =
    m ∙ ap (λ q. made (lines_of (q ++ x))) none ∙ ap (λ q. made (lines_of q)) end

-- there are no more lines
pub made_last : {M R E : Type 0} (result : Result R E) (first made : List (List ℕ) → M) (a b : Option (List ℕ)) (p : List ℕ)
    → IsMade first made a b p → p ≡ [] → IsAtEnd b
    → OnOk result (IfSome a (λ input. first (lines_of input) ≡ made []))
made_last (Ok r) first made a b p m none end = all_made first made a b p m none end
made_last (Err e) first made a b p m none end = tt
