-- A list as it is written, item by item.
use Rattle.rb_history.proofs.Words.{Adds, Data, items_of, compact_text, items_text, Err, List, Ok, Result, [], ap, append-nil, append_assoc}
use Rattle.rb_history.proofs.Words.{codes, drop, false, length, refl, sym, take, true, ℕ, ◌++◌, ◌+◌, ◌∙◌, ◌∷◌, ◌≡◌, ◌≤◌, drop_all, map}
use Rattle.rb_history.proofs.Words.{IsErr}
use Rattle.rb_history.proofs.Public.Appended.{then, front_of_front, front_of_sum}

-- the items that are still to be written, with this before the first
abbrev pub rest_text : List ℕ → List Data → List ℕ
rest_text comma [] = []
rest_text comma (d ∷ ds) = comma ++ (compact_text d ++ rest_text (codes ",") ds)

later_text : (ds : List Data) → rest_text (codes ",") ds ++ codes "]" ≡ items_text true (items_of ds)
later_text [] = refl
later_text (d ∷ ds) = ap (λ l. codes "," ++ l) (append_assoc (compact_text d) (rest_text (codes ",") ds) (codes "]")
    ∙ ap (λ l. compact_text d ++ l) (later_text ds))

-- all items that are still to be written, with the bracket, are the items of the list
pub whole_text : (ds : List Data) → rest_text [] ds ++ codes "]" ≡ items_text false (items_of ds)
whole_text [] = refl
whole_text (d ∷ ds) = append_assoc (compact_text d) (rest_text (codes ",") ds) (codes "]") ∙ ap (λ l. compact_text d ++ l) (later_text ds)

-- an item more
pub item_written : {A : Type 0} (written : A → Data) (out new comma total : List ℕ) (xs : List A) (i : ℕ) (x : A) →
    drop i xs ≡ x ∷ drop (i + 1) xs → new ≡ out ++ (comma ++ compact_text (written x))
    → out ++ rest_text comma (map written (drop i xs)) ≡ total → new ++ rest_text (codes ",") (map written (drop (i + 1) xs)) ≡ total
item_written written out new comma total xs i x is e h =
    let rest = rest_text (codes ",") (map written (drop (i + 1) xs)) in
    ap (λ l. l ++ rest) e ∙ append_assoc out (comma ++ compact_text (written x)) rest
    ∙ ap (λ l. out ++ l) (append_assoc comma (compact_text (written x)) rest)
    ∙ ap (λ l. out ++ rest_text comma (map written l)) (sym is) ∙ h

-- all are written
pub items_written : {A : Type 0} (written : A → Data) (out comma total : List ℕ) (xs : List A) (i : ℕ) → length xs ≤ i →
    out ++ rest_text comma (map written (drop i xs)) ≡ total → out ≡ total
items_written written out comma total xs i h e = sym (append-nil out) ∙
    ap (λ l. out ++ rest_text comma (map written l)) (sym (drop_all i xs h)) ∙ e

-- all are written between two texts, the last of which begins with the bracket
pub list_between : {A X E : Type 0} (written : A → Data) (r : Result X E) (old out new comma front back : List ℕ) (xs : List A) (i : ℕ) →
    length xs ≤ i
    → out ++ rest_text comma (map written (drop i xs)) ≡ (old ++ front) ++ rest_text [] (map written xs)
    → Adds r out new (codes "]" ++ back) → Adds r old new (front ++ (items_text false (items_of (map written xs)) ++ back))
list_between written r old out new comma front back xs i h e f =
    let list = rest_text [] (map written xs) in
    let all = items_written written out comma ((old ++ front) ++ list) xs i h e ∙ append_assoc old front list in
    then r old out new (front ++ list) (codes "]" ++ back) _ all f
    (append_assoc front list (codes "]" ++ back) ∙ ap (λ l. front ++ l) (sym (append_assoc list (codes "]") back)
    ∙ ap (λ l. l ++ back) (whole_text (map written xs))))

-- ---- what a call leaves in place, and adds, after others wrote

-- what was there first is there after a call that failed
pub failed_behind : {A E : Type 0} (r : Result A E) (old mid new t : List ℕ) → IsErr r → take (length old) mid ≡ old
    → take (length mid) new ≡ mid → Adds r old new t
failed_behind (Ok x) old mid new t is e h = absurd (cc)
failed_behind (Err x) old mid new t is e h = front_of_front old mid new e h

-- and after a text was added
pub front_more : (old mid new a : List ℕ) → take (length old) mid ≡ old → new ≡ mid ++ a → take (length old) new ≡ old
front_more old mid new a e h = front_of_front old mid new e (front_of_sum mid new a h)

-- a list after a text is written if no item is left, with its last bracket
pub list_behind : {A E : Type 0} (r : Result A E) (old out new comma front : List ℕ) (later all : List Data)
    → later ≡ []
    → out ++ rest_text comma later ≡ (old ++ front) ++ rest_text [] all → Adds r out new (codes "]")
    → Adds r old new (front ++ items_text false (items_of all))
list_behind r old out new comma front later all none h f =
    let list = rest_text [] all in
    let written : out ≡ old ++ (front ++ list) = sym (append-nil out)
    ∙ ap (λ ds. out ++ rest_text comma ds) (sym none) ∙ h
    ∙ append_assoc old front list in
    then r old out new (front ++ list) (codes "]") _ written f
    (append_assoc front list (codes "]") ∙ ap (λ l. front ++ l) (whole_text all))
