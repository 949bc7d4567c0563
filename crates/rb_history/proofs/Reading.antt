-- The value that is read is the one that was written.
use Rattle.rb_history.proofs.Words.{tokens, HasNumbers, json_tokens, Each, IsName, candidate, name_of, name_text, OpName, Data, Items, item}
use Rattle.rb_history.proofs.Words.{no_items, as_array, max_depth, of_json, read, items_of, items_view, view, compact_text, items_text}
use Rattle.rb_history.proofs.Words.{outline, Value, IfSome, List, None, Option, Some, [], add-one, ap, append-nil, append_assoc, codes}
use Rattle.rb_history.proofs.Words.{drop, drop-cons, false, get_or, length, refl, suc, sym, ℕ, ◌++◌, ◌+◌, ◌<◌, ◌∙◌, ◌∷◌, ◌≡◌, ◌≤◌, drop_all}
use Rattle.rb_history.proofs.Words.{map-append, map, option_and_then, option_map}
use Rattle.rb_shadow.proofs.Public.NameOf.{value_is, candidate_is}
use Rattle.json.specs.Json as json
use Rattle.json.specs.Tree as tree
use Rattle.json.proofs.Printed.Tokens.{tokens-print}
use Rattle.json.proofs.Printed.Trees.{ArePrintable-json_tokens, value-json_tokens}
use Rattle.serde_json.proofs.Texts.{print-outline}
use Rattle.rb_history.proofs.Public.Listed.{rest_text, whole_text}

-- what is read so far, and then what is still to be read
abbrev pub with_front : {A : Type 0} → List A → Option (List A) → Option (List A)
with_front front o = option_map (λ later. front ++ later) o

-- if nothing is read so far, all is still to be read
pub nothing_read : {A : Type 0} (front : List A) (left : Option (List A)) → front ≡ [] → with_front front left ≡ left
nothing_read front None none = refl
nothing_read front (Some later) none = ap (λ l. Some (l ++ later)) none

-- the items from a place on begin with the item there
pub item_here : {A : Type 0} (xs : List A) (i : ℕ) (x : A) → i < length xs → x ≡ get_or xs i x
    → drop i xs ≡ x ∷ drop (i + 1) xs
item_here xs i x within is = rw add-one (drop-cons xs i x within ∙ ap (λ y. y ∷ drop (suc i) xs) (sym is))

-- an operation's name is read from its own text
pub back : (x : OpName) → IsName x → name_of (name_text x) ≡ Some x
back x h = sym (value_is (name_text x) (Some x) refl h (λ y k e. ap Some (sym (candidate_is x h) ∙ ap candidate e ∙ candidate_is y k)))

-- an object's text, its keys in any order, is read as the object with its keys in byte order
pub compact_read : (turned d : Data) → HasNumbers (outline turned) → tree.depth (outline turned) ≤ max_depth →
    of_json (outline turned) ≡ Some d → read (compact_text turned) ≡ Some d
compact_read turned d numbers shallow same =
    let j = outline turned in
    let text : tokens (compact_text turned) ≡ json_tokens j ++ [] = ap tokens (sym (print-outline turned))
    ∙ tokens-print (json_tokens j) (ArePrintable-json_tokens j numbers) ∙ sym (append-nil (json_tokens j)) in
    ap (λ ts. option_and_then of_json (option_and_then (λ p. json.if_last p.0 p.1) (json.value max_depth ts))) text
    ∙ ap (λ o. option_and_then of_json (option_and_then (λ p. json.if_last p.0 p.1) o)) (value-json_tokens j max_depth [] shallow) ∙ same

-- so a line of it is read as what the object is
pub line_read : {A : Type 0} (f : Data → Option A) (turned d : Data) (x : A) (line : List ℕ) → line ≡ compact_text turned
    → HasNumbers (outline turned) → tree.depth (outline turned) ≤ max_depth → of_json (outline turned) ≡ Some d
    → f d ≡ Some x → option_and_then f (read line) ≡ Some x
line_read f turned d x line text numbers shallow same is =
    ap (λ l. option_and_then f (read l)) text ∙ ap (option_and_then f) (compact_read turned d numbers shallow same) ∙ is

-- what a text is read as, one of the same tokens is read as too
pub read_alike : {A B : Type 0} (f : Data → Option A) (seen : B → A) (xs ys : List ℕ) (r : Option B) → tokens xs ≡ tokens ys
    → IfSome r (λ x. option_and_then f (read xs) ≡ Some (seen x)) → IfSome r (λ x. option_and_then f (read ys) ≡ Some (seen x))
read_alike f seen xs ys None e h = h
read_alike f seen xs ys (Some x) e h =
    ap (λ ts. option_and_then f (option_and_then of_json (option_and_then (λ p. json.if_last p.0 p.1) (json.value max_depth ts))))
    (sym e) ∙ h

-- ---- a list that is read item by item

-- the text begins with these items, whatever items are left, this before the first of them
abbrev pub BeginsWith : {A : Type 0} → (A → Data) → List ℕ → List ℕ → List ℕ → List A → Type 0
BeginsWith written text left comma xs = (later : List Data) (rest : List ℕ) → left ≡ rest_text comma later ++ rest
    → text ≡ rest_text [] (map written xs ++ later) ++ rest

-- one item more is read
pub one_more : {A : Type 0} (written : A → Data) (text left comma behind next : List ℕ) (xs : List A) (x : A)
    (new : List A) → new ≡ xs ++ x ∷ [] → BeginsWith written text left comma xs → left ≡ comma ++ behind
    → behind ≡ compact_text (written x) ++ next → BeginsWith written text next (codes ",") new
one_more written text left comma behind next xs x new is so e f later rest g =
    let this = compact_text (written x) in
    let more = rest_text (codes ",") later in
    let here : left ≡ rest_text comma (written x ∷ later) ++ rest = e
    ∙ ap (λ l. comma ++ l) (f ∙ ap (λ l. this ++ l) g ∙ sym (append_assoc this more rest))
    ∙ sym (append_assoc comma (this ++ more) rest) in
    so (written x ∷ later) rest here
    ∙ ap (λ l. rest_text [] l ++ rest)
    (sym (append_assoc (map written xs) (written x ∷ []) later)
    ∙ ap (λ l. l ++ later) (sym (map-append written xs (x ∷ [])) ∙ ap (map written) (sym is)))

-- all items are read if the list's end comes
pub all_read : {A : Type 0} (written : A → Data) (text left comma rest : List ℕ) (xs : List A) → BeginsWith written text left comma xs
    → left ≡ codes "]" ++ rest → text ≡ items_text false (items_of (map written xs)) ++ rest
all_read written text left comma rest xs so e =
    let items = rest_text [] (map written xs) in
    so [] left refl ∙ ap (λ l. rest_text [] l ++ left) (append-nil (map written xs)) ∙ ap (λ l. items ++ l) e
    ∙ sym (append_assoc items (codes "]") rest) ∙ ap (λ l. l ++ rest) (whole_text (map written xs))

-- what holds of each item and of one more holds of each of the longer list
pub each_more : {A : Type 0} (P : A → Type 0) (xs : List A) (x : A) (new : List A) → new ≡ xs ++ x ∷ [] → Each P xs
    → P x → Each P new
each_more P [] x new is h p = rw is (p, tt)
each_more P (y ∷ xs) x new is h p = rw is (h.0, each_more P xs x (xs ++ x ∷ []) refl h.1 p)

-- ---- the items of a list, read one by one

-- a list is read by reading its first item, and then those after it
abbrev pub ReadsEach : {A : Type 0} → (Data → Option A) → (Items → Option (List A)) → Type 0
ReadsEach of_one of_all = (d : Data) (ds : Items) → of_all (item d ds) ≡ option_and_then
    (λ x. option_map (λ later. x ∷ later) (of_all ds)) (of_one d)

-- one item more is read
pub one_more_read : {A : Type 0} (of_one : Data → Option A) (of_all : Items → Option (List A)) (front new : List A)
    (x : A)
    (values : List Value) (i : ℕ) (v : Value) (whole : Option (List A)) → ReadsEach of_one of_all → i < length values
    → v ≡ get_or values i v → new ≡ front ++ x ∷ [] → of_one (view v) ≡ Some x
    → with_front front (of_all (items_view (drop i values))) ≡ whole
    → with_front new (of_all (items_view (drop (i + 1) values))) ≡ whole
one_more_read of_one of_all front new x values i v whole each within at pushed is so =
    ap (λ l. with_front l (of_all behind)) pushed ∙ by (of_all behind)
    (ap (λ o. with_front front (option_and_then (λ y. option_map (λ later. y ∷ later) (of_all behind)) o)) (sym is)
    ∙ ap (with_front front) (sym (each (view v) behind))
    ∙ ap (λ vs. with_front front (of_all (items_view vs))) (sym (item_here values i v within at)) ∙ so)
  where
    behind : Items
    behind = items_view (drop (i + 1) values)

    by : (o : Option (List _)) → with_front front (option_map (λ later. x ∷ later) o) ≡ whole → with_front (front ++ x ∷ []) o ≡ whole
    by None e = e
    by (Some later) e = ap Some (append_assoc front (x ∷ []) later) ∙ e

-- the items of a value are read if none is left
pub all_items_read : {A : Type 0} (of_all : Items → Option (List A)) (d : Data) (front : List A) (values : List Value)
    (i : ℕ)
    → of_all no_items ≡ Some [] → length values ≤ i → as_array d ≡ Some (items_view values)
    → with_front front (of_all (items_view (drop i values))) ≡ of_all (items_view values)
    → option_and_then of_all (as_array d) ≡ Some front
all_items_read of_all d front values i none past found so =
    ap (option_and_then of_all) found ∙ sym so ∙ ap (λ vs. with_front front (of_all (items_view vs)))
    (drop_all i values past)
    ∙ ap (with_front front) none ∙ ap Some (append-nil front)
