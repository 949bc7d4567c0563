-- The text of histories, line by line.
use Rattle.rb_runs.proofs.Words.{◌≡◌, ℕ, ◌+◌, ◌<◌, List, [], ◌∷◌, ◌++◌, length, get_or, map, take, drop, sym, ap, ◌∙◌}
use Rattle.rb_runs.proofs.Words.{append-nil, append_assoc, add-zero, arith, drop_more, length-drop, length-map, length-take-le}
use Rattle.rb_runs.proofs.Words.{map-append, take_more, Settings, Entry, SiteReport, entry_line, histories_text}
use Rattle.rb_runs.proofs.Words.{history_text}
use Rattle.std.proofs.lemmas.Grind.{flat_map-append}
use Rattle.std.proofs.lemmas.List.{take-append-drop}

-- a list is what is before an item, the item, and what is after it
parts_at : {A : Type 0} (xs : List A) (i : ℕ) (x : A) → i < length xs → x ≡ get_or xs i x → xs ≡ take i xs ++ x ∷ drop (i + 1) xs
parts_at xs i x below is =
    sym (take-append-drop i xs) ∙ ap (λ l. take i xs ++ l) (drop_more xs i x below ∙ ap (λ y. y ∷ drop (i + 1) xs) (sym is))

-- ---- one history

-- the lines with one entry more, and those of the whole history by what is after it
pub entry_more : (s : Settings) (site : ℕ) (h : List Entry) (i : ℕ) (x : Entry) → i < length h → x ≡ get_or h i x
    → history_text s site (take (i + 1) h) ≡ history_text s site (take i h) ++ entry_line s site x
entry_more s site h i x below is =
    ap (history_text s site) (take_more h i x below ∙ ap (λ y. take i h ++ y ∷ []) (sym is))
    ∙ flat_map-append (entry_line s site) (take i h) (x ∷ [])
    ∙ ap (λ t. history_text s site (take i h) ++ t) (append-nil (entry_line s site x))

pub entry_rest : (s : Settings) (site : ℕ) (h : List Entry) (i : ℕ) (x : Entry) → i < length h → x ≡ get_or h i x
    → history_text s site h ≡ history_text s site (take i h) ++ (entry_line s site x ++ history_text s site (drop (i + 1) h))
entry_rest s site h i x below is =
    ap (history_text s site) (parts_at h i x below is) ∙ flat_map-append (entry_line s site) (take i h) (x ∷ drop (i + 1) h)

-- ---- one history after the other

abbrev pub history_of : SiteReport → List Entry
history_of r = r.history.items

histories_append : (s : Settings) (n : ℕ) (gs hs : List (List Entry))
    → histories_text s n (gs ++ hs) ≡ histories_text s n gs ++ histories_text s (n + length gs) hs
histories_append s n [] hs = ap (λ k. histories_text s k hs) (sym (add-zero n))
histories_append s n (g ∷ gs) hs =
    ap (λ t. history_text s n g ++ t) (histories_append s (n + 1) gs hs
    ∙ ap (λ k. histories_text s (n + 1) gs ++ histories_text s k hs) (omega arith))
    ∙ sym (append_assoc (history_text s n g) (histories_text s (n + 1) gs) (histories_text s (n + length (g ∷ gs)) hs))

-- the lines of histories by what is before one, the one, and what is after it
histories_at : (s : Settings) (before : List SiteReport) (r : SiteReport) (rest : List SiteReport) (i : ℕ) → length before ≡ i
    → histories_text s 0 (map history_of (before ++ r ∷ rest))
    ≡ histories_text s 0 (map history_of before) ++ (history_text s i (history_of r) ++ histories_text s (i + 1) (map history_of rest))
histories_at s before r rest i n =
    ap (histories_text s 0) (map-append history_of before (r ∷ rest))
    ∙ histories_append s 0 (map history_of before) (map history_of (r ∷ rest))
    ∙ ap (λ k. histories_text s 0 (map history_of before) ++ histories_text s k (map history_of (r ∷ rest)))
    (omega (arith, length-map before history_of, n))

-- the lines with one history more, and those of all by what is after it
pub report_more : (s : Settings) (rs : List SiteReport) (i : ℕ) (r : SiteReport) → i < length rs → r ≡ get_or rs i r
    → histories_text s 0 (map history_of (take (i + 1) rs))
    ≡ histories_text s 0 (map history_of (take i rs)) ++ history_text s i (history_of r)
report_more s rs i r below is =
    ap (λ l. histories_text s 0 (map history_of l)) (take_more rs i r below ∙ ap (λ y. take i rs ++ y ∷ []) (sym is))
    ∙ histories_at s (take i rs) r [] i (length-take-le i rs (omega arith))
    ∙ ap (λ t. histories_text s 0 (map history_of (take i rs)) ++ t) (append-nil (history_text s i (history_of r)))

pub report_rest : (s : Settings) (rs : List SiteReport) (i : ℕ) (r : SiteReport) → i < length rs → r ≡ get_or rs i r
    → histories_text s 0 (map history_of rs) ≡ histories_text s 0 (map history_of (take i rs))
    ++ (history_text s i (history_of r) ++ histories_text s (i + 1) (map history_of (drop (i + 1) rs)))
report_rest s rs i r below is =
    ap (λ l. histories_text s 0 (map history_of l)) (parts_at rs i r below is)
    ∙ histories_at s (take i rs) r (drop (i + 1) rs) i (length-take-le i rs (omega arith))

-- the next of what is left is the report at the number of those before
pub next_left : (rs rest rest' : List SiteReport) (i : ℕ) (r : SiteReport) → rest ≡ drop i rs → rest ≡ r ∷ rest'
    → (i < length rs) × (r ≡ get_or rs i r) × (rest' ≡ drop (i + 1) rs)
next_left rs rest rest' i r left step =
    let below : i < length rs = omega (arith, length-drop i rs, ap length left, ap length step) in
    let more = drop_more rs i r below in
    (below, cc (left, step, more), cc (left, step, more))
