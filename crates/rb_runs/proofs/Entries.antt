-- The entries of histories, one after another: their text, and the histories that they make.
use Rattle.rb_runs.proofs.Words.{◌≡◌, ℕ, ◌+◌, List, [], ◌∷◌, ◌++◌, length, map, refl, sym, ap, ◌∙◌, append-nil, append_assoc, codes}
use Rattle.rb_runs.proofs.Words.{replicate, length-append, compact_text, Settings, Entry, entry_json, by_site, entries_text, input_text}
use Rattle.rb_runs.proofs.Words.{with_entries, with_entry, histories_text, history_text, text_of}
use Rattle.rb_runs.specs.Texts.{config_line, entry_line}

-- the entries of a site's history, each with the site's number
abbrev pub numbered : ℕ → List Entry → List (ℕ × Entry)
numbered n h = map (λ x. (n, x)) h

-- the entries of histories, the first of which is that of site n
abbrev pub all_numbered : ℕ → List (List Entry) → List (ℕ × Entry)
all_numbered n [] = []
all_numbered n (h ∷ hs) = numbered n h ++ all_numbered (n + 1) hs

-- ---- their text

text_append : (s : Settings) (xs ys : List (ℕ × Entry)) → entries_text s (xs ++ ys) ≡ entries_text s xs ++ entries_text s ys
text_append s [] ys = refl
text_append s (x ∷ xs) ys =
    let line = compact_text (entry_json s x.0 x.1) ++ codes "\n" in
    ap (λ t. line ++ t) (text_append s xs ys) ∙ sym (append_assoc line (entries_text s xs) (entries_text s ys))

one_text : (s : Settings) (n : ℕ) (h : List Entry) → entries_text s (numbered n h) ≡ history_text s n h
unfolding entry_line
one_text s n [] = refl
one_text s n (x ∷ h) = ap (λ t. (compact_text (entry_json s n x) ++ codes "\n") ++ t) (one_text s n h)

all_text : (s : Settings) (n : ℕ) (hs : List (List Entry)) → entries_text s (all_numbered n hs) ≡ histories_text s n hs
all_text s n [] = refl
all_text s n (h ∷ hs) =
    text_append s (numbered n h) (all_numbered (n + 1) hs)
    ∙ ap (λ t. t ++ entries_text s (all_numbered (n + 1) hs)) (one_text s n h)
    ∙ ap (λ t. history_text s n h ++ t) (all_text s (n + 1) hs)

-- the text of histories is that of an input with their entries
pub same_text : (s : Settings) (hs : List (List Entry)) → input_text s (all_numbered 0 hs) ≡ text_of s hs
unfolding config_line
same_text s hs = ap (λ t. config_line s ++ t) (all_text s 0 hs)

-- ---- the histories that they make

with_both : (xs ys : List (ℕ × Entry)) (hs : List (List Entry)) → with_entries (xs ++ ys) hs ≡ with_entries ys (with_entries xs hs)
with_both [] ys hs = refl
with_both (x ∷ xs) ys hs = with_both xs ys (with_entry x.0 x.1 hs)

-- an entry more of the history after these
one_behind : (before : List (List Entry)) (h : List Entry) (after : List (List Entry)) (x : Entry)
    → with_entry (length before) x (before ++ h ∷ after) ≡ before ++ (h ++ x ∷ []) ∷ after
one_behind [] h after x = refl
one_behind (g ∷ before) h after x = ap (λ gs. g ∷ gs) (one_behind before h after x)

all_behind : (before : List (List Entry)) (h more : List Entry) (after : List (List Entry))
    → with_entries (numbered (length before) more) (before ++ h ∷ after) ≡ before ++ (h ++ more) ∷ after
all_behind before h [] after = ap (λ g. before ++ g ∷ after) (sym (append-nil h))
all_behind before h (x ∷ more) after =
    ap (with_entries (numbered (length before) more)) (one_behind before h after x)
    ∙ all_behind before (h ++ x ∷ []) more after
    ∙ ap (λ g. before ++ g ∷ after) (append_assoc h (x ∷ []) more)

filled : (before hs : List (List Entry))
    → with_entries (all_numbered (length before) hs) (before ++ replicate (length hs) []) ≡ before ++ hs
filled before [] = refl
filled before (h ∷ hs) =
    let empty = replicate (length hs) [] in
    let longer : length (before ++ h ∷ []) ≡ length before + 1 = length-append before (h ∷ []) in
    with_both (numbered (length before) h) (all_numbered (length before + 1) hs) (before ++ [] ∷ empty)
    ∙ ap (with_entries (all_numbered (length before + 1) hs)) (all_behind before [] h empty ∙ sym (append_assoc before (h ∷ []) empty))
    ∙ ap (λ n. with_entries (all_numbered n hs) ((before ++ h ∷ []) ++ empty)) (sym longer)
    ∙ filled (before ++ h ∷ []) hs
    ∙ append_assoc before (h ∷ []) hs

-- the entries of histories make these, in a world of as many sites
pub same_histories : (sites : ℕ) (hs : List (List Entry)) → length hs ≡ sites → by_site sites (all_numbered 0 hs) ≡ hs
same_histories sites hs many = ap (λ n. with_entries (all_numbered 0 hs) (replicate n [])) (sym many) ∙ filled [] hs
