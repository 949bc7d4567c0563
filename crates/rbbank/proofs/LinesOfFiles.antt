-- Lines of files that are joined.
use Rattle.std.proofs.Common.{◌≡◌, ◌≢◌, ◌∙◌, ◌==◌, ◌+◌, ◌-◌, ◌≤◌, ◌++◌, ℕ, Bool, cond, true, false, true≢false, refl, sym, ap, subst}
use Rattle.std.proofs.Common.{arith, suc, List, [], ◌∷◌, length, drop, map, Option, Some, None, append_assoc, append-nil, length-append}
use Rattle.std.specs.Prelude.{slice_get, flat_map}
use Rattle.std.proofs.lemmas.Bool.{ne_eqb}
use Rattle.std.specs.List.{onto_first}
use Rattle.std.specs.Option.{option_map_or}
use Rattle.rb_lines.specs.Lines.{lines_of}
use Rattle.rbbank.specs.Files.{AreInput, AreJoined, AreNoInput, HaveHead, HaveOneHead, line_counts, first_line, head_of}
use Rattle.rbbank.specs.Files.{lines_behind, joined_lines}
use Rattle.rbbank.specs.declared.joined.FilesFault.TheVariants.{AnotherBank}
use Rattle.rbbank.specs.declared.joined.Joined.{Joined}

-- ---- lines after lines

-- the last line has a line feed, if there is a line
abbrev pub is_ended : List ℕ → Bool
is_ended [] = true
is_ended (b ∷ []) = b == 10
is_ended (b ∷ x ∷ xs) = is_ended (x ∷ xs)

-- some bytes are some lines
record AreSome (bytes : List ℕ) : Type 0 where
  first : List ℕ
  more : List (List ℕ)
  are : lines_of bytes ≡ first ∷ more

some_lines : (b : ℕ) (bs : List ℕ) → AreSome (b ∷ bs)
some_lines b bs = go (b == 10) (lines_of bs) refl
  where
    go : (t : Bool) (ls : List (List ℕ)) → cond t ([] ∷ ls) (onto_first b ls) ≡ lines_of (b ∷ bs) → AreSome (b ∷ bs)
    go true ls is = record { first = []; more = ls; are = sym is }
    go false [] is = record { first = b ∷ []; more = []; are = sym is }
    go false (l ∷ ls) is = record { first = b ∷ l; more = ls; are = sym is }

-- a byte goes onto the first of some lines, whatever is after them
onto_some : (t : Bool) (b : ℕ) (ls more : List (List ℕ)) (first : List ℕ) (rest : List (List ℕ)) → ls ≡ first ∷ rest
    → cond t ([] ∷ (ls ++ more)) (onto_first b (ls ++ more)) ≡ cond t ([] ∷ ls) (onto_first b ls) ++ more
onto_some true b ls more first rest is = refl
onto_some false b ls more first rest is = rw is refl

step : (b : ℕ) (xs ys : List ℕ) (more : List (List ℕ)) (x : ℕ) (rest : List ℕ) → xs ≡ x ∷ rest → lines_of ys ≡ lines_of xs ++ more
    → lines_of (b ∷ ys) ≡ lines_of (b ∷ xs) ++ more
step b xs ys more x rest is same =
    let some = subst AreSome (sym is) (some_lines x rest) in
    ap (λ ls. cond (b == 10) ([] ∷ ls) (onto_first b ls)) same
    ∙ onto_some (b == 10) b (lines_of xs) more some.first some.more some.are

-- after a line feed lines follow
pub behind_feed : (xs ys : List ℕ) → is_ended xs ≡ true → lines_of (xs ++ ys) ≡ lines_of xs ++ lines_of ys
behind_feed [] ys ended = refl
behind_feed (b ∷ []) ys ended = rw ended refl
behind_feed (b ∷ x ∷ xs) ys ended = step b (x ∷ xs) ((x ∷ xs) ++ ys) (lines_of ys) x xs refl (behind_feed (x ∷ xs) ys ended)

-- and after another byte, with a line feed between
pub with_feed : (xs ys : List ℕ) → is_ended xs ≡ false → lines_of ((xs ++ 10 ∷ []) ++ ys) ≡ lines_of xs ++ lines_of ys
with_feed [] ys open_end = absurd (true≢false open_end)
with_feed (b ∷ []) ys open_end = rw open_end refl
with_feed (b ∷ x ∷ xs) ys open_end =
    step b (x ∷ xs) (((x ∷ xs) ++ 10 ∷ []) ++ ys) (lines_of ys) x xs refl (with_feed (x ∷ xs) ys open_end)

-- it is the last byte by which this is seen
pub ended_by_last : (xs : List ℕ) → is_ended xs ≡ option_map_or (λ b. b == 10) (slice_get xs (length xs - 1)) true
ended_by_last [] = refl
ended_by_last (b ∷ []) = refl
ended_by_last (b ∷ x ∷ xs) =
    let here : length (b ∷ x ∷ xs) - 1 ≡ suc (length xs) = omega arith in
    let there : length (x ∷ xs) - 1 ≡ length xs = omega arith in
    ended_by_last (x ∷ xs) ∙ ap (λ k. option_map_or (λ byte. byte == 10) (slice_get (x ∷ xs) k) true) there
    ∙ sym (ap (λ k. option_map_or (λ byte. byte == 10) (slice_get (b ∷ x ∷ xs) k) true) here)

-- a text with a byte has a first line, and one without hasn't
pub some_first : (xs ys : List ℕ) → (length xs == 0) ≡ true → (length ys == 0) ≡ false → first_line xs ≡ first_line ys → ⊥
some_first [] (y ∷ ys) none some same =
    let is = (some_lines y ys).are in
    let first : first_line (y ∷ ys) ≡ Some (some_lines y ys).first = ap (λ (ls : List (List ℕ)). slice_get ls 0) is in
    let bad : None ≡ Some (some_lines y ys).first = same ∙ first in
    cc bad
some_first [] [] none some same = true≢false some
some_first (x ∷ xs) ys none some same =
    let filled : (length (x ∷ xs) == 0) ≡ false = ne_eqb _ _ (λ e. omega (arith, e)) in
    true≢false (sym none ∙ filled)

-- ---- files after files

flat_map-more : {X Y : Type 0} (f : X → List Y) (xs : List X) (x : X) → flat_map f (xs ++ x ∷ []) ≡ flat_map f xs ++ f x
flat_map-more f [] x = append-nil (f x)
flat_map-more f (y ∷ ys) x = ap (λ l. f y ++ l) (flat_map-more f ys x) ∙ sym (append_assoc (f y) (flat_map f ys) (f x))

map-more : {X Y : Type 0} (f : X → Y) (xs : List X) (x : X) → map f (xs ++ x ∷ []) ≡ map f xs ++ f x ∷ []
map-more f [] x = refl
map-more f (y ∷ ys) x = ap (λ l. f y ∷ l) (map-more f ys x)

have_more : (head : Option (List ℕ)) (files : List (List ℕ)) (file : List ℕ) → HaveHead head files → first_line file ≡ head
    → HaveHead head (files ++ file ∷ [])
have_more head [] file all is = (is, tt)
have_more head (f ∷ fs) file all is = (all.0, have_more head fs file all.1 is)

-- the first line of the input is that of all its files
slice_first : {X : Type 0} (xs ys : List X) (x : X) → slice_get xs 0 ≡ Some x → slice_get (xs ++ ys) 0 ≡ Some x
slice_first [] ys x is = absurd (cc is)
slice_first (y ∷ xs) ys x is = is

no_lines : (ls : List (List ℕ)) → slice_get ls 0 ≡ None → ls ≡ []
no_lines [] is = refl
no_lines (l ∷ ls) is = absurd (cc is)

none_behind : (files : List (List ℕ)) → HaveHead None files → flat_map lines_behind files ≡ []
none_behind [] all = refl
none_behind (file ∷ files) all =
    ap (λ (ls : List (List ℕ)). drop 1 ls ++ flat_map lines_behind files) (no_lines (lines_of file) all.0) ∙ none_behind files all.1

pub head_is : (files : List (List ℕ)) → HaveOneHead files → slice_get (joined_lines files) 0 ≡ head_of files
head_is [] one = refl
head_is (file ∷ files) one = go (first_line file) refl
  where
    go : (head : Option (List ℕ)) → first_line file ≡ head → slice_get (joined_lines (file ∷ files)) 0 ≡ first_line file
    go None is =
        ap (λ (ls : List (List ℕ)). slice_get (lines_of file ++ ls) 0) (none_behind files (subst (λ h. HaveHead h files) is one.1))
        ∙ ap (λ (ls : List (List ℕ)). slice_get ls 0) (append-nil (lines_of file))
    go (Some l) is = slice_first (lines_of file) _ l is ∙ sym is

pub head_of_input : (files : List (List ℕ)) (input : List ℕ) → AreInput files input → first_line input ≡ head_of files
head_of_input files input are = ap (λ (ls : List (List ℕ)). slice_get ls 0) are.lines ∙ head_is files are.one

-- a file alone
pub alone : (file : List ℕ) → AreInput (file ∷ []) file
alone file = record {
  one = (refl, tt);
  lines = sym (append-nil (lines_of file));
  alone = λ f is. cc is;
}

-- one file more
pub one_more : (files : List (List ℕ)) (input : List ℕ) (file input' : List ℕ) → 1 ≤ length files → AreInput files input
    → first_line file ≡ first_line input → lines_of input' ≡ lines_of input ++ lines_behind file
    → AreInput (files ++ file ∷ []) input'
one_more [] input file input' some are head is = absurd (omega (arith, some))
one_more (f ∷ fs) input file input' some are head is = record {
  one = (refl, have_more (first_line f) fs file are.one.1 (head ∙ head_of_input (f ∷ fs) input are));
  lines = is ∙ ap (λ ls. ls ++ lines_behind file) are.lines ∙ append_assoc (lines_of f) (flat_map lines_behind fs) (lines_behind file)
      ∙ ap (λ ls. lines_of f ++ ls) (sym (flat_map-more lines_behind fs file));
  alone = λ g only. absurd (not_one fs file f g only);
}
  where
    not_one : (fs : List (List ℕ)) (file f g : List ℕ) → (f ∷ fs) ++ file ∷ [] ≡ g ∷ [] → ⊥
    not_one [] file f g only = cc only
    not_one (x ∷ fs) file f g only = cc only

pub counts_more : (files : List (List ℕ)) (file : List ℕ) → 1 ≤ length files
    → line_counts (files ++ file ∷ []) ≡ line_counts files ++ length (lines_behind file) ∷ []
counts_more [] file some = absurd (omega (arith, some))
counts_more (f ∷ fs) file some = ap (λ ns. length (lines_of f) ∷ ns) (map-more (λ (g : List ℕ). length (lines_behind g)) fs file)

pub joined_more : (files : List (List ℕ)) (old new : Joined) (file rest : List ℕ) → 1 ≤ length files → AreJoined files old
    → first_line file ≡ first_line old.bytes.items → lines_of rest ≡ lines_behind file
    → lines_of new.bytes.items ≡ lines_of old.bytes.items ++ lines_of rest
    → new.counts.items ≡ old.counts.items ++ length (lines_of rest) ∷ [] → AreJoined (files ++ file ∷ []) new
joined_more files old new file rest some are head behind lines counts = record {
  input = one_more files old.bytes.items file new.bytes.items some are.input head
      (lines ∙ ap (λ ls. lines_of old.bytes.items ++ ls) behind);
  counts = counts ∙ ap (λ ls. old.counts.items ++ length ls ∷ []) behind
      ∙ ap (λ ns. ns ++ length (lines_behind file) ∷ []) are.counts ∙ sym (counts_more files file some);
}

-- another bank's file was read
pub is_another : (files : List (List ℕ)) (input file : List ℕ) (n : ℕ) → length files ≡ n → AreInput files input
    → first_line file ≢ first_line input → AreNoInput (n + 1) (files ++ file ∷ []) (AnotherBank n)
is_another files input file n count are differs = (
  ap (λ k. k + 1) (sym count) ∙ sym (length-append files (file ∷ [])),
  record {
    before = files;
    last = file;
    are = refl;
    one = are.one;
    differs = λ is. differs (is ∙ sym (head_of_input files input are));
  },
)
