-- Options of a command in any order: they are taken, and what is found of each doesn't depend on the order.
use Rattle.std.proofs.Common.{◌≡◌, ◌∙◌, ◌||◌, ℕ, Bool, cond, true, false, refl, sym, ap, ap₂, subst}
use Rattle.std.proofs.Common.{List, [], ◌∷◌, ◌++◌, Option, Some, None, inl, inr, map, IsPermutation, set, length}
use Rattle.std.specs.Prelude.{find, flat_map, fold, option_map, swap}
use Rattle.std.specs.Cmp.{IsEquivalence}
use Rattle.std.specs.List.{IsDistinct}
use Rattle.std.specs.List.Sorted.{SwapsInRange, apply_swaps}
use Rattle.std.specs.Option.{option_or}
use Rattle.std.specs.Ordering.{on}
use Rattle.std.specs.Set.{distinct_count}
use Rattle.std.specs.Str.{bytes_eq}
use Rattle.std.proofs.Math.ListN.{get_or-map}
use Rattle.std.proofs.lemmas.Bool.{or_from, or_parts}
use Rattle.std.proofs.lemmas.Cmp.{lists_equiv, nat_eq_equiv, on_equiv}
use Rattle.std.proofs.lemmas.List.{append-nil, length-map, map-set}
use Rattle.std.proofs.lemmas.List.Elements.{All-from_recursion, recursion_from_All}
use Rattle.std.proofs.lemmas.List.Folds.{find-append, list_any-append}
use Rattle.std.proofs.lemmas.List.Sorted.{All-permutation, IsPermutation-sym}
use Rattle.std.proofs.lemmas.Map.Keys.{IsDistinct-IsPermutation}
use Rattle.std.proofs.lemmas.Map.Made.{IsDistinct-from_count}
use Rattle.clap.specs.Faults.{check_fault, defaults_fault, given_default_fault, level_fault}
use Rattle.clap.specs.Kinds.{Kinds}
use Rattle.clap.specs.Simple.{Shape}
use Rattle.clap.specs.Walk.{Row, Rule, Text, at_row, default_rows, has_row, is_empty, more_values, nothing_held}
use Rattle.clap.specs.Walk.{reading_by, rows_after, used, values_or_missing, with_default, without}
use Rattle.clap.specs.declared.parser.matches.ValueSource.TheVariants.{CommandLine, DefaultValue}
use Rattle.clap.proofs.OnLiterals.{clap_on_literals}
use Rattle.rb_cli.proofs.GivenOptions.{AreGiven, Fits, FitsSwitch, FitsValued, Given, both_none, given_leaves}
use Rattle.rb_cli.proofs.GivenOptions.{rows_with, spelled, takes_walked}
use Rattle.rb_cli.proofs.Passing.{Each}

-- ---- rows at the end

-- the row of an option that was given once
abbrev pub row_of : Rule → List Text → Row
row_of a values = record {
  id = a.id;
  values = values_or_missing a values;
  count = None;
  source = Some CommandLine;
  reading = reading_by a;
}

-- the row is of this option
abbrev pub of : Text → Row → Bool
of id r = bytes_eq r.id id

-- the test of two texts is one of equality
texts_same : IsEquivalence bytes_eq
texts_same = lists_equiv nat_eq_equiv

-- the row of an option that has none yet goes to the end
at_new : (id : Text) (change : Row → List Row) (missing rows : List Row) → has_row id rows ≡ false
    → at_row id change missing rows ≡ rows ++ missing
at_new id change missing [] new = refl
at_new id change missing (r ∷ rows) new =
    let parts = or_parts (bytes_eq r.id id) (has_row id rows) new in
    ap (λ b. cond b (change r ++ rows) (r ∷ at_row id change missing rows)) parts.0
    ∙ ap (λ rs. r ∷ rs) (at_new id change missing rows parts.1)

-- so it is where it would take the place of an older one
set_new : (id : Text) (change : Row → List Row) (missing rows : List Row) → has_row id rows ≡ false
    → at_row id change missing (without id rows) ≡ rows ++ missing
set_new id change missing rows new =
    ap (at_row id change missing) (at_new id (λ r. []) [] rows new ∙ append-nil rows) ∙ at_new id change missing rows new

-- the row of an option that fits does
used_new : (s : Shape) (g : Given) (rows : List Row) → Fits s g → has_row g.rule.id rows ≡ false
    → used g.rule g.values rows ≡ rows ++ row_of g.rule g.values ∷ []
used_new s g rows (FitsSwitch {rule = a} is) new = rw is.sets (set_new a.id (more_values CommandLine a.missing) _ rows new)
used_new s g rows (FitsValued {rule = a} {value = v} named plain passes) new = elim named.taking [
  | inl set ↦ rw set (set_new a.id (more_values CommandLine (v ∷ [])) _ rows new)
  | inr append ↦ rw append (at_new a.id (more_values CommandLine (v ∷ [])) _ rows new)
]

-- of an option without a row none is found
none_found : (id : Text) (rows : List Row) → has_row id rows ≡ false → find (of id) rows ≡ None
none_found id [] new = refl
none_found id (r ∷ rows) new =
    let parts = or_parts (bytes_eq r.id id) (has_row id rows) new in
    ap (λ b. cond b (Some r) (find (of id) rows)) parts.0 ∙ none_found id rows parts.1

-- nothing more is found than what is
or_none : (o : Option Row) → option_or o None ≡ o
or_none None = refl
or_none (Some r) = refl

-- ---- what a command's options may be

-- an option's words, the word of its name, its rule, and its values if it is given
abbrev pub Slot : Type 0
Slot = List Text × Text × Rule × Option (List Text)

-- if it is given it fits, with these words; else it has none
abbrev pub IsSlot : Shape → Slot → Type 0
IsSlot s (words, word, a, None) = words ≡ []
IsSlot s (words, word, a, Some values) = Fits s (record { word = word; rule = a; values = values }) × (words ≡ word ∷ values)

-- the options that are given
abbrev pub givens : List Slot → List Given
givens [] = []
givens ((words, word, a, None) ∷ slots) = givens slots
givens ((words, word, a, Some values) ∷ slots) = record { word = word; rule = a; values = values } ∷ givens slots

-- two are of one id
abbrev pub same : Slot → Slot → Bool
same = on (λ slot. slot.2.id) bytes_eq

-- there is no row of the option yet
abbrev IsNew : List Row → Slot → Type 0
IsNew rows slot = has_row slot.2.id rows ≡ false

-- its row if it is given
abbrev pub slot_row : Slot → Option Row
slot_row slot = option_map (row_of slot.2) slot.3

-- these rows are found of the options
abbrev pub AreFound : List Row → List Slot → Type 0
AreFound rows = Each (λ slot. find (of slot.2.id) rows ≡ slot_row slot)

-- options can be given after these rows, by these words, and each is found at the end, with what is found already
record AreTaken (s : Shape) (rows : List Row) (slots : List Slot) : Type 0 where
  given : AreGiven s rows (givens slots)
  words : spelled (givens slots) ≡ flat_map (λ words. words) (map (λ slot. slot.0) slots)
  own : AreFound (rows_with rows (givens slots)) slots
  others : (id : Text) → Each (λ slot. bytes_eq id slot.2.id ≡ false) slots
      → find (of id) (rows_with rows (givens slots)) ≡ find (of id) rows

-- options that have no row yet have none with another's row after
still_new : (rows : List Row) (r : Row) (slots : List Slot) → Each (λ slot. bytes_eq r.id slot.2.id ≡ false) slots
    → Each (IsNew rows) slots → Each (IsNew (rows ++ r ∷ [])) slots
still_new rows r [] other new = tt
still_new rows r (slot ∷ slots) other new = (
  list_any-append (of slot.2.id) rows (r ∷ []) ∙ or_from _ _ new.0 (or_from _ _ other.0 refl),
  still_new rows r slots other.1 new.1,
)

-- so options that fit are taken if their ids differ
all_taken : (s : Shape) (rows : List Row) (slots : List Slot) → Each (IsSlot s) slots → IsDistinct same slots
    → Each (IsNew rows) slots → AreTaken s rows slots
unfolding IsDistinct
all_taken s rows [] are apart new = record { given = tt; words = refl; own = tt; others = λ id other. refl }
all_taken s rows ((words, word, a, None) ∷ slots) are apart new =
    let rest = all_taken s rows slots are.1 apart.1 new.1 in
    record {
      given = rest.given;
      words = rest.words ∙ ap (λ ws. ws ++ flat_map (λ words. words) (map (λ slot. slot.0) slots)) (sym are.0);
      own = (rest.others a.id apart.0 ∙ none_found a.id rows new.0, rest.own);
      others = λ id other. rest.others id other.1;
    }
all_taken s rows ((words, word, a, Some values) ∷ slots) are apart new =
    let r = row_of a values in
    let is = used_new s _ rows are.0.0 new.0 in
    let finds = λ (id : Text). ap (find (of id)) is ∙ find-append (of id) rows (r ∷ []) in
    let rest = all_taken s (used a values rows) slots are.1 apart.1
    (subst (λ rows. Each (IsNew rows) slots) (sym is) (still_new rows r slots apart.0 new.1)) in
    record {
      given = (are.0.0, inr new.0, rest.given);
      words = ap (λ ws. word ∷ (values ++ ws)) rest.words
          ∙ ap (λ ws. ws ++ flat_map (λ words. words) (map (λ slot. slot.0) slots)) (sym are.0.1);
      own = (
        rest.others a.id apart.0 ∙ finds a.id
            ∙ ap₂ (λ o b. option_or o (cond b (Some r) None)) (none_found a.id rows new.0) (texts_same.refl a.id),
        rest.own,
      );
      others = λ id other. rest.others id other.1 ∙ finds id
          ∙ ap (λ b. option_or (find (of id) rows) (cond b (Some r) None)) (texts_same.symm a.id id ∙ other.0)
          ∙ or_none (find (of id) rows);
    }

-- before the first option there is no row
all_new : (slots : List Slot) → Each (IsNew []) slots
all_new [] = tt
all_new (slot ∷ slots) = (refl, all_new slots)

-- ---- the order of the options

-- two elements change places before a function is applied or after
map_swap : {X Y : Type 0} (f : X → Y) (xs : List X) (i j : ℕ) → map f (swap xs i j) ≡ swap (map f xs) i j
map_swap f [] i j = refl
map_swap f (x ∷ xs) i j = simp map-set (ap₂ (λ y z. set (set (map f (x ∷ xs)) i y) j z)
    (sym (get_or-map f (x ∷ xs) j x)) (sym (get_or-map f (x ∷ xs) i x)))

-- and so they do again and again
map_swaps : {X Y : Type 0} (f : X → Y) (xs : List X) (moves : List (ℕ × ℕ))
    → map f (apply_swaps xs moves) ≡ apply_swaps (map f xs) moves
map_swaps f xs [] = refl
map_swaps f xs (p ∷ moves) = map_swap f (apply_swaps xs moves) p.0 p.1 ∙ ap (λ l. swap l p.0 p.1) (map_swaps f xs moves)

-- what options' words are another order of, the options can be in
in_order : {X Y : Type 0} (f : X → Y) (xs : List X) (ys : List Y) → IsPermutation (map f xs) ys
    → (others : List X) × IsPermutation xs others × (map f others ≡ ys)
in_order f xs ys same = (
  apply_swaps xs same.moves,
  record { moves = same.moves; below = subst (λ n. SwapsInRange n same.moves) (length-map xs f) same.below; is = refl },
  map_swaps f xs same.moves ∙ sym same.is,
)

-- what each element of a list is, each is in any order
each_alike : {X : Type 0} (P : X → Type 0) (xs ys : List X) → IsPermutation xs ys → Each P xs → Each P ys
each_alike P xs ys same each = recursion_from_All P ys (All-permutation P xs ys same (All-from_recursion P xs each))

-- ---- defaults

-- the row that this rule's default gives an option
abbrev pub default_of : Text → Rule → Option Row
default_of id a = find (of id) (default_rows a.id (reading_by a) a.defaults [])

-- a default's row goes to the end
default_added : (a : Rule) (values : List Text) (rows : List Row) → has_row a.id rows ≡ false
    → default_rows a.id (reading_by a) values rows ≡ rows ++ default_rows a.id (reading_by a) values []
default_added a [] rows new = sym (append-nil rows)
default_added a (v ∷ vs) rows new = at_new a.id (more_values DefaultValue (v ∷ vs)) _ rows new

-- what reads a default as it reads an option without a row, reads the same with the default and without it
one_default : {X : Type 0} (read : Option Row → X) (id : Text) (rows : List Row) (a : Rule) → read (default_of id a) ≡ read None
    → read (find (of id) (with_default rows a)) ≡ read (find (of id) rows)
one_default read id rows a same = go (has_row a.id rows) refl
  where
    behind : (o : Option Row) → read (option_or o (default_of id a)) ≡ read o
    behind None = same
    behind (Some r) = refl

    go : (b : Bool) → has_row a.id rows ≡ b
        → read (find (of id) (cond b rows (default_rows a.id (reading_by a) a.defaults rows))) ≡ read (find (of id) rows)
    go true is = refl
    go false new = ap (λ rs. read (find (of id) rs)) (default_added a a.defaults rows new)
        ∙ ap read (find-append (of id) rows (default_rows a.id (reading_by a) a.defaults [])) ∙ behind (find (of id) rows)

-- so it does with the defaults of all rules
pub read_after : {X : Type 0} (read : Option Row → X) (id : Text) (rules : List Rule) (rows : List Row) (x : X)
    → map (λ a. read (default_of id a)) rules ≡ map (λ a. read None) rules → read (find (of id) rows) ≡ x
    → read (find (of id) (fold with_default rows rules)) ≡ x
read_after read id [] rows x same is = is
read_after read id (a ∷ rules) rows x same is =
    read_after read id rules (with_default rows a) x (cc) (one_default read id rows a (cc) ∙ is)

-- what a rule's default fails by, if it has one
abbrev pub default_fault_of : Rule → Kinds
default_fault_of a = cond (is_empty a.defaults) [] (given_default_fault a a.defaults)

-- if no rule's does, none fails with any rows
no_default_fault : (rules : List Rule) (rows : List Row) → map default_fault_of rules ≡ map (λ a. []) rules → defaults_fault rows rules ≡ []
unfolding clap_on_literals
no_default_fault [] rows none = refl
no_default_fault (a ∷ rules) rows none =
    both_none _ _ (go (has_row a.id rows) (is_empty a.defaults) (cc)) (no_default_fault rules (with_default rows a) (cc))
  where
    go : (b e : Bool) → cond e [] (given_default_fault a a.defaults) ≡ [] → cond (b || e) [] (given_default_fault a a.defaults) ≡ []
    go true e none = refl
    go false e none = none

-- ---- a command's options in any order

-- the command takes the words if the last checks pass, and its options are found in the rows before the defaults
pub record TakesOptions (s : Shape) (slots : List Slot) (words : List Text) : Type 0 where
  pub rows : List Row
  pub finds : AreFound rows slots
  pub ends : rows_after s.rules [] words ≡ fold with_default rows s.rules
  pub fault : check_fault s (fold with_default rows s.rules) false ≡ [] → level_fault s [] nothing_held words false [] ≡ []

-- so it is with options that fit, in any order, if their ids differ
pub in_any_order : (s : Shape) (slots : List Slot) (given : List (List Text)) → Each (IsSlot s) slots
    → distinct_count same slots ≡ length slots → map default_fault_of s.rules ≡ map (λ a. []) s.rules
    → IsPermutation (map (λ slot. slot.0) slots) given → TakesOptions s slots (flat_map (λ words. words) given)
in_any_order s slots given are apart defaults ordered =
    let order = in_order (λ (slot : Slot). slot.0) slots given ordered in
    let ids_same : IsEquivalence same = on_equiv (λ slot. slot.2.id) texts_same in
    let taken = all_taken s [] order.0 (each_alike (IsSlot s) slots order.0 order.1 are)
    (IsDistinct-IsPermutation same ids_same.symm slots order.0 order.1 (IsDistinct-from_count ids_same slots apart)) (all_new order.0) in
    let rows = rows_with [] (givens order.0) in
    let takes = takes_walked s _ rows (given_leaves s (givens order.0) taken.given) (no_default_fault s.rules rows defaults) in
    subst (TakesOptions s slots) (taken.words ∙ ap (flat_map (λ words. words)) order.2) (record {
      rows = rows;
      finds = each_alike _ order.0 slots (IsPermutation-sym slots order.0 order.1) taken.own;
      ends = takes.1;
      fault = takes.0;
    })
