-- A command's options after a parse that fails nowhere: each that is given has a first value that its parser takes.
use Rattle.std.proofs.Common.{◌≡◌, ◌≤◌, ◌&&◌, ◌⊎◌, ℕ, Bool, cond, true, false, not, zero, suc, refl, ap, subst}
use Rattle.std.proofs.Common.{List, [], ◌∷◌, ◌++◌, length, drop, Option, Some, None, inl, inr, is_some, rules}
use Rattle.std.specs.Prelude.{IfSome, encode_utf8, find, nat_lt, fold, slice_get}
use Rattle.std.specs.Option.{option_map_or}
use Rattle.std.specs.Str.{bytes_eq, chars}
use Rattle.clap.specs.Lexer.{long_of, short_of}
use Rattle.clap.specs.Values.{refused_kind}
use Rattle.clap.specs.declared.error.kind.ErrorKind.TheVariants.{DisplayHelp, InvalidValue, TooManyValues}
use Rattle.clap.specs.declared.error.kind.ErrorKind.{ErrorKind}
use Rattle.clap.specs.Facts.{parser_of_value, unwrap_or_range}
use Rattle.clap.specs.Walk.{Held, Names, Outcome, Row, Rule, Step, Text, Waiting, Walk, action_of, arg_by_id}
use Rattle.clap.specs.Walk.{arg_by_index, arg_by_long, arg_by_short}
use Rattle.clap.specs.Walk.{after_flag, after_step, at_row, attached_value, bundle, bundle_met, bundle_step, flag_met}
use Rattle.clap.specs.Walk.{has_long, has_short, is_pending, long_met}
use Rattle.clap.specs.Walk.{long_or_other, more_values, most_values, next, option_met, option_word, plain_word}
use Rattle.clap.specs.Walk.{positional_held, pushed, reacted, reading_by, settled, settled_rows}
use Rattle.clap.specs.Walk.{short_met, short_or_plain, subcommand, subcommand_met, subcommand_or_other, takes_several}
use Rattle.clap.specs.Walk.{takes_values, to_positional, trailing, used, used_by_id, value}
use Rattle.clap.specs.Walk.{default_rows, has_row, values_or_missing, walked, walked_from, with_default, with_values, without, word_met}
use Rattle.clap.specs.Walk.{done, waits}
use Rattle.clap.specs.Walk.{plain, refused, idle, option, positional}
use Rattle.clap.specs.Kinds.{Kinds, or_else, range_kinds}
use Rattle.clap.specs.Simple.{Shape}
use Rattle.clap.specs.Takes.{value_passes}
use Rattle.clap.specs.Faults.{action_fault, bundle_fault, bundle_step_fault, flag_word_fault, flags_fault, long_fault}
use Rattle.clap.specs.Faults.{option_fault, other_fault, positional_fault, react_fault}
use Rattle.clap.specs.Faults.{settle_fault, short_fault, step_fault, stray_fault, use_fault, values_fault, walk_fault, word_fault}
use Rattle.clap.specs.declared.builder.action.ArgAction.TheVariants.{Append, Help, Set, SetTrue}
use Rattle.clap.specs.declared.parser.matches.ValueSource.{ValueSource}
use Rattle.clap.specs.declared.parser.matches.ValueSource.TheVariants.{CommandLine, DefaultValue}
use Rattle.clap.proofs.OnLiterals.{clap_on_literals}

-- ---- lists

-- each element has the property
abbrev pub Each : {X : Type 0} → (X → Type 0) → List X → Type 0
Each P [] = Unit {0}
Each P (x ∷ xs) = P x × Each P xs

pub each_append : {X : Type 0} (P : X → Type 0) (xs ys : List X) → Each P xs → Each P ys → Each P (xs ++ ys)
each_append P [] ys a b = b
each_append P (x ∷ xs) ys a b = (a.0, each_append P xs ys a.1 b)

-- what is found is an element that passes
pub found_in : {X : Type 0} (P : X → Type 0) (p : X → Bool) (xs : List X) → Each P xs → IfSome (find p xs) (λ x. P x × (p x ≡ true))
found_in P p [] e = tt
found_in P p (x ∷ xs) e = go (p x) refl (found_in P p xs e.1)
  where
    go : (b : Bool) → p x ≡ b → IfSome (find p xs) (λ y. P y × (p y ≡ true))
        → IfSome (cond b (Some x) (find p xs)) (λ y. P y × (p y ≡ true))
    go true is rest = (e.0, is)
    go false is rest = rest

-- ---- kinds

-- if there is no first fault, neither check finds one
pub none_of : (a b : Kinds) → or_else a b ≡ [] → (a ≡ []) × (b ≡ [])
none_of [] b e = (refl, e)
none_of (k ∷ ks) b e = cc e

-- some fault is not none
pub never : (k : ErrorKind) (ks : Kinds) → k ∷ ks ≡ [] → ⊥
never k ks e = cc e

-- ---- rows

-- the rule is a switch: if it is used without a value, it has one
abbrev pub IsSwitchRule : Rule → Type 0
IsSwitchRule a = (action_of a ≡ SetTrue) × (word : Text) × (words : List Text) × (a.missing ≡ word ∷ words)

-- the rule takes values: those of one use, or of each
abbrev pub TakesValues : Rule → Type 0
TakesValues a = (action_of a ≡ Set) ⊎ (action_of a ≡ Append)

-- what a rule is: one that takes one value or more in a use, a request for help, or a switch
abbrev pub IsKnownKind : Rule → Type 0
IsKnownKind a = (TakesValues a × (1 ≤ (unwrap_or_range a.range).start_inclusive)) ⊎ ((action_of a ≡ Help) ⊎ IsSwitchRule a)

-- the rule is found by its id, and is of a known kind; its defaults pass
pub record IsOption (c : List Rule) (a : Rule) : Type 0 where
  pub own : arg_by_id c a.id ≡ Some a
  pub defaults : Each (λ v. value_passes a v ≡ true) a.defaults
  pub kind : IsKnownKind a

-- the row is of one of the rules, and its first value passes
pub record Passes (c : List Rule) (r : Row) : Type 0 where
  pub rule : Rule
  pub own : arg_by_id c r.id ≡ Some rule
  pub reading : r.reading ≡ reading_by rule
  pub first : Text
  pub more : List Text
  pub values : r.values ≡ first ∷ more
  pub passes : value_passes rule first ≡ true

each_at : (P : Row → Type 0) (id : Text) (change : Row → List Row) (missing rows : List Row) → ((r : Row) → P r → Each P (change r))
    → Each P missing → Each P rows → Each P (at_row id change missing rows)
each_at P id change missing [] f m e = m
each_at P id change missing (r ∷ rs) f m e = go (bytes_eq r.id id) (each_at P id change missing rs f m e.1)
  where
    go : (b : Bool) → Each P (at_row id change missing rs) → Each P (cond b (change r ++ rs) (r ∷ at_row id change missing rs))
    go true rest = each_append P (change r) rs (f r e.0) e.1
    go false rest = (e.0, rest)

passes_first : (a : Rule) (v : Text) (vs : List Text) → values_fault a (v ∷ vs) ≡ [] → value_passes a v ≡ true
passes_first a v vs e = go (value_passes a v) (none_of _ _ e).0
  where
    go : (b : Bool) → cond b [] (refused_kind (parser_of_value a.parser) ∷ []) ≡ [] → b ≡ true
    go true e = refl
    go false e = cc e

more_passes : (c : List Rule) (by : ValueSource) (added : List Text) (r : Row) → Passes c r → Each (Passes c) (more_values by added r)
more_passes c by added r has = (
  record {
    rule = has.rule;
    own = has.own;
    reading = has.reading;
    first = has.first;
    more = has.more ++ added;
    values = ap (λ (xs : List Text). xs ++ added) has.values;
    passes = has.passes;
  },
  tt,
)

new_passes : (c : List Rule) (by : ValueSource) (a : Rule) (v : Text) (vs : List Text) → IsOption c a → value_passes a v ≡ true
    → Passes c (record { id = a.id; values = v ∷ vs; count = None; source = Some by; reading = reading_by a })
new_passes c by a v vs is pass = record {
  rule = a;
  own = is.own;
  reading = refl;
  first = v;
  more = vs;
  values = refl;
  passes = pass;
}

append_passes : (c : List Rule) (a : Rule) (v : Text) (vs : List Text) (rows : List Row) → IsOption c a → values_fault a (v ∷ vs) ≡ []
    → Each (Passes c) rows
    → Each (Passes c) (with_values a.id (reading_by a) CommandLine (v ∷ vs) rows)
append_passes c a v vs rows is none e =
    each_at (Passes c) a.id (more_values CommandLine (v ∷ vs)) _ rows (more_passes c CommandLine (v ∷ vs))
    (new_passes c CommandLine a v vs is (passes_first a v vs none), tt) e

set_passes : (c : List Rule) (a : Rule) (v : Text) (vs : List Text) (rows : List Row) → IsOption c a → values_fault a (v ∷ vs) ≡ []
    → Each (Passes c) rows
    → Each (Passes c) (with_values a.id (reading_by a) CommandLine (v ∷ vs) (without a.id rows))
set_passes c a v vs rows is none e =
    append_passes c a v vs (without a.id rows) is none (each_at (Passes c) a.id (λ _. []) [] rows (λ r has. tt) tt e)

-- the default values of a rule pass
default_passes : (c : List Rule) (a : Rule) (values : List Text) (rows : List Row) → IsOption c a
    → Each (λ v. value_passes a v ≡ true) values → Each (Passes c) rows
    → Each (Passes c) (default_rows a.id (reading_by a) values rows)
default_passes c a [] rows is pass e = e
default_passes c a (v ∷ vs) rows is pass e =
    each_at (Passes c) a.id (more_values DefaultValue (v ∷ vs)) _ rows (more_passes c DefaultValue (v ∷ vs))
    (new_passes c DefaultValue a v vs is pass.0, tt) e

-- and so do the rows with all default values
pub defaults_pass : (c rules : List Rule) (rows : List Row) → Each (IsOption c) rules → Each (Passes c) rows
    → Each (Passes c) (fold with_default rows rules)
defaults_pass c [] rows all e = e
defaults_pass c (a ∷ rules) rows all e = defaults_pass c rules (with_default rows a) all.1 (go (has_row a.id rows))
  where
    go : (b : Bool) → Each (Passes c) (cond b rows (default_rows a.id (reading_by a) a.defaults rows))
    go true = e
    go false = default_passes c a a.defaults rows all.0 all.0.defaults e

too_few : (least most : ℕ) → 1 ≤ least → range_kinds least most 0 ≡ [] → ⊥
too_few least most some e =
    let lt : nat_lt 0 least ≡ true = search rules in
    never InvalidValue [] (rw lt at e)

-- a use that passes leaves rows that pass
pub use_passes : (c : List Rule) (again : Bool) (a : Rule) (values : List Text) (rows : List Row) → IsOption c a
    → use_fault again a values rows ≡ [] → Each (Passes c) rows → Each (Passes c) (used a values rows)
use_passes c again a values rows is none e =
    let parts = none_of _ _ none in
    go values is.kind parts.0 parts.1
  where
    -- a use of which the one first value is that of the next use
    set : (vs words : List Text) (word : Text) → (action_of a ≡ Set) ⊎ (action_of a ≡ SetTrue) → values_or_missing a vs ≡ word ∷ words
        → action_fault (action_of a) again a (values_or_missing a vs) rows ≡ [] → Each (Passes c) (used a vs rows)
    set vs words word (inl is_set) has fault =
        rw (is_set, has) (set_passes c a word words rows is (none_of _ _ (rw (is_set, has) at fault)).1 e)
    set vs words word (inr is_set) has fault =
        rw (is_set, has) (set_passes c a word words rows is (none_of _ _ (rw (is_set, has) at fault)).1 e)

    go : (vs : List Text) → IsKnownKind a
        → range_kinds (unwrap_or_range a.range).start_inclusive (most_values a) (length vs) ≡ []
        → action_fault (action_of a) again a (values_or_missing a vs) rows ≡ [] → Each (Passes c) (used a vs rows)
    go [] (inl takes) range fault = absurd (too_few _ _ takes.1 range)
    go (v ∷ vs) (inl (inl is_set, least)) range fault = set (v ∷ vs) vs v (inl is_set) refl fault
    go (v ∷ vs) (inl (inr append, least)) range fault = rw append (append_passes c a v vs rows is (rw append at fault) e)
    go [] (inr (inr flag)) range fault = set [] flag.2 flag.1 (inr flag.0) flag.3 fault
    go (v ∷ vs) (inr (inr flag)) range fault = set (v ∷ vs) vs v (inr flag.0) refl fault
    go vs (inr (inl help)) range fault = absurd (never DisplayHelp [] (rw help at fault))

-- ---- the walk over the words

module _ (c : List Rule) (again : Bool) (all : Each (IsOption c) c) where
  -- a rule that is found by some test is one of the rules
  found_option : (p : Rule → Bool) (found : Option Rule) → find p c ≡ found → IfSome found (IsOption c)
  found_option p found is = subst (λ o. IfSome o (IsOption c)) is (weaker (find p c) (found_in (IsOption c) p c all))
    where
      weaker : (o : Option Rule) → IfSome o (λ x. IsOption c x × (p x ≡ true)) → IfSome o (IsOption c)
      weaker None h = tt
      weaker (Some x) h = h.0

  settle_rows : (p : Option (Text × List Text)) (rows : List Row)
      → option_map_or (λ q. option_map_or (λ a. use_fault again a q.1 rows) (arg_by_id c q.0) []) p [] ≡ []
      → Each (Passes c) rows → Each (Passes c) (settled_rows c p rows)
  settle_rows None rows none e = e
  settle_rows (Some q) rows none e = go (arg_by_id c q.0) (found_option (λ a. bytes_eq a.id q.0) _ refl) none
    where
      go : (found : Option Rule) → IfSome found (IsOption c) → option_map_or (λ a. use_fault again a q.1 rows) found [] ≡ []
          → Each (Passes c) (used_by_id found q.1 rows)
      go None is fault = e
      go (Some a) is fault = use_passes c again a q.1 rows is fault e

  -- rows that pass still do once the option that waits for its value is settled
  pub settle_passes : (h : Held) → settle_fault c again h ≡ [] → Each (Passes c) h.rows → Each (Passes c) (settled c h).rows
  settle_passes h none e = settle_rows h.pending h.rows none e

  react_passes : (a : Rule) (values : List Text) (h : Held) → IsOption c a → react_fault c again a values h ≡ [] → Each (Passes c) h.rows
      → Each (Passes c) (reacted c a values h).rows
  react_passes a values h is none e =
      let parts = none_of _ _ none in
      use_passes c again a values (settled c h).rows is parts.1 (settle_passes h parts.0 e)

  option_passes : (a : Rule) (v : Option Text) (h : Held) → IsOption c a → option_fault c again a v h ≡ [] → Each (Passes c) h.rows
      → Each (Passes c) (option_met c a v h).0.rows
  option_passes a (Some v) h is none e = react_passes a (v ∷ []) h is none e
  option_passes a None h is none e = settle_passes h none e

  flag_passes : (a : Rule) (v : Option Text) (h : Held) → IsOption c a
      → cond (is_some v) (TooManyValues ∷ []) (react_fault c again a [] h) ≡ [] → Each (Passes c) h.rows
      → Each (Passes c) (flag_met c a v h).0.rows
  flag_passes a (Some v) h is none e = e
  flag_passes a None h is none e = react_passes a [] h is none e

  long_passes : (found : Option Rule) (v : Option Text) (h : Held) → IfSome found (IsOption c) → long_fault c again found v h ≡ []
      → Each (Passes c) h.rows → Each (Passes c) (long_met c found v h).0.rows
  long_passes None v h is none e = e
  long_passes (Some a) v h is none e = go (takes_values a) none
    where
      go : (b : Bool) → cond b (option_fault c again a v h) (cond (is_some v) (TooManyValues ∷ []) (react_fault c again a [] h)) ≡ []
          → Each (Passes c) (cond b (option_met c a v h) (flag_met c a v h)).0.rows
      go true fault = option_passes a v h is fault e
      go false fault = flag_passes a v h is fault e

  short_passes : (found : Option Rule) (rest : Text) (h : Held) (next_fault : Held → Kinds) (then : Held → Held × Outcome)
      → IfSome found (IsOption c)
      → ((k : Held) → next_fault k ≡ [] → Each (Passes c) k.rows → Each (Passes c) (then k).0.rows)
      → short_fault c again found rest h next_fault ≡ [] → Each (Passes c) h.rows
      → Each (Passes c) (short_met c found rest h then).0.rows
  short_passes None rest h next_fault then is later none e = e
  short_passes (Some a) rest h next_fault then is later none e = go (takes_values a) none
    where
      go : (b : Bool)
          → cond b (option_fault c again a (attached_value rest) h)
          (or_else (react_fault c again a [] h) (next_fault (reacted c a [] h))) ≡ []
          → Each (Passes c) (cond b (option_met c a (attached_value rest) h) (then (reacted c a [] h))).0.rows
      go true fault = option_passes a (attached_value rest) h is fault e
      go false fault =
          let parts = none_of _ _ fault in
          later (reacted c a [] h) parts.1 (react_passes a [] h is parts.0 e)

  bundle_passes : (k : ℕ) (flags : Text) (skip : ℕ) (so_far : Outcome) (h : Held) → flags_fault c again k flags skip h ≡ []
      → Each (Passes c) h.rows → Each (Passes c) (bundle_met c k flags skip so_far h).0.rows
  unfolding clap_on_literals
  bundle_passes zero flags skip so_far h none e = e
  bundle_passes (suc k) flags skip so_far h none e =
      go (slice_get (chars flags) 0) skip none (λ rest less out held fault rows. bundle_passes k rest less out held fault rows)
    where
      go : (first : Option ℕ) (skip : ℕ) → bundle_step_fault c again first flags skip h (flags_fault c again k) ≡ []
          → ((rest : Text) (less : ℕ) (out : Outcome) (held : Held) → flags_fault c again k rest less held ≡ []
          → Each (Passes c) held.rows → Each (Passes c) (bundle_met c k rest less out held).0.rows)
          → Each (Passes c) (bundle_step c first flags skip so_far h (bundle_met c k)).0.rows
      go None skip fault later = e
      go (Some x) zero fault later =
          short_passes (arg_by_short c x) (drop (length (encode_utf8 x)) flags) h
          (flags_fault c again k (drop (length (encode_utf8 x)) flags) 0) (bundle_met c k (drop (length (encode_utf8 x)) flags) 0 done)
          (found_option (λ a. not (is_some a.index) && has_short a x) _ refl)
          (λ held inner rows. later (drop (length (encode_utf8 x)) flags) 0 done held inner rows) fault e
      go (Some x) (suc less) fault later = later (drop (length (encode_utf8 x)) flags) less so_far h fault e

  plain_passes : (waiting : Waiting) (word : Text) (h : Held) → Each (Passes c) h.rows
      → Each (Passes c) (plain_word c waiting word h).0.rows
  plain_passes idle word h e = e
  plain_passes (option id) word h e = go (arg_by_id c id)
    where
      go : (found : Option Rule) → Each (Passes c) (option_word found id word h).0.rows
      go None = e
      go (Some a) = e
  plain_passes positional word h e = e

  after_passes : (waiting : Waiting) (word : Text) (h : Held) (out : Outcome) → Each (Passes c) h.rows
      → Each (Passes c) (after_flag c waiting word h out).0.rows
  after_passes waiting word h done e = e
  after_passes waiting word h (waits id) e = e
  after_passes waiting word h plain e = plain_passes waiting word h e
  after_passes waiting word h refused e = plain_passes waiting word h e

  short_word_passes : (waiting : Waiting) (word : Text) (short : Option Text) (h : Held)
      → option_map_or (λ flags. bundle_fault c again flags h) short [] ≡ [] → Each (Passes c) h.rows
      → Each (Passes c) (short_or_plain c waiting word short h).0.rows
  short_word_passes waiting word None h none e = plain_passes waiting word h e
  short_word_passes waiting word (Some flags) h none e =
      after_passes waiting word (bundle c flags h).0 (bundle c flags h).1
      (bundle_passes (length flags) flags h.skip plain (record h { skip = 0 }) none e)

  flag_word_passes : (waiting : Waiting) (word : Text) (long : Option (Text × Option Text)) (h : Held)
      → flag_word_fault c again long word h ≡ [] → Each (Passes c) h.rows
      → Each (Passes c) (long_or_other c waiting word long h).0.rows
  flag_word_passes waiting word (Some p) h none e =
      after_passes waiting word (long_met c (arg_by_long c p.0) p.1 h).0 (long_met c (arg_by_long c p.0) p.1 h).1
      (long_passes (arg_by_long c p.0) p.1 h (found_option (λ a. not (is_some a.index) && has_long a p.0) _ refl) none e)
  flag_word_passes waiting word None h none e = short_word_passes waiting word (short_of word) h none e

-- ---- the walk of a command

-- the rules of a command are options
abbrev pub HasOptions : Shape → Type 0
HasOptions s = Each (IsOption s.rules) s.rules

other_passes : (s : Shape) → HasOptions s → (name : Option Text) (waiting : Waiting) (position : ℕ) (word : Text) (h : Held)
    → other_fault s name word h ≡ [] → Each (Passes s.rules) h.rows
    → Each (Passes s.rules) (subcommand_or_other s.rules name waiting position word h).0.rows
other_passes s all (Some name) waiting position word h none e = e
other_passes s all None waiting position word h none e = go (bytes_eq word (45 ∷ 45 ∷ [])) none
  where
    go : (b : Bool) → cond b [] (flag_word_fault s.rules s.args_override_self (long_of word) word h) ≡ []
        → Each (Passes s.rules) (cond b (h, trailing position) (long_or_other s.rules waiting word (long_of word) h)).0.rows
    go true fault = e
    go false fault = flag_word_passes s.rules s.args_override_self all waiting word (long_of word) h fault e

word_passes : (s : Shape) (names : Names) → HasOptions s → (is_trailing : Bool) (waiting : Waiting) (position : ℕ) (word : Text) (h : Held)
    → word_fault s names is_trailing waiting word h ≡ [] → Each (Passes s.rules) h.rows
    → Each (Passes s.rules) (word_met s.rules names is_trailing waiting position word h).0.rows
word_passes s names all true waiting position word h none e = e
word_passes s names all false waiting position word h none e =
    other_passes s all (subcommand_met names waiting word) waiting position word h none e

held_passes : (s : Shape) → HasOptions s → (a : Rule) (word : Text) (h : Held)
    → positional_fault s.rules s.args_override_self a h ≡ [] → Each (Passes s.rules) h.rows
    → Each (Passes s.rules) (positional_held s.rules a word h).rows
held_passes s all a word h none e = go (is_pending a h.pending && takes_several a) none
  where
    go : (b : Bool) → cond b [] (settle_fault s.rules s.args_override_self h) ≡ []
        → Each (Passes s.rules) (pushed a.id word (cond b h (settled s.rules h))).rows
    go true fault = e
    go false fault = settle_passes s.rules s.args_override_self all h fault e

positional_passes : (s : Shape) → HasOptions s → (found : Option Rule) (word : Text) (w : Walk) (h : Held)
    → option_map_or (λ a. positional_fault s.rules s.args_override_self a h) found (stray_fault s) ≡ []
    → Each (Passes s.rules) h.rows → Each (Passes s.rules) (to_positional s.rules found word w h).held.rows
positional_passes s all None word w h none e = e
positional_passes s all (Some a) word w h none e = held_passes s all a word h none e

step_passes : (s : Shape) → HasOptions s → (word : Text) (w : Walk) (h : Held) (step : Step) → step_fault s w.position h step ≡ []
    → Each (Passes s.rules) h.rows → Each (Passes s.rules) (after_step s.rules word w h step).held.rows
step_passes s all word w h (next waiting) none e = e
step_passes s all word w h (trailing position) none e = e
step_passes s all word w h (subcommand name) none e = e
step_passes s all word w h value none e = positional_passes s all (arg_by_index s.rules w.position) word w h none e

turn_passes : (s : Shape) (names : Names) → HasOptions s → (w : Walk) (word : Text) (stop : Option (Text × List Text))
    → cond (is_some stop) []
    (or_else (word_fault s names w.is_trailing w.waiting word w.held)
    (step_fault s w.position (word_met s.rules names w.is_trailing w.waiting w.position word w.held).0
    (word_met s.rules names w.is_trailing w.waiting w.position word w.held).1)) ≡ []
    → Each (Passes s.rules) w.held.rows → Each (Passes s.rules) (walked_from s.rules names stop w word).held.rows
turn_passes s names all w word (Some p) none e = e
turn_passes s names all w word None none e =
    let parts = none_of _ _ none in
    step_passes s all word w _ _ parts.1 (word_passes s names all w.is_trailing w.waiting w.position word w.held parts.0 e)

-- a walk that fails nowhere leaves rows that pass
pub walk_passes : (s : Shape) (names : Names) → HasOptions s → (w : Walk) (words : List Text) → walk_fault s names w words ≡ []
    → Each (Passes s.rules) w.held.rows → Each (Passes s.rules) (fold (walked s.rules names) w words).held.rows
unfolding clap_on_literals
walk_passes s names all w [] none e = e
walk_passes s names all w (word ∷ words) none e =
    let parts = none_of _ _ none in
    walk_passes s names all (walked s.rules names w word) words parts.1 (turn_passes s names all w word w.stopped parts.0 e)
