-- A command whose options are given one after another, each name, and its value if it has one, in a word of its own.
use Rattle.std.proofs.Common.{◌≡◌, ◌∙◌, Bool, ◌⊎◌, cond, true, false, refl, sym, ap, subst}
use Rattle.std.proofs.Common.{List, [], ◌∷◌, ◌++◌, Option, Some, None, inl, inr}
use Rattle.std.specs.Prelude.{fold, option_and_then}
use Rattle.std.specs.Option.{option_map_or}
use Rattle.std.specs.Str.{bytes_eq}
use Rattle.std.proofs.lemmas.Slice.Eq.{bytes_eq-Decides}
use Rattle.clap.specs.Lexer.{long_of, long_of_rest, short_of, short_of_rest, strip_byte}
use Rattle.clap.specs.Facts.{unwrap_or_range}
use Rattle.clap.specs.Kinds.{Kinds, or_else}
use Rattle.clap.specs.Faults.{bundle_fault, check_fault, defaults_fault, flag_word_fault, level_fault, settle_fault}
use Rattle.clap.specs.Faults.{other_fault, step_fault, turn_fault, use_fault, walk_fault}
use Rattle.clap.specs.Simple.{Shape}
use Rattle.clap.specs.Takes.{value_passes}
use Rattle.clap.specs.Walk.{Held, Row, Rule, Text, Waiting, Walk, action_of, after_step, arg_by_id, finished, has_row, idle}
use Rattle.clap.specs.Walk.{long_or_other, most_values, nothing_held, option, option_word, plain_word}
use Rattle.clap.specs.Walk.{rows_after, settled, settled_rows, short_or_plain, subcommand_or_other, trailing, used, used_by_id, walk}
use Rattle.clap.specs.Walk.{walk_from, walked, with_default}
use Rattle.clap.specs.declared.builder.action.ArgAction.TheVariants.{Append, SetTrue}
use Rattle.clap.proofs.OnLiterals.{clap_on_literals}
use Rattle.rb_cli.proofs.Passing.{TakesValues}

-- of two checks that find no fault the first fault is none
pub both_none : (a b : Kinds) → a ≡ [] → b ≡ [] → or_else a b ≡ []
both_none a b e f = ap (λ k. or_else k b) e ∙ f

-- ---- where the walk is

-- nothing is waited for, and this was read last
abbrev pub at : List Row → Option (Text × List Text) → Walk
at rows pending = record {
  held = record { rows = rows; pending = pending; skip = 0 };
  waiting = idle;
  position = 1;
  is_trailing = false;
  stopped = None;
}

-- the value of an option is waited for
abbrev pub waiting_at : Text → List Row → Walk
waiting_at id rows = record (at rows (Some (id, []))) { waiting = option id }

-- the word is the name of an option with one value
pub record IsNamed (s : Shape) (word : Text) (a : Rule) : Type 0 where
  pub met : (rows : List Row) (pending : Option (Text × List Text))
      → walked s.rules [] (at rows pending) word ≡ waiting_at a.id (settled_rows s.rules pending rows)
  pub fault : (rows : List Row) (pending : Option (Text × List Text))
      → settle_fault s.rules s.args_override_self (at rows pending).held ≡ [] → turn_fault s [] (at rows pending) word ≡ []
  pub own : arg_by_id s.rules a.id ≡ Some a
  pub most : most_values a ≡ 1
  pub least : (unwrap_or_range a.range).start_inclusive ≡ 1
  pub taking : TakesValues a

-- the word is a switch, which has no value
pub record IsSwitch (s : Shape) (word : Text) (a : Rule) : Type 0 where
  pub sets : action_of a ≡ SetTrue
  pub met : (rows : List Row) (pending : Option (Text × List Text))
      → walked s.rules [] (at rows pending) word ≡ at (used a [] (settled_rows s.rules pending rows)) None
  pub fault : (rows : List Row) (pending : Option (Text × List Text))
      → settle_fault s.rules s.args_override_self (at rows pending).held ≡ []
      → has_row a.id (settled_rows s.rules pending rows) ≡ false → turn_fault s [] (at rows pending) word ≡ []

-- the text doesn't begin with a hyphen
abbrev pub IsPlain : Text → Type 0
IsPlain v = strip_byte 45 v ≡ None

no_dashes : (v : Text) → IsPlain v → bytes_eq v (45 ∷ 45 ∷ []) ≡ false
no_dashes v plain = go (bytes_eq v (45 ∷ 45 ∷ [])) refl
  where
    go : (b : Bool) → bytes_eq v (45 ∷ 45 ∷ []) ≡ b → b ≡ false
    go false is = refl
    go true is =
        let stripped : Some (45 ∷ []) ≡ None = sym (ap (strip_byte 45) ((bytes_eq-Decides v (45 ∷ 45 ∷ [])).0 is)) ∙ plain in
        cc stripped

no_long : (v : Text) → IsPlain v → long_of v ≡ None
no_long v plain = ap (λ o. option_and_then long_of_rest (option_and_then (strip_byte 45) o)) plain

no_short : (v : Text) → IsPlain v → short_of v ≡ None
no_short v plain = ap (option_and_then short_of_rest) plain

-- such a word is no flag
pub no_flag : (c : List Rule) (waiting : Waiting) (v : Text) (h : Held) → IsPlain v
    → subcommand_or_other c None waiting 1 v h ≡ plain_word c waiting v h
no_flag c waiting v h plain =
    ap (λ b. cond b (h, trailing 1) (long_or_other c waiting v (long_of v) h)) (no_dashes v plain)
    ∙ ap (λ o. long_or_other c waiting v o h) (no_long v plain) ∙ ap (λ o. short_or_plain c waiting v o h) (no_short v plain)

pub no_flag_fault : (s : Shape) (v : Text) (h : Held) → IsPlain v → other_fault s None v h ≡ []
no_flag_fault s v h plain =
    let again = s.args_override_self in
    ap (λ b. cond b [] (flag_word_fault s.rules again (long_of v) v h)) (no_dashes v plain)
    ∙ ap (λ o. flag_word_fault s.rules again o v h) (no_long v plain)
    ∙ ap (λ o. option_map_or (λ flags. bundle_fault s.rules again flags h) o []) (no_short v plain)

-- ---- a value after its option

value_read : (a : Rule) (rows : List Row) (v : Text) → most_values a ≡ 1
    → record (waiting_at a.id rows) {
      held = (option_word (Some a) a.id v (waiting_at a.id rows).held).0;
      waiting = (option_word (Some a) a.id v (waiting_at a.id rows).held).1;
    } ≡ at rows (Some (a.id, v ∷ []))
value_read a rows v most =
    let same : bytes_eq a.id a.id ≡ true = (bytes_eq-Decides a.id a.id).1 refl in
    rw (same, most) refl

value_met : (s : Shape) (word : Text) (a : Rule) (rows : List Row) (v : Text) → IsNamed s word a → IsPlain v
    → walked s.rules [] (waiting_at a.id rows) v ≡ at rows (Some (a.id, v ∷ []))
unfolding clap_on_literals
value_met s word a rows v named plain =
    ap (λ met. after_step s.rules v (waiting_at a.id rows) met.0 met.1) (no_flag s.rules (option a.id) v (waiting_at a.id rows).held plain)
    ∙ ap (λ found. record (waiting_at a.id rows) {
      held = (option_word found a.id v (waiting_at a.id rows).held).0;
      waiting = (option_word found a.id v (waiting_at a.id rows).held).1;
    }) named.own
    ∙ value_read a rows v named.most

value_fault : (s : Shape) (id : Text) (rows : List Row) (v : Text) → IsPlain v → turn_fault s [] (waiting_at id rows) v ≡ []
value_fault s id rows v plain =
    let h = (waiting_at id rows).held in
    both_none _ _ (no_flag_fault s v h plain) (ap (λ met. step_fault s 1 met.0 met.1) (no_flag s.rules (option id) v h plain))

-- ---- options in turn

-- an option as it is given: the word of its name, its rule, and its values, each in a word after it
pub record Given : Type 0 where
  pub word : Text
  pub rule : Rule
  pub values : List Text

-- one with one value
abbrev pub valued : Text → Rule → Text → Given
valued word rule value = record { word = word; rule = rule; values = value ∷ [] }

-- the words of options in turn
abbrev pub spelled : List Given → List Text
spelled [] = []
spelled (g ∷ gs) = g.word ∷ (g.values ++ spelled gs)

-- the rows after them
abbrev pub rows_with : List Row → List Given → List Row
rows_with rows [] = rows
rows_with rows (g ∷ gs) = rows_with (used g.rule g.values rows) gs

-- what is pending after one of them, and after all
abbrev pending_by : Rule → List Text → Option (Text × List Text)
pending_by rule [] = None
pending_by rule (v ∷ vs) = Some (rule.id, v ∷ vs)

abbrev pub pending_after : Option (Text × List Text) → List Given → Option (Text × List Text)
pending_after pending [] = pending
pending_after pending (g ∷ gs) = pending_after (pending_by g.rule g.values) gs

-- an option with a value that passes, or a switch
pub data Fits (s : Shape) : Given → Type 0 where
  FitsValued : {word : Text} {rule : Rule} {value : Text} → IsNamed s word rule → IsPlain value → value_passes rule value ≡ true
      → Fits s (valued word rule value)
  FitsSwitch : {word : Text} {rule : Rule} → IsSwitch s word rule → Fits s (record { word = word; rule = rule; values = [] })

-- the option can be given: it may be given again, or is not given before
abbrev pub CanBeGiven : Rule → List Row → Type 0
CanBeGiven a rows = (action_of a ≡ Append) ⊎ (has_row a.id rows ≡ false)

-- each is an option that fits and can be given
abbrev pub AreGiven : Shape → List Row → List Given → Type 0
AreGiven s rows [] = Unit {0}
AreGiven s rows (g ∷ gs) = Fits s g × CanBeGiven g.rule rows × AreGiven s (used g.rule g.values rows) gs

-- a switch may not be given again
only_once : (s : Shape) (word : Text) (a : Rule) (rows : List Row) → IsSwitch s word a → CanBeGiven a rows → has_row a.id rows ≡ false
only_once s word a rows is (inr new) = new
only_once s word a rows is (inl again) = let never = sym is.sets ∙ again in cc never

used_once : (again : Bool) (a : Rule) (v : Text) (rows : List Row) → most_values a ≡ 1 → (unwrap_or_range a.range).start_inclusive ≡ 1
    → TakesValues a → CanBeGiven a rows → value_passes a v ≡ true → use_fault again a (v ∷ []) rows ≡ []
used_once again a v rows most least taking (inl append) passes = rw (least, most, append, passes) refl
used_once again a v rows most least (inl set) (inr new) passes = rw (least, most, set, new, passes) refl
used_once again a v rows most least (inr append) (inr new) passes = rw (least, most, append, passes) refl

settled_is : (s : Shape) (word : Text) (a : Rule) (v : Text) (rows : List Row) → IsNamed s word a
    → settled_rows s.rules (Some (a.id, v ∷ [])) rows ≡ used a (v ∷ []) rows
settled_is s word a v rows named = ap (λ found. used_by_id found (v ∷ []) rows) named.own

settles : (s : Shape) (word : Text) (a : Rule) (v : Text) (rows : List Row) → IsNamed s word a → CanBeGiven a rows
    → value_passes a v ≡ true → settle_fault s.rules s.args_override_self (at rows (Some (a.id, v ∷ []))).held ≡ []
settles s word a v rows named new passes =
    ap (λ found. option_map_or (λ r. use_fault s.args_override_self r (v ∷ []) rows) found []) named.own
    ∙ used_once s.args_override_self a v rows named.most named.least named.taking new passes

-- a walk over options in turn fails nowhere, ends where this is pending, and leaves their rows
pub record WalksGiven (s : Shape) (start : Walk) (gs : List Given) (pending : Option (Text × List Text)) (rows : List Row) : Type 0
  where
    pub none : walk_fault s [] start (spelled gs) ≡ []
    pub before : List Row
    pub ends : fold (walked s.rules []) start (spelled gs) ≡ at before pending
    pub settled : settle_fault s.rules s.args_override_self (at before pending).held ≡ []
    pub rows_are : settled_rows s.rules pending before ≡ rows

pub walks_given : (s : Shape) (gs : List Given) (rows : List Row) (pending : Option (Text × List Text))
    → AreGiven s (settled_rows s.rules pending rows) gs → settle_fault s.rules s.args_override_self (at rows pending).held ≡ []
    → WalksGiven s (at rows pending) gs (pending_after pending gs) (rows_with (settled_rows s.rules pending rows) gs)
unfolding clap_on_literals
walks_given s [] rows pending given settled =
    record { none = refl; before = rows; ends = refl; settled = settled; rows_are = refl }
walks_given s (g ∷ gs) rows pending (FitsValued {word = word} {rule = a} {value = v} named plain passes, new, more) settled =
    let now = settled_rows s.rules pending rows in
    let value = Some (a.id, v ∷ []) in
    let met = ap (λ w. walked s.rules [] w v) (named.met rows pending) ∙ value_met s word a now v named plain in
    let rest = walks_given s gs now value
    (subst (λ r. AreGiven s r gs) (sym (settled_is s word a v now named)) more) (settles s word a v now named new passes) in
    let as_met = subst (λ w. WalksGiven s w gs (pending_after value gs) (rows_with (settled_rows s.rules value now) gs)) (sym met) rest in
    record {
      none = both_none _ _ (named.fault rows pending settled)
          (both_none _ _
          (subst (λ w. turn_fault s [] w v ≡ []) (sym (named.met rows pending)) (value_fault s a.id now v plain))
          as_met.none);
      before = as_met.before;
      ends = as_met.ends;
      settled = as_met.settled;
      rows_are = as_met.rows_are ∙ ap (λ r. rows_with r gs) (settled_is s word a v now named);
    }
walks_given s (g ∷ gs) rows pending (FitsSwitch {word = word} {rule = a} is, new, more) settled =
    let now = used a [] (settled_rows s.rules pending rows) in
    let as_met = subst (λ w. WalksGiven s w gs (pending_after None gs) (rows_with now gs)) (sym (is.met rows pending))
    (walks_given s gs now None more refl) in
    record {
      none = both_none _ _ (is.fault rows pending settled (only_once s word a (settled_rows s.rules pending rows) is new)) as_met.none;
      before = as_met.before;
      ends = as_met.ends;
      settled = as_met.settled;
      rows_are = as_met.rows_are;
    }

-- what a walk that fails nowhere leaves, by where it ends
pub record Leaves (s : Shape) (words : List Text) (rows : List Row) : Type 0 where
  pub none : walk_fault s [] (walk_from nothing_held) words ≡ []
  pub end : Walk
  pub ends : walk s.rules [] nothing_held words ≡ end
  pub settled : settle_fault s.rules s.args_override_self end.held ≡ []
  pub rows_are : settled_rows s.rules end.held.pending end.held.rows ≡ rows

-- a command takes the words of such a walk, if its defaults and the last checks pass
pub takes_walked : (s : Shape) (words : List Text) (rows : List Row) → Leaves s words rows → defaults_fault rows s.rules ≡ []
    → (check_fault s (fold with_default rows s.rules) false ≡ [] → level_fault s [] nothing_held words false [] ≡ [])
    × (rows_after s.rules [] words ≡ fold with_default rows s.rules)
takes_walked s words rows walks defaults =
    let again = s.args_override_self in
    let after = ap (λ (r : List Row). fold with_default r s.rules) walks.rows_are in (
      λ checks. both_none _ _ walks.none
          (subst (λ (w : Walk). or_else (settle_fault s.rules again w.held) (or_else (defaults_fault (settled s.rules w.held).rows s.rules)
          (check_fault s (finished s.rules w.held) false)) ≡ []) (sym walks.ends) (both_none _ _ walks.settled
          (both_none _ _ (ap (λ (r : List Row). defaults_fault r s.rules) walks.rows_are ∙ defaults)
          (ap (λ r. check_fault s r false) after ∙ checks)))),
      ap (λ (w : Walk). finished s.rules w.held) walks.ends ∙ after,
    )

-- options in turn are such a walk
pub given_leaves : (s : Shape) (gs : List Given) → AreGiven s [] gs → Leaves s (spelled gs) (rows_with [] gs)
given_leaves s gs given =
    let walks = walks_given s gs [] None given refl in
    record {
      none = walks.none;
      end = at walks.before (pending_after None gs);
      ends = walks.ends;
      settled = walks.settled;
      rows_are = walks.rows_are;
    }
