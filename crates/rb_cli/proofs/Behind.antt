-- One value or more after a command's options, in words of their own: they are taken, and leave their row.
use Rattle.std.proofs.Common.{◌≡◌, ◌∙◌, ◌≤◌, ◌==◌, ◌&&◌, ◌++◌, ℕ, Bool, cond, true, false, refl, sym, ap, subst}
use Rattle.std.proofs.Common.{arith, rules, List, [], ◌∷◌, length, Option, Some, None}
use Rattle.std.specs.Prelude.{fold, nat_lt}
use Rattle.std.specs.Option.{option_map_or}
use Rattle.std.specs.Str.{bytes_eq}
use Rattle.std.proofs.lemmas.Bool.{ne_eqb}
use Rattle.std.proofs.lemmas.List.{append-nil, append_assoc}
use Rattle.std.proofs.lemmas.List.Sums.{fold-append}
use Rattle.std.proofs.lemmas.Slice.Eq.{bytes_eq-Decides}
use Rattle.clap.specs.Lexer.{usize_max}
use Rattle.clap.specs.Kinds.{range_kinds, values_kinds}
use Rattle.clap.specs.Faults.{positional_fault, settle_fault, step_fault, stray_fault, turn_fault, use_fault, walk_fault}
use Rattle.clap.specs.Simple.{Shape, filled, with_index}
use Rattle.clap.specs.Walk.{Rule, Row, Text, Walk, after_step, arg_by_id, arg_by_index, idle, is_pending, nothing_held, positional, pushed}
use Rattle.clap.specs.Walk.{settled, settled_rows, to_positional, used, used_by_id, walk_from, walked}
use Rattle.clap.specs.declared.builder.value_parser.ValueParser.TheVariants.{String}
use Rattle.clap.proofs.OnLiterals.{clap_on_literals}
use Rattle.rb_cli.specs.Words.{AreValues, values_rule}
use Rattle.rb_cli.proofs.GivenOptions.{AreGiven, Given, IsPlain, Leaves, at, both_none, no_flag, no_flag_fault}
use Rattle.rb_cli.proofs.GivenOptions.{pending_after, rows_with, spelled, walks_given}
use Rattle.rb_cli.proofs.Passing.{none_of}
use Rattle.rb_cli.proofs.Spelled.{is_plain}

-- the rule of such values, which may have to be given
abbrev pub behind : Text → Bool → Rule
behind name required = record (with_index 1 (filled (values_rule name))) { required = required }

-- any text can be one
all_pass : (values : List Text) → values_kinds false String values ≡ []
all_pass [] = refl
all_pass (v ∷ values) = all_pass values

in_range : (n : ℕ) → 1 ≤ n → n ≤ usize_max → range_kinds 1 usize_max n ≡ []
in_range n some few =
    let a : (n == 0) ≡ false = ne_eqb _ _ (λ e. omega (arith, e, some)) in
    let b : nat_lt n 1 ≡ false = search rules in
    let d : nat_lt usize_max n ≡ false = search rules in
    rw (a, b, d) refl

-- the command has this rule for the first value after its options
module _ (s : Shape) (name : Text) (required : Bool) (found : arg_by_index s.rules 1 ≡ Some (behind name required))
    (own : arg_by_id s.rules name ≡ Some (behind name required)) where
  -- the values that were read so far
  abbrev reading : List Row → List Text → Walk
  reading rows values = record (at rows (Some (name, values))) { waiting = positional }

  first_met : (rows : List Row) (pending : Option (Text × List Text)) (v : Text) → is_pending (behind name required) pending ≡ false
      → IsPlain v → walked s.rules [] (at rows pending) v ≡ reading (settled_rows s.rules pending rows) (v ∷ [])
  unfolding clap_on_literals
  first_met rows pending v none plain =
      let h = (at rows pending).held in
      ap (λ met. after_step s.rules v (at rows pending) met.0 met.1) (no_flag s.rules idle v h plain)
      ∙ ap (λ a. to_positional s.rules a v (at rows pending) h) found
      ∙ ap (λ b. record (at rows pending) { held = pushed name v (cond (b && true) h (settled s.rules h)); waiting = positional }) none

  first_fault : (rows : List Row) (pending : Option (Text × List Text)) (v : Text) → is_pending (behind name required) pending ≡ false
      → IsPlain v → settle_fault s.rules s.args_override_self (at rows pending).held ≡ [] → turn_fault s [] (at rows pending) v ≡ []
  unfolding clap_on_literals
  first_fault rows pending v none plain settled =
      let h = (at rows pending).held in
      both_none _ _ (no_flag_fault s v h plain) (ap (λ met. step_fault s 1 met.0 met.1) (no_flag s.rules idle v h plain)
      ∙ ap (λ a. option_map_or (λ a. positional_fault s.rules s.args_override_self a h) a (stray_fault s)) found
      ∙ ap (λ b. cond (b && true) [] (settle_fault s.rules s.args_override_self h)) none ∙ settled)

  is_own : bytes_eq name name ≡ true
  is_own = (bytes_eq-Decides name name).1 refl

  next_met : (rows : List Row) (values : List Text) (v : Text) → IsPlain v
      → walked s.rules [] (reading rows values) v ≡ reading rows (values ++ v ∷ [])
  unfolding clap_on_literals
  next_met rows values v plain =
      let h = (reading rows values).held in
      ap (λ met. after_step s.rules v (reading rows values) met.0 met.1) (no_flag s.rules positional v h plain)
      ∙ ap (λ a. to_positional s.rules a v (reading rows values) h) found
      ∙ ap (λ b. record (reading rows values) { held = pushed name v (cond (b && true) h (settled s.rules h)) }) is_own

  next_fault : (rows : List Row) (values : List Text) (v : Text) → IsPlain v → turn_fault s [] (reading rows values) v ≡ []
  unfolding clap_on_literals
  next_fault rows values v plain =
      let h = (reading rows values).held in
      both_none _ _ (no_flag_fault s v h plain) (ap (λ met. step_fault s 1 met.0 met.1) (no_flag s.rules positional v h plain)
      ∙ ap (λ a. option_map_or (λ a. positional_fault s.rules s.args_override_self a h) a (stray_fault s)) found
      ∙ ap (λ b. cond (b && true) [] (settle_fault s.rules s.args_override_self h)) is_own)

  -- a walk over words that fails nowhere, and ends there
  record Reads (start : Walk) (words : List Text) (end : Walk) : Type 0 where
    none : walk_fault s [] start words ≡ []
    ends : fold (walked s.rules []) start words ≡ end

  -- one word, and then the others
  then_reads : (start next : Walk) (word : Text) (words : List Text) (end : Walk) → turn_fault s [] start word ≡ []
      → walked s.rules [] start word ≡ next → Reads next words end → Reads start (word ∷ words) end
  unfolding clap_on_literals
  then_reads start next word words end none met rest = record {
    none = both_none _ _ none (subst (λ (w : Walk). walk_fault s [] w words ≡ []) (sym met) rest.none);
    ends = ap (λ (w : Walk). fold (walked s.rules []) w words) met ∙ rest.ends;
  }

  -- more values are read
  reads_more : (rows : List Row) (seen values : List Text) → AreValues values
      → Reads (reading rows seen) values (reading rows (seen ++ values))
  unfolding clap_on_literals
  reads_more rows seen [] are = record { none = refl; ends = ap (reading rows) (sym (append-nil seen)) }
  reads_more rows seen (v ∷ values) are =
      let plain = is_plain v are.0 in
      subst (λ (all : List Text). Reads (reading rows seen) (v ∷ values) (reading rows all)) (append_assoc seen (v ∷ []) values)
      (then_reads _ _ v values _ (next_fault rows seen v plain) (next_met rows seen v plain)
      (reads_more rows (seen ++ v ∷ []) values are.1))

  -- a walk over more words fails nowhere if neither of its parts does
  both_walks : (w : Walk) (xs ys : List Text) → walk_fault s [] w xs ≡ [] → walk_fault s [] (fold (walked s.rules []) w xs) ys ≡ []
      → walk_fault s [] w (xs ++ ys) ≡ []
  unfolding clap_on_literals
  both_walks w [] ys a b = b
  both_walks w (x ∷ xs) ys a b =
      let parts = none_of _ _ a in
      both_none _ _ parts.0 (both_walks (walked s.rules [] w x) xs ys parts.1 b)

  -- values after options that can be given leave their row after those of the options
  pub leaves_behind : (gs : List Given) (v : Text) (values : List Text) → AreGiven s [] gs
      → is_pending (behind name required) (pending_after None gs) ≡ false → AreValues (v ∷ values) → length (v ∷ values) ≤ usize_max
      → Leaves s (spelled gs ++ v ∷ values) (used (behind name required) (v ∷ values) (rows_with [] gs))
  leaves_behind gs v values given none are few =
      let pending = pending_after None gs in
      let walks = walks_given s gs [] None given refl in
      let rows = settled_rows s.rules pending walks.before in
      let plain = is_plain v are.0 in
      let all : Reads (at walks.before pending) (v ∷ values) (reading rows (v ∷ values)) =
      then_reads _ _ v values _ (first_fault walks.before pending v none plain walks.settled)
      (first_met walks.before pending v none plain) (reads_more rows (v ∷ []) values are.1) in
      record {
        none = both_walks (walk_from nothing_held) (spelled gs) (v ∷ values) walks.none
            (subst (λ (w : Walk). walk_fault s [] w (v ∷ values) ≡ []) (sym walks.ends) all.none);
        end = reading rows (v ∷ values);
        ends = fold-append (walked s.rules []) (walk_from nothing_held) (spelled gs) (v ∷ values)
            ∙ ap (λ (w : Walk). fold (walked s.rules []) w (v ∷ values)) walks.ends ∙ all.ends;
        settled = ap (λ a. option_map_or (λ a. use_fault s.args_override_self a (v ∷ values) rows) a []) own
            ∙ both_none _ _ (in_range (length (v ∷ values)) (omega arith) few) (all_pass (v ∷ values));
        rows_are = ap (λ a. used_by_id a (v ∷ values) rows) own ∙ ap (used (behind name required) (v ∷ values)) walks.rows_are;
      }
