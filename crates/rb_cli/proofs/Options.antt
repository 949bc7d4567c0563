-- A command's options after a parse that fails nowhere.
use Rattle.std.proofs.Common.{◌≡◌, ◌∙◌, ◌&&◌, ◌⊎◌, ◌==◌, ℕ, Bool, cond, true, false, not, refl, sym, ap, subst, arith}
use Rattle.std.proofs.Common.{List, [], ◌∷◌, drop, Option, Some, None, inl, inr, pos}
use Rattle.std.specs.Prelude.{IfSome, find, option_and_then, option_map, slice_get, unwrap_or}
use Rattle.std.specs.List.{list_any}
use Rattle.std.specs.Option.{option_map_or}
use Rattle.std.specs.Str.{bytes_eq}
use Rattle.std.specs.Str.Parse.{IsNumeral, starts_with_minus, without_leading_plus}
use Rattle.std.proofs.lemmas.Bool.{ne_eqb}
use Rattle.std.proofs.lemmas.Int.{ints}
use Rattle.std.proofs.lemmas.Slice.Eq.{bytes_eq-Decides}
use Rattle.std.proofs.lemmas.Str.Parse.{digit_from_value}
use Rattle.clap.specs.Lexer.{without_minus}
use Rattle.clap.specs.Facts.{explicit_source, parser_of_value}
use Rattle.clap.specs.Kinds.{check_kinds}
use Rattle.clap.specs.Faults.{check_fault, level_fault}
use Rattle.clap.specs.Simple.{Shape}
use Rattle.clap.specs.Takes.{is_given, value_passes}
use Rattle.clap.specs.Values.{IsSignedIn, read_as}
use Rattle.clap.specs.Walk.{Row, Rule, Text, all_of, arg_by_id, first_of, nothing_held, one_of}
use Rattle.clap.specs.Walk.{reading_by, row_text, rows_after, walk, walk_from}
use Rattle.clap.specs.declared.builder.value_parser.ValueParser.TheVariants.{Signed}
use Rattle.clap.specs.declared.error.kind.ErrorKind.TheVariants.{DisplayHelpOnMissingArgumentOrSubcommand}
use Rattle.clap.specs.declared.error.kind.ErrorKind.TheVariants.{MissingRequiredArgument, MissingSubcommand}
use Rattle.clap.proofs.ValueTestLemmas.{accepts-Accepts}
use Rattle.rb_cli.specs.Words.{IsNumberWithin}
use Rattle.rb_cli.proofs.Passing.{Each, HasOptions, Passes, defaults_pass, found_in, never, none_of, settle_passes, walk_passes}

-- ---- at the end of a parse

-- the rows of a command that fails nowhere pass, and so do its last checks
pub leaf_passes : (s : Shape) → HasOptions s → (words : List Text) → level_fault s [] nothing_held words false [] ≡ []
    → Each (Passes s.rules) (rows_after s.rules [] words) × (check_fault s (rows_after s.rules [] words) false ≡ [])
leaf_passes s all words none =
    let one = none_of _ _ none in
    let two = none_of _ _ one.1 in
    let three = none_of _ _ two.1 in
    let walked = walk_passes s [] all (walk_from nothing_held) words one.0 tt in
    let rest = settle_passes s.rules s.args_override_self all (walk s.rules [] nothing_held words).held two.0 walked in (
      defaults_pass s.rules s.rules _ all rest,
      three.1,
    )

last_check : (help subcommand argument : Bool) → check_kinds help subcommand argument ≡ [] → argument ≡ false
last_check true subcommand argument e = absurd (never DisplayHelpOnMissingArgumentOrSubcommand [] e)
last_check false true argument e = absurd (never MissingSubcommand [] e)
last_check false false true e = absurd (never MissingRequiredArgument [] e)
last_check false false false e = refl

-- no option that is wanted is missing
pub none_missing : (s : Shape) (rows : List Row) → check_fault s rows false ≡ []
    → (not (s.subcommand_negates_reqs && false) && list_any (λ a. a.required && not (is_given a.id rows)) s.rules) ≡ false
none_missing s rows none =
    last_check (not false && (s.arg_required_else_help && not (list_any (λ r. explicit_source r.source) rows)))
    (not false && s.subcommand_required) _ none

-- ---- the text of an option

-- the option has a text that passes
pub record HasText (a : Rule) (id : Text) (rows : List Row) : Type 0 where
  pub text : Text
  pub more : List Text
  pub one : one_of id rows ≡ Some (read_as (reading_by a) text)
  pub first : first_of id rows ≡ Some text
  pub every : all_of id rows ≡ Some (text ∷ more)
  pub passes : value_passes a text ≡ true

-- an option has no text, or one that passes
pub at_option : (c : List Rule) (a : Rule) (id : Text) (rows : List Row) → Each (Passes c) rows → arg_by_id c id ≡ Some a
    → ((one_of id rows ≡ None) × (is_given id rows ≡ false)) ⊎ HasText a id rows
at_option c a id rows all own = go (find (λ r. bytes_eq r.id id) rows) refl (found_in (Passes c) (λ r. bytes_eq r.id id) rows all)
  where
    some_same : (x y : Rule) → Some x ≡ Some y → x ≡ y
    some_same x y e = cc e

    text_of : (r : Row) → find (λ r. bytes_eq r.id id) rows ≡ Some r → Passes c r → bytes_eq r.id id ≡ true → HasText a id rows
    text_of r found has same =
        let id_is : r.id ≡ id = (bytes_eq-Decides r.id id).0 same in
        let rule_is : has.rule ≡ a = some_same _ _ (sym has.own ∙ ap (arg_by_id c) id_is ∙ own) in record {
          text = has.first;
          more = has.more;
          one = ap (option_and_then row_text) found ∙ rw (has.reading, has.values, rule_is) refl;
          first = ap (option_and_then (λ (r : Row). slice_get r.values 0)) found ∙ rw has.values refl;
          every = ap (option_map (λ (r : Row). r.values)) found ∙ ap Some has.values;
          passes = subst (λ (x : Rule). value_passes x has.first ≡ true) rule_is has.passes;
        }

    go : (o : Option Row) → find (λ r. bytes_eq r.id id) rows ≡ o → IfSome o (λ r. Passes c r × (bytes_eq r.id id ≡ true))
        → ((one_of id rows ≡ None) × (is_given id rows ≡ false)) ⊎ HasText a id rows
    go None found h = inl (
      ap (option_and_then row_text) found,
      ap (λ (o : Option Row). option_map_or (λ r. explicit_source r.source) o false) found,
    )
    go (Some r) found h = inr (text_of r found h.0 h.1)

-- an option that is given has a text that passes
pub given_text : (c : List Rule) (a : Rule) (id : Text) (rows : List Row) → Each (Passes c) rows → arg_by_id c id ≡ Some a
    → is_given id rows ≡ true → HasText a id rows
given_text c a id rows all own given = elim (at_option c a id rows all own) [
  | inl none ↦ (let bad : true ≡ false = sym given ∙ none.1 in cc bad)
  | inr has ↦ has
]

-- ---- numbers

without_minus-cond : (t : Text) → without_minus t ≡ cond (starts_with_minus t) (drop 1 t) t
without_minus-cond [] = refl
without_minus-cond (x ∷ xs) = go (x == 45)
  where
    go : (b : Bool) → unwrap_or (cond b (Some xs) None) (x ∷ xs) ≡ cond b xs (x ∷ xs)
    go true = refl
    go false = refl

-- a numeral has no plus sign in front
pub no_plus : (ds : Text) → IsNumeral 10 ds → without_leading_plus ds ≡ ds
no_plus [] h = refl
no_plus (d ∷ ds) h =
    let plus : (d == 43) ≡ false = ne_eqb _ _ (λ e. omega (arith, digit_from_value d h.1.0)) in
    ap (λ (b : Bool). drop (cond b 1 0) (d ∷ ds)) plus

-- a text that passed a range is a number in it, once its minus sign is off
pub number_within : (least most : ℕ) (t : Text) → IsSignedIn (pos least) (pos most) t → IsNumberWithin least most (without_minus t)
number_within least most t passed =
    subst (IsNumberWithin least most) (sym (without_minus-cond t)) (go (starts_with_minus t) refl)
  where
    go : (b : Bool) → starts_with_minus t ≡ b → IsNumberWithin least most (cond (starts_with_minus t) (drop 1 t) t)
    go true minus =
        let low_ok = rw minus at passed.2 in
        let numeral : IsNumeral 10 (drop 1 t) = rw minus at passed.0 in
        rw (minus, no_plus (drop 1 t) numeral) (numeral, omega (arith, ints), omega (arith, ints))
    go false minus =
        let low_ok = rw minus at passed.2 in
        let high_ok = rw minus at passed.3 in
        let numeral : IsNumeral 10 (without_leading_plus t) = rw minus at passed.0 in
        rw minus (numeral, omega (arith, ints), omega (arith, ints))

-- an option of numbers has a number in its range
pub number_of_text : (a : Rule) (id : Text) (rows : List Row) (least most : ℕ) → (has : HasText a id rows)
    → a.parser ≡ Some (Signed (pos least) (pos most))
    → (one_of id rows ≡ Some (without_minus has.text)) × IsNumberWithin least most (without_minus has.text)
number_of_text a id rows least most has parser =
    let accepted = accepts-Accepts a.ignore_case (parser_of_value a.parser) has.text has.passes in (
      rw parser at has.one,
      number_within least most has.text (rw parser at accepted),
    )

-- and so it fits, given or not
pub fits : (a : Rule) (id : Text) (rows : List Row) (least most : ℕ)
    → ((one_of id rows ≡ None) × (is_given id rows ≡ false)) ⊎ HasText a id rows
    → a.parser ≡ Some (Signed (pos least) (pos most))
    → IfSome (one_of id rows) (IsNumberWithin least most)
fits a id rows least most (inl none) parser = subst (λ o. IfSome o (IsNumberWithin least most)) (sym none.0) tt
fits a id rows least most (inr has) parser =
    let is = number_of_text a id rows least most has parser in
    subst (λ o. IfSome o (IsNumberWithin least most)) (sym is.0) is.1
