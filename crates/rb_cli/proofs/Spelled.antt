-- Words in their usual spelling: the digits of a number, and the name of an option.
use Rattle.std.proofs.Common.{◌≡◌, ◌∙◌, ◌<◌, ◌≤◌, ◌==◌, ◌^◌, ℕ, Bool, cond, decimal, true, false, refl, ap, arith}
use Rattle.std.proofs.Common.{List, [], ◌∷◌, Option, Some, None, pos}
use Rattle.std.specs.Prelude.{unwrap_or}
use Rattle.std.specs.Str.Parse.{IsNumeral, digits_value, starts_with_minus, without_leading_plus}
use Rattle.std.proofs.lemmas.Bool.{ne_eqb}
use Rattle.std.proofs.lemmas.Fmt.{decimal_is_IsNumeral}
use Rattle.std.proofs.lemmas.Int.{ints}
use Rattle.std.proofs.lemmas.Str.Parse.{digit_from_value}
use Rattle.clap.specs.Lexer.{without_minus}
use Rattle.clap.specs.Facts.{unwrap_or_range}
use Rattle.clap.specs.Kinds.{or_else}
use Rattle.clap.specs.Faults.{settle_fault, turn_fault}
use Rattle.clap.specs.Simple.{Shape}
use Rattle.clap.specs.Takes.{value_passes}
use Rattle.clap.specs.Values.{IsSignedIn}
use Rattle.clap.specs.Walk.{Row, Rule, Text, arg_by_id, most_values, settled_rows, walked}
use Rattle.clap.proofs.ValueTestLemmas.{Accepts-accepts}
use Rattle.clap.specs.declared.builder.value_parser.ValueParser.TheVariants.{Signed}
use Rattle.rb_cli.specs.Words.{IsValue, numeral_value}
use Rattle.rb_cli.proofs.GivenOptions.{IsNamed, IsPlain, at, waiting_at}
use Rattle.rb_cli.proofs.Options.{no_plus}
use Rattle.rb_cli.proofs.Passing.{TakesValues}
use Rattle.rb_cli.proofs.Reading.{numbers}

-- ---- values

-- the text is the digits of this number
pub record IsDigits (n : ℕ) (t : Text) : Type 0 where
  pub plain : IsPlain t
  pub signless : starts_with_minus t ≡ false
  pub plus : without_leading_plus t ≡ t
  pub numeral : IsNumeral 10 t
  pub value : digits_value 10 t ≡ n

digits : (n : ℕ) (t : Text) → IsNumeral 10 t → digits_value 10 t ≡ n → IsDigits n t
digits n [] numeral value = absurd (omega (arith, numeral.0))
digits n (d ∷ ds) numeral value =
    let no_minus : (d == 45) ≡ false = ne_eqb _ _ (λ e. omega (arith, digit_from_value d numeral.1.0)) in record {
      plain = ap (λ b. cond b (Some ds) None) no_minus;
      signless = no_minus;
      plus = no_plus (d ∷ ds) numeral;
      numeral = numeral;
      value = value;
    }

pub decimal_digits : (n : ℕ) → n < 2 ^ 63 → IsDigits n (decimal n)
decimal_digits n below =
    let is = decimal_is_IsNumeral n (omega (arith, below)) in
    digits n (decimal n) is.0 is.1

signed_in : (n least most : ℕ) (t : Text) → IsDigits n t → n < 2 ^ 63 → least ≤ n → n ≤ most → IsSignedIn (pos least) (pos most) t
signed_in n least most t is below low high =
    rw (is.signless, is.plus, is.value) (is.numeral, omega (arith, ints), omega (arith, ints), omega (arith, ints))

-- the digits read as the number
pub reads : (n : ℕ) (t : Text) → IsDigits n t → numeral_value (without_minus t) ≡ n
reads n t is =
    ap (λ o. numeral_value (unwrap_or o t)) is.plain ∙ ap (digits_value 10) is.plus ∙ is.value

-- a value in a word of its own is no flag
pub is_plain : (t : Text) → IsValue t → IsPlain t
is_plain [] is = refl
is_plain (x ∷ xs) is =
    let no_minus : (x == 45) ≡ false = ne_eqb _ _ (λ e. is (ap Some e)) in
    ap (λ b. cond b (Some xs) None) no_minus

-- a number within its limits passes
pub number_passes : (name : Text) (required : Bool) (n least most : ℕ) → n < 2 ^ 63 → least ≤ n → n ≤ most
    → value_passes (numbers name least most required) (decimal n) ≡ true
number_passes name required n least most below low high =
    Accepts-accepts false (Signed (pos least) (pos most)) (decimal n)
    (signed_in n least most (decimal n) (decimal_digits n below) below low high)

-- ---- names

pub named : (s : Shape) (word : Text) (a : Rule)
    → ((rows : List Row) (pending : Option (Text × List Text))
    → walked s.rules [] (at rows pending) word ≡ waiting_at a.id (settled_rows s.rules pending rows))
    → ((rows : List Row) (pending : Option (Text × List Text))
    → turn_fault s [] (at rows pending) word ≡ or_else (settle_fault s.rules s.args_override_self (at rows pending).held) [])
    → arg_by_id s.rules a.id ≡ Some a → most_values a ≡ 1 → (unwrap_or_range a.range).start_inclusive ≡ 1 → TakesValues a
    → IsNamed s word a
named s word a met fault own most least taking = record {
  met = met;
  fault = λ rows pending settled. fault rows pending ∙ ap (λ k. or_else k []) settled;
  own = own;
  most = most;
  least = least;
  taking = taking;
}
