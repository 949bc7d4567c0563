-- The number is the one that the text of the option is.
use Rattle.std.proofs.Common.{◌≡◌, ℕ, Option, Some, None, Result, Ok, Err, IfSome, option_map, refl, ap, ◌∙◌, arith}
use Rattle.std.specs.Str.Parse.{ParsesUnsigned, ExplainsUnsignedError, HasUnsignedDigitsIfOk}
use Rattle.clap.specs.Matches.{ReadsOne}
use Rattle.clap.specs.Words.{Text, found_of, one_of, rows_of}
use Rattle.clap.proofs.WalkLemmas.{one_text-rows}
use Rattle.rb_cli.specs.Words.{IsNumberWithin, numeral_value}
use Rattle.rb_cli.proofs.words.number.Goals as goal

read : (E : Type 0) (G : Text → Result ℕ E → Type 0) (o : Option Text) (r : Option ℕ)
    → ((u : Text) (x : Result ℕ E) → G u x → ParsesUnsigned 32 10 u x) → (o ≡ None → r ≡ None)
    → ((t : Text) → o ≡ Some t → ReadsOne G t r) → IfSome o (IsNumberWithin 0 4294967295)
    → r ≡ option_map numeral_value o
read E G None r only none value fits = none refl
read E G (Some t) (Some v) only none value fits = ap Some (only t (Ok v) (value t refl)).1
read E G (Some t) None only none value fits =
    let failed = value t refl in
    absurd (only t (Err failed.0) failed.1 (fits.0, omega (arith, fits.2)))

pub returns : goal.returns
returns c =
    let same = one_text-rows (found_of c.args.given.now) c.args.name.now in
    read _ (λ t x. ParsesUnsigned 32 10 t x × ExplainsUnsignedError 10 t x × HasUnsignedDigitsIfOk t x)
    (one_of c.args.name.now (rows_of (found_of c.args.given.now))) c.get_one.result (λ u x gives. gives.0)
    (λ none. c.get_one.ensures.none (same ∙ none)) (λ t some. c.get_one.ensures.value t (same ∙ some)) c.requires
