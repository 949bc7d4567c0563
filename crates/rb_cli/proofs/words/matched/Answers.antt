-- The command line is one whose matches and errors are known.
use Rattle.std.proofs.Common.{◌≡◌, ◌∙◌, true, refl, ap, subst, []}
use Rattle.std.proofs.Common.{List, map, rules, ◌∷◌}
use Rattle.std.specs.Prelude.{IfOk, Result}
use Rattle.std.proofs.lemmas.Result.{IfOk-weaker}
use Rattle.clap.specs.Words.{App, FailsBy, HasMatchesOf, Text, fault_of, is_simple, is_simple_and_free}
use Rattle.clap.specs.Words.{subcommand_of}
use Rattle.clap.specs.declared.error.Error.{Error}
use Rattle.clap.specs.declared.parser.matches.ArgMatches.{ArgMatches}
use Rattle.clap.proofs.OnLiterals.{clap_on_literals}
use Rattle.rb_cli.specs.Words.{IsCommandLine, IsMatch, TextRefs, command_line, record_word}
use Rattle.rb_cli.specs.declared.recorded.Record.TheVariants.{Changes, All}
use Rattle.rb_cli.proofs.words.matched.Goals as goal

is_known : (names : TextRefs) → is_simple_and_free (command_line names) ≡ true
unfolding clap_on_literals
is_known names = refl

is_simple_line : (names : TextRefs) → is_simple (command_line names) ≡ true
unfolding clap_on_literals
is_simple_line names = refl

-- so they are those of the words
known : (line : App) (words : List Text) (result : Result ArgMatches Error) → IsCommandLine line
    → IfOk result (HasMatchesOf line words)
    → (is_simple_and_free line ≡ true → FailsBy (fault_of line words) result) → IsMatch words result
known line words result is has fails = (
  is.0,
  is.1,
  IfOk-weaker result _ _ (λ m met. (met (ap is_simple is.2 ∙ is_simple_line is.0)).1 ∙ ap (λ (a : App). subcommand_of a words) is.2) has,
  subst (λ (a : App). FailsBy (fault_of a words) result) is.2 (fails (ap is_simple_and_free is.2 ∙ is_known is.0)),
)

-- the two words for what is recorded, in some place
abbrev some_words : TextRefs
some_words = record {
  ref_ptr = (0, 0);
  now = record { ref_ptr = (0, 0); now = record_word Changes } ∷ record { ref_ptr = (0, 0); now = record_word All }
      ∷ [];
}

pub returns-in_err-command : goal.returns-in_err-command
returns-in_err-command c = (some_words, refl, search rules, search rules)

pub returns : goal.returns
returns c =
    known _ (map (λ word. word.now) c.args.words.now) c.try_get_matches_from.result c.in_ok-command.ensures
    c.try_get_matches_from.ensures.matches c.try_get_matches_from.ensures.kinds
