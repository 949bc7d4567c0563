-- The words as the command line reads them, and why it refuses them.
use Rattle.std.proofs.Common.{◌≡◌, ◌∙◌, ◌≤◌, arith, length, refl, ap, sym, subst, List, [], Option, Some, map, inl, inr}
use Rattle.std.proofs.Common.{Ok, Err}
use Rattle.std.specs.Prelude.{IfErr, IfSome, Result}
use Rattle.std.proofs.lemmas.List.{length-map}
use Rattle.std.proofs.lemmas.Result.{IfOk-weaker}
use Rattle.clap.specs.Lexer.{usize_max}
use Rattle.clap.specs.Words.{FailsBy, HasKind, Row, Text, fault_of, kind_of, subcommand_of}
use Rattle.clap.proofs.FaultLemmas.{failed_up, first_fails}
use Rattle.clap.specs.declared.error.Error.{Error}
use Rattle.clap.specs.Kinds.{or_else}
use Rattle.clap.specs.declared.error.kind.ErrorKind.TheVariants.{OutOfMemory}
use Rattle.rb_cli.specs.Words.{AreFit, AreRecordWords, Ask, IsInRange, TextRefs, command_line}
use Rattle.rb_cli.specs.Words.{conflict_of, kinds_of, words_of_matches}
use Rattle.rb_cli.specs.declared.words.Words.{Words}
use Rattle.rb_cli.proofs.Reading.{taken_asks}
use Rattle.rb_cli.proofs.UsualWords.{usual_words}
use Rattle.rb_cli.proofs.words.read_words.Goals as goal

some_same : {X : Type 0} (a b : X) → Some a ≡ Some b → a ≡ b
some_same a b e = cc e

-- with words that the command line takes, only that may be wrong by which their command is refused
by_command : {T : Type 0} (words : List Text) (names : TextRefs) (met : Option (Text × List Row)) (result : Result T Error)
    → fault_of (command_line names) words ≡ [] → met ≡ subcommand_of (command_line names) words
    → FailsBy (conflict_of met) result → FailsBy (kinds_of (command_line names) words) result
by_command words names met result none is fails =
    subst (λ kinds. FailsBy kinds result)
    (ap conflict_of is ∙ sym (ap (λ k. or_else k (conflict_of (subcommand_of (command_line names) words))) none)) fails

-- words that ask for something are refused for want of memory alone
by_memory : {T : Type 0} (words : List Text) (names : TextRefs) (result : Result T Error) → length words ≤ usize_max
    → AreRecordWords names → FailsBy (kinds_of (command_line names) words) result
    → IfErr result (λ e. (asked : Words) → Ask words asked → kind_of e ≡ OutOfMemory)
by_memory words names (Ok t) few are fails = tt
by_memory words names (Err e) few are fails = λ asked ask.
    elim (subst (λ kinds. HasKind kinds e) (usual_words names are words asked few ask).0 fails) [
      | inl memory ↦ memory
      | inr never ↦ absurd never
    ]

-- no command was met
early : (c : goal.After-from_residual)
    → FailsBy (kinds_of (command_line c.in_err-matches.ensures.0) (map (λ word. word.now) c.args.words.now)) c.from_residual.result
early c =
    failed_up c.from_residual.result c.in_err-matches.field-0.0 _ _ c.from_residual.ensures.1
    (first_fails _ _ _ c.in_err-matches.ensures.3)

pub returns-in_err-matches-clause-kinds : goal.returns-in_err-matches-clause-kinds
returns-in_err-matches-clause-kinds c =
    let met = c.in_err-matches.ensures in (command_line met.0, (met.0, met.1, refl), early c)

pub returns-in_err-matches-clause-err : goal.returns-in_err-matches-clause-err
returns-in_err-matches-clause-err c =
    let few : length (map (λ word. word.now) c.args.words.now) ≤ usize_max
    = omega (arith, length-map c.args.words.now (λ word. word.now), c.well_formed) in
    by_memory _ c.in_err-matches.ensures.0 c.from_residual.result few c.in_err-matches.ensures.1 (early c)

pub asked_by-requires-clause-asks : goal.asked_by-requires-clause-asks
asked_by-requires-clause-asks c =
    let words = map (λ word. word.now) c.args.words.now in
    let met = c.in_ok-matches.ensures in
    rw (ap words_of_matches met.2 ∙ (taken_asks met.0 words met.3).is) refl

pub asked_by-requires-clause-fit : goal.asked_by-requires-clause-fit
asked_by-requires-clause-fit c =
    let words = map (λ word. word.now) c.args.words.now in
    let met = c.in_ok-matches.ensures in
    subst (λ (o : Option (Text × List Row)). IfSome o (λ m. AreFit m.0 m.1)) (sym met.2) (taken_asks met.0 words met.3).fit

pub returns-clause-ok : goal.returns-clause-ok
returns-clause-ok c =
    let met = c.in_ok-matches.ensures in
    IfOk-weaker c.asked_by.result _ _ (λ asked is. (
      command_line met.0,
      (met.0, met.1, refl),
      sym (is ∙ ap words_of_matches met.2),
    )) c.asked_by.ensures.ok

pub returns-clause-ranges : goal.returns-clause-ranges
returns-clause-ranges c =
    let met = c.in_ok-matches.ensures in
    let its = taken_asks met.0 (map (λ word. word.now) c.args.words.now) met.3 in
    IfOk-weaker c.asked_by.result _ _ (λ asked is.
    subst IsInRange (sym (some_same _ _ (is ∙ ap words_of_matches met.2 ∙ its.is))) its.in_range) c.asked_by.ensures.ok

pub returns-clause-kinds : goal.returns-clause-kinds
returns-clause-kinds c =
    let words = map (λ word. word.now) c.args.words.now in
    let met = c.in_ok-matches.ensures in (
      command_line met.0,
      (met.0, met.1, refl),
      by_command words met.0 _ c.asked_by.result met.3 met.2 c.asked_by.ensures.kinds,
    )

pub returns-clause-usual : goal.returns-clause-usual
returns-clause-usual c =
    let words = map (λ word. word.now) c.args.words.now in
    let met = c.in_ok-matches.ensures in
    let few : length words ≤ usize_max = omega (arith, length-map c.args.words.now (λ word. word.now), c.well_formed.1.0) in
    IfOk-weaker c.asked_by.result _ _ (λ asked is usual ask.
    some_same _ _ (is ∙ ap words_of_matches met.2 ∙ (usual_words met.0 met.1 words usual few ask).1)) c.asked_by.ensures.ok

pub returns-clause-err : goal.returns-clause-err
returns-clause-err c =
    let words = map (λ word. word.now) c.args.words.now in
    let met = c.in_ok-matches.ensures in
    let few : length words ≤ usize_max = omega (arith, length-map c.args.words.now (λ word. word.now), c.well_formed.1.0) in
    by_memory words met.0 c.asked_by.result few met.1
    (by_command words met.0 _ c.asked_by.result met.3 met.2 c.asked_by.ensures.kinds)
