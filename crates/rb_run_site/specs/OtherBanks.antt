-- Lines of other banks, in the turns of a site that ran and crashed any number of times.
use Rattle.std.specs.Prelude.{◌≡◌, true, false, List, [], ◌∷◌, ◌++◌}
use Rattle.rb_lines.specs.Lines.{is_long}
use Rattle.rb_journal.specs.Turns.{AreTurns, Turn, state_after}
use Rattle.rb_node.specs.Answers.{line_of, other_bank_json, other_bank_on}
use Rattle.rb_node.specs.Asked.{SeenAsked}
use Rattle.rb_run_site.specs.Journals.{AnswersEither}

-- a turn refuses its line by 26: the site stays as it was, and records nothing
pub record IsRefusedTurn (old : SeenAsked) (t : Turn SeenAsked) : Type 0 where
  pub text : t.text ≡ line_of other_bank_json
  pub after : t.after ≡ old
  pub none : t.added ≡ []

-- so is each turn of a line of another bank, unless the line is too long, among the turns of all runs
abbrev pub OtherBanksChangeNothing : Type 0
OtherBanksChangeNothing = (start : SeenAsked) (earlier : List (Turn SeenAsked)) (t : Turn SeenAsked) (later : List (Turn SeenAsked))
    → AreTurns AnswersEither start (earlier ++ t ∷ later) → is_long t.line ≡ false
    → other_bank_on (state_after start earlier).settings (state_after start earlier).bank t.line ≡ true
    → IsRefusedTurn (state_after start earlier) t
