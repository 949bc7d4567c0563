-- The answers to lines of other banks.
use Rattle.std.proofs.Common.{◌≡◌, true, false, [], ◌∷◌, subst, inl, inr}
use Rattle.std.specs.List.{concat}
use Rattle.rb_lines.specs.Lines.{is_long}
use Rattle.rb_journal.specs.Turns.{Turn}
use Rattle.rb_node.specs.Answers.{other_bank_on}
use Rattle.rb_node.specs.Asked.{SeenAsked}
use Rattle.rb_node.specs.Laws.{OtherBanksAreRefused}
use Rattle.rb_run_site.specs.Journals.{AnswersEither, IsAnswer}
use Rattle.rb_run_site.specs.OtherBanks.{IsRefusedTurn, OtherBanksChangeNothing}
use Rattle.rb_run_site.proofs.SameAnswers.{nothing_added}

-- the answer to a line of another bank
refused : OtherBanksAreRefused → (old : SeenAsked) (t : Turn SeenAsked)
    → AnswersEither old t.number t.line t.added t.text t.after → is_long t.line ≡ false
    → other_bank_on old.settings old.bank t.line ≡ true → IsRefusedTurn old t
refused law old t (all, a) short other =
    by (subst (λ b. IsAnswer all b old t.number t.line t.added t.text t.after) short a.answered)
  where
    by : IsAnswer all false old t.number t.line t.added t.text t.after → IsRefusedTurn old t
    by (inl answer) =
        let (text, same, none) = law all old t.after t.line t.text (concat t.added) answer other in
        record { text = text; after = same; none = nothing_added old t.after t.added a.after same }
    by (inr bad) = absurd (cc (other, bad.1))

-- so it is among the turns of all runs
pub all_refused : OtherBanksAreRefused → OtherBanksChangeNothing
all_refused law start [] t later are short other = refused law start t are.0 short other
all_refused law start (u ∷ earlier) t later are short other = all_refused law u.after earlier t later are.1 short other
