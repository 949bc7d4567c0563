-- The answers to lines whose ids are known.
use Rattle.std.proofs.Common.{◌≡◌, ℕ, false, List, [], ◌∷◌, ◌++◌, Some, sym, ap, subst, ◌∙◌, append-nil, inl, inr}
use Rattle.std.specs.Prelude.{◌≢◌}
use Rattle.std.specs.List.{concat}
use Rattle.std.proofs.lemmas.List.{append_cancel_left}
use Rattle.rb_lines.specs.Lines.{is_long}
use Rattle.rb_journal.specs.Turns.{Turn}
use Rattle.rb_history.specs.Ids.{AskedEntry, AskedEvent}
use Rattle.rb_node.specs.Answers.{asked_event_on}
use Rattle.rb_node.specs.Asked.{AreIdsOnce, SeenAsked}
use Rattle.rb_node.specs.Laws.{AnswersAreTheSame, IdsStayOnce}
use Rattle.rb_run_site.specs.Asking.{IsSameAnswer, SameAnswer}
use Rattle.rb_run_site.specs.Journals.{AnswersEither, IsAnswer, journal_of}
use Rattle.rb_run_site.proofs.Restarts.{turn_once}

-- a turn that leaves the site as it was adds no lines
pub nothing_added : (old new : SeenAsked) (added : List (List ℕ)) → journal_of new ≡ journal_of old ++ added
    → new ≡ old → added ≡ []
nothing_added old new added grown same =
    append_cancel_left (journal_of old) added [] (sym grown ∙ ap journal_of same ∙ sym (append-nil (journal_of old)))

-- the answer to a line whose id an entry has
same_answer : AnswersAreTheSame → (old : SeenAsked) (t : Turn SeenAsked) → AreIdsOnce old.asked
    → AnswersEither old t.number t.line t.added t.text t.after → is_long t.line ≡ false
    → (asked : AskedEvent) → asked_event_on old.settings old.bank t.line ≡ Some asked → asked.id ≢ []
    → (before behind : List AskedEntry) (x : AskedEntry) → old.asked ≡ before ++ x ∷ behind → x.id ≡ asked.id
    → IsSameAnswer old before x asked t
same_answer law old t once (all, a) short asked on some before behind x at id =
    by (subst (λ b. IsAnswer all b old t.number t.line t.added t.text t.after) short a.answered)
  where
    by : IsAnswer all false old t.number t.line t.added t.text t.after → IsSameAnswer old before x asked t
    by (inl answer) =
        let (same, none, again, other) =
        law all old t.after t.line t.text (concat t.added) answer once asked on some before behind x at id in
        record { after = same; none = nothing_added old t.after t.added a.after same; again = again; other = other }
    by (inr bad) = absurd (cc (on, bad.0))

-- so it is among the turns of all runs
pub same_answers : IdsStayOnce → AnswersAreTheSame → SameAnswer
same_answers stay law start [] t later once are short asked on some before behind x at id =
    same_answer law start t once are.0 short asked on some before behind x at id
same_answers stay law start (u ∷ earlier) t later once are short asked on some before behind x at id =
    same_answers stay law u.after earlier t later (turn_once stay start u are.0 once) are.1 short asked on some before behind x at id
