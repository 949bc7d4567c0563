-- A site that is asked with ids serves as one without them.
use Rattle.std.proofs.Common.{◌≡◌, ℕ, Bool, true, false, cond, List, [], ◌∷◌, Some, None, refl, sym, ap, subst, ◌∙◌}
use Rattle.std.proofs.Common.{Option, append-nil, inl, inr}
use Rattle.std.specs.Prelude.{◌⊎◌, map}
use Rattle.std.specs.List.{concat}
use Rattle.std.proofs.lemmas.List.{append_cancel_left, map-append}
use Rattle.rb_lines.specs.Lines.{is_long}
use Rattle.rb_site.specs.declared.entry.Entry.{Entry}
use Rattle.rb_site.specs.declared.event.Event.{Event}
use Rattle.rb_site.specs.declared.event.Event.TheVariants.{Apply}
use Rattle.rb_site.specs.Events.{replies_to_events, sent_at}
use Rattle.rb_site.specs.Seen.{SeenSite, next_sites, state_of}
use Rattle.rb_journal.specs.Turns.{Answers, AreTurns, Turn, state_after}
use Rattle.rb_history.specs.Ids.{AskedEntry, AskedEvent, may_be_asked}
use Rattle.rb_node.specs.Answers.{IsOtherBankAnswer, IsSiteAnswer, asked_answer_json, asked_event_on, kept_events, line_of, reply_kept}
use Rattle.rb_node.specs.Asked.{SeenAsked, asked_state, entries_alone, without_ids, with_id, with_more}
use Rattle.rb_node.specs.LineAnswers.{IsQuestionAnswer, question_text}
use Rattle.rb_run_site.specs.Asking.{AskingIsServing, IsKnownLine, IsLineWithoutId, IsStruckLine}
use Rattle.rb_run_site.specs.Asking.{IsTurnOfKnown, IsTurnWithoutId, ServesWithoutIds, TurnsAreServed, strike, struck_id}
use Rattle.rb_run_site.specs.Journals.{AnswersEither, IsAnswer, IsBadAnswer, SiteAnswers, journal_of, lines_of_entries}
use Rattle.rb_run_site.proofs.EntryLines.{joined_lines}
use Rattle.rb_run_site.proofs.SameAnswers.{nothing_added}
use Rattle.rb_run_site.proofs.Stepped.{no_event, other_no_event}
use Rattle.rb_run_site.proofs.Turned.{journal_grows, recorded_with}

-- ---- a site without its ids

-- entries without their ids are the same entries
same_alone : (xs : List AskedEntry) → entries_alone (map struck_id xs) ≡ entries_alone xs
same_alone [] = refl
same_alone (x ∷ xs) = ap (λ ys. x.entry ∷ ys) (same_alone xs)

-- a site without its ids is the same site
same_struck : (x : SeenAsked) → without_ids (strike x) ≡ without_ids x
same_struck x = ap (λ ys. record { settings = x.settings; me = x.me; entries = ys }) (same_alone x.asked)

-- what is recorded for an event with an id is what is recorded without it, but for the id
struck_recorded : (id : List ℕ) (xs : List Entry) → map struck_id (recorded_with id xs) ≡ recorded_with [] xs
struck_recorded id [] = refl
struck_recorded id (x ∷ xs) =
    ap (λ i. record { id = i; entry = x } ∷ map struck_id (recorded_with id xs)) (by (may_be_asked x))
    ∙ ap (λ ys. with_id [] x ∷ ys) (struck_recorded id xs)
  where
    by : (b : Bool) → ◌≡◌ {A = List ℕ} [] (cond b [] [])
    by true = refl
    by false = refl

-- a site with more entries, without ids
struck_more : (x : SeenAsked) (more : List AskedEntry)
    → strike (with_more x more) ≡ with_more (strike x) (map struck_id more)
struck_more x more = ap (λ ys. record { settings = x.settings; me = x.me; bank = x.bank; asked = ys }) (map-append struck_id x.asked more)

-- ---- one turn

-- a turn without its id
record Struck (answers : Answers SeenAsked) (x : SeenAsked) (t : Turn SeenAsked) (struck : List ℕ) : Type 0 where
  added : List (List ℕ)
  text : List ℕ
  answered : answers (strike x) t.number struck added text (strike t.after)
  same : IsTurnWithoutId x t
      (record { number = t.number; line = struck; added = added; text = text; after = strike t.after })

module _ (all : Bool) (x : SeenAsked) (t : Turn SeenAsked)
    (a : SiteAnswers all x t.number t.line t.added t.text t.after) where
  -- the entries of an answer to an event are the turn's lines
  added_are : (id : List ℕ) (recorded : List Entry) → t.after ≡ with_more x (recorded_with id recorded)
      → t.added ≡ lines_of_entries x.settings x.me (recorded_with id recorded)
  added_are id recorded is = append_cancel_left (journal_of x) t.added (lines_of_entries x.settings x.me (recorded_with id recorded))
      (sym a.after ∙ ap journal_of is ∙ journal_grows x (recorded_with id recorded))

  module _ (struck : List ℕ) (is : IsStruckLine x t.line struck)
      (own : IsSiteAnswer all x t.after t.line t.text (concat t.added)) where
    abbrev id : List ℕ
    id = own.asked.id

    abbrev event : Event
    event = own.asked.event

    asked_same : own.asked ≡ is.asked
    asked_same = let e : Some own.asked ≡ Some is.asked = sym own.is_event ∙ is.is_event in cc e

    abbrev xs : List AskedEntry
    xs = recorded_with [] own.recorded

    abbrev added : List (List ℕ)
    added = lines_of_entries x.settings x.me xs

    abbrev text_by : SeenSite → List ℕ
    text_by y = line_of (asked_answer_json x.settings x.bank [] (reply_kept all y event) (sent_at x.settings (state_of y) event)
        (replies_to_events x.settings (state_of own.mid) (map Apply own.applied)))

    abbrev text : List ℕ
    text = text_by (without_ids x)

    recorded_is : strike t.after ≡ with_more (strike x) xs
    recorded_is = ap strike own.recorded_are ∙ struck_more x (recorded_with id own.recorded)
        ∙ ap (with_more (strike x)) (struck_recorded id own.recorded)

    -- the site without ids answers the line without an id
    answer : IsSiteAnswer all (strike x) (strike t.after) struck text (concat added)
    answer = record {
      asked = record { id = []; event = event };
      is_event = is.is_struck ∙ ap (λ (q : AskedEvent). Some (record { id = []; event = q.event })) (sym asked_same);
      unknown = refl;
      mid = own.mid;
      mid_is = own.mid_is ∙ ap (λ y. next_sites y (kept_events all y event)) (sym (same_struck x));
      applied = own.applied;
      in_turn = own.in_turn;
      all_applied = own.all_applied;
      after = same_struck t.after ∙ own.after;
      text_is = ap text_by (sym (same_struck x));
      recorded = own.recorded;
      recorded_are = recorded_is;
      entries_are = joined_lines x.settings x.me xs;
    }

    -- so the turn of a new request is one without its id
    new_struck : Struck (SiteAnswers all) x t struck
    new_struck = record {
      added = added;
      text = text;
      answered = record {
        configured = a.configured;
        answered = subst (λ b. IsAnswer all b (strike x) t.number struck added text (strike t.after)) (sym is.short_struck)
            (inl (inl answer));
        after = ap journal_of recorded_is ∙ journal_grows (strike x) xs;
      };
      same = record {
        number = refl;
        line = inl is;
        recorded = recorded_with id own.recorded;
        added = added_are id own.recorded own.recorded_are;
        added_struck = ap (lines_of_entries x.settings x.me) (sym (struck_recorded id own.recorded));
        text = inl (
          id,
          reply_kept all (without_ids x) event,
          sent_at x.settings (asked_state x) event,
          replies_to_events x.settings (state_of own.mid) (map Apply own.applied),
          own.text_is,
          refl,
        );
        after = refl;
      };
    }

  -- a turn that leaves the site as it was, by the same text to the same line
  same_line : (asked_event_on x.settings x.bank t.line ≡ None) ⊎ (is_long t.line ≡ true) → t.after ≡ x
      → IsAnswer all (is_long t.line) (strike x) t.number t.line [] t.text (strike t.after) → Struck (SiteAnswers all) x t t.line
  same_line why same answer = record {
    added = [];
    text = t.text;
    answered = record {
      configured = a.configured;
      answered = answer;
      after = ap (λ y. journal_of (strike y)) same ∙ sym (append-nil (journal_of (strike x)));
    };
    same = record {
      number = refl;
      line = inr (refl, why);
      recorded = [];
      added = nothing_added x t.after t.added a.after same;
      added_struck = refl;
      text = inr refl;
      after = refl;
    };
  }

  bad_struck : (word : List ℕ) (may_be : Option (List ℕ) → Type 0) → IsBadAnswer word may_be x t.after t.number t.added t.text
      → IsBadAnswer word may_be (strike x) (strike t.after) t.number [] t.text
  bad_struck word may_be bad =
      record { why = bad.why; reason = bad.reason; text_is = bad.text_is; same = ap strike bad.same; none = refl }

  question_struck : IsQuestionAnswer x t.after t.line t.text (concat t.added)
      → IsQuestionAnswer (strike x) (strike t.after) t.line t.text []
  question_struck q = record {
    question = q.question;
    is_question = q.is_question;
    text_is = q.text_is ∙ ap (λ y. question_text x.bank y q.question) (sym (same_struck x));
    after = ap strike q.after;
    entries_are = refl;
  }

  other_struck : IsOtherBankAnswer x t.after t.line t.text (concat t.added)
      → IsOtherBankAnswer (strike x) (strike t.after) t.line t.text []
  other_struck o = record {
    is_other = o.is_other;
    text_is = o.text_is;
    after = ap strike o.after;
    entries_are = refl;
  }

  -- a line without an event, or one that is too long
  no_request : (asked_event_on x.settings x.bank t.line ≡ None) ⊎ (is_long t.line ≡ true) → Struck (SiteAnswers all) x t t.line
  no_request why = by (is_long t.line) refl why a.answered
    where
      to : (b : Bool) → is_long t.line ≡ b → IsAnswer all b (strike x) t.number t.line [] t.text (strike t.after)
          → IsAnswer all (is_long t.line) (strike x) t.number t.line [] t.text (strike t.after)
      to b is answer = subst (λ c. IsAnswer all c (strike x) t.number t.line [] t.text (strike t.after)) (sym is) answer

      by : (b : Bool) → is_long t.line ≡ b → (asked_event_on x.settings x.bank t.line ≡ None) ⊎ (is_long t.line ≡ true)
          → IsAnswer all b x t.number t.line t.added t.text t.after → Struck (SiteAnswers all) x t t.line
      by true long none bad = same_line (inr long) bad.same (to true long (bad_struck _ _ bad))
      by false short (inr long) answer = absurd (cc (short, long))
      by false short (inl none) (inl (inl own)) = absurd (cc (none, own.is_event))
      by false short (inl none) (inl (inr (inl known))) = absurd (cc (none, known.is_event))
      by false short (inl none) (inl (inr (inr (inl q)))) =
          same_line (inl none) q.after (to false short (inl (inr (inr (inl (question_struck q))))))
      by false short (inl none) (inl (inr (inr (inr o)))) =
          same_line (inl none) o.after (to false short (inl (inr (inr (inr (other_struck o))))))
      by false short (inl none) (inr bad) =
          same_line (inl none) bad.3.same (to false short (inr (none, bad.1, bad.2, bad_struck _ _ bad.3)))

  -- a request whose id isn't known
  request : (struck : List ℕ) → IsStruckLine x t.line struck → Struck (SiteAnswers all) x t struck
  request struck is = by (subst (λ b. IsAnswer all b x t.number t.line t.added t.text t.after) is.short a.answered)
    where
      by : IsAnswer all false x t.number t.line t.added t.text t.after → Struck (SiteAnswers all) x t struck
      by (inl (inl own)) = new_struck struck is own
      by (inl (inr (inl known))) =
          let same : known.asked ≡ is.asked = (let e : Some known.asked ≡ Some is.asked = sym known.is_event ∙ is.is_event in cc e) in
          absurd (cc (same, known.is_known, is.unknown))
      by (inl (inr (inr (inl q)))) = absurd (cc (no_event x.settings x.bank t.line q.question q.is_question, is.is_event))
      by (inl (inr (inr (inr o)))) = absurd (cc (other_no_event x.settings x.bank t.line o.is_other, is.is_event))
      by (inr bad) = absurd (cc (bad.0, is.is_event))

  -- each turn but one of a known id is a turn without its id
  turn_struck : (struck : List ℕ) → IsLineWithoutId x t.line struck → Struck (SiteAnswers all) x t struck
  turn_struck struck (inl is) = request struck is
  turn_struck struck (inr (same, why)) = subst (Struck (SiteAnswers all) x t) (sym same) (no_request why)

  -- a turn of a known id changes nothing
  known_turn : IsKnownLine x t.line → IsTurnOfKnown x t
  known_turn (asked, known, short, on, is) = by (subst (λ b. IsAnswer all b x t.number t.line t.added t.text t.after) short a.answered)
    where
      by : IsAnswer all false x t.number t.line t.added t.text t.after → IsTurnOfKnown x t
      by (inl (inl own)) =
          let same : own.asked ≡ asked = (let e : Some own.asked ≡ Some asked = sym own.is_event ∙ on in cc e) in
          absurd (cc (same, own.unknown, is))
      by (inl (inr (inl again))) = record {
        line = (asked, known, short, on, is);
        after = again.after;
        none = nothing_added x t.after t.added a.after again.after;
      }
      by (inl (inr (inr (inl q)))) = absurd (cc (no_event x.settings x.bank t.line q.question q.is_question, on))
      by (inl (inr (inr (inr o)))) = absurd (cc (other_no_event x.settings x.bank t.line o.is_other, on))
      by (inr bad) = absurd (cc (bad.0, on))

-- ---- turns

-- what holds of each turn of a site: it is one without its id, or one of a known id
record TurnsStrike (answers : Answers SeenAsked) : Type 0 where
  new : (x : SeenAsked) (t : Turn SeenAsked) → answers x t.number t.line t.added t.text t.after
      → (struck : List ℕ) → IsLineWithoutId x t.line struck → Struck answers x t struck
  known : (x : SeenAsked) (t : Turn SeenAsked) → answers x t.number t.line t.added t.text t.after
      → IsKnownLine x t.line → IsTurnOfKnown x t

-- so it is with lists of turns
served : (answers : Answers SeenAsked) → TurnsStrike answers → TurnsAreServed answers
served answers each start [] lines are is = record { served = []; lines_are = is; are = tt; same = refl; after = refl }
served answers each start (t ∷ turns) lines are (inl (line, later)) =
    let turn : IsTurnOfKnown start t = each.known start t are.0 line in
    let rest : ServesWithoutIds answers t.after turns lines = served answers each t.after turns lines are.1 later in
    record {
      served = rest.served;
      lines_are = rest.lines_are;
      are = subst (λ y. AreTurns answers (strike y) rest.served) turn.after rest.are;
      same = inl (turn, rest.same);
      after = ap (λ y. state_after (strike y) rest.served) (sym turn.after) ∙ rest.after;
    }
served answers each start (t ∷ turns) lines are (inr (struck, later, is, line, behind)) =
    let one : Struck answers start t struck = each.new start t are.0 struck line in
    let rest : ServesWithoutIds answers t.after turns later = served answers each t.after turns later are.1 behind in
    let u : Turn SeenAsked =
    record { number = t.number; line = struck; added = one.added; text = one.text; after = strike t.after } in
    record {
      served = u ∷ rest.served;
      lines_are = is ∙ ap (λ ls. struck ∷ ls) rest.lines_are;
      are = (one.answered, rest.are);
      same = inr (u, rest.served, refl, one.same, rest.same);
      after = rest.after;
    }

-- a turn by one choice of what is recorded is one by either
either_struck : (x : SeenAsked) (t : Turn SeenAsked) → AnswersEither x t.number t.line t.added t.text t.after
    → (struck : List ℕ) → IsLineWithoutId x t.line struck → Struck AnswersEither x t struck
either_struck x t (all, a) struck is =
    let one = turn_struck all x t a struck is in
    record { added = one.added; text = one.text; answered = (all, one.answered); same = one.same }

pub asking_is_serving : AskingIsServing
asking_is_serving = (
  λ all. served (SiteAnswers all) (record { new = turn_struck all; known = known_turn all }),
  served AnswersEither (record { new = either_struck; known = λ x t a. known_turn a.0 x t a.1 }),
)
