-- A site has one answer to a line.
use Rattle.std.proofs.Common.{◌≡◌, ◌≢◌, ℕ, Bool, true, false, cond, List, [], ◌∷◌, inl, inr, refl, sym, ap, subst, ◌∙◌}
use Rattle.std.specs.Prelude.{bytes_eq, map, Some, None}
use Rattle.std.specs.Str.{is_utf8}
use Rattle.std.proofs.lemmas.Slice.Eq.{bytes_eq-Decides}
use Rattle.rb_money.specs.Settings.{Settings}
use Rattle.rb_shadow.specs.Operations.{clock_of}
use Rattle.rb_shadow.specs.declared.op_name.OpName.{OpName}
use Rattle.rb_inbox.proofs.Public.{first_is_one}
use Rattle.rb_site.specs.declared.event.Event.TheVariants.{Apply}
use Rattle.rb_site.specs.Events.{ModelSite, after_event, after_events, is_full}
use Rattle.rb_site.specs.Ready.{IsNextName}
use Rattle.rb_site.specs.Seen.{SeenSite, state_of}
use Rattle.rb_history.specs.declared.question.Question.{Question}
use Rattle.rb_history.specs.Banks.{is_of_other, question_to}
use Rattle.rb_history.proofs.Public.Banks.{question_none_to, nothing_asked}
use Rattle.rb_history.specs.Ids.{AskedEvent}
use Rattle.rb_node.specs.Answers.{AreReadyInTurn, IsAllApplied, IsKnownAnswer, IsOtherBankAnswer, IsSiteAnswer}
use Rattle.rb_node.specs.Answers.{asked_event_on, other_bank_on}
use Rattle.rb_node.specs.Asked.{Known, SeenAsked, known_of, without_ids}
use Rattle.rb_node.specs.Laws.{AnswersAreOne, OtherBanksAreRefused}
use Rattle.rb_node.specs.LineAnswers.{IsLineAnswer, IsQuestionAnswer, question_on}
use Rattle.rb_node.proofs.Recorded.{more-alone, which}
use Rattle.rb_node.proofs.Replayed.{event_is}
use Rattle.rb_node.proofs.Spelled.{some_is, where_kept}

-- if all is applied, nothing is next
no_more : (s : Settings) (t : ModelSite) (x : OpName) → is_full s t ≡ false → IsNextName t x → IsAllApplied s t → ⊥
no_more s t x free next (inl full) = absurd (cc)
no_more s t x free next (inr none) = none x next.0 next.1 next.2.ready

-- what is applied in turn, until nothing is ready, are the same names
same_names : (s : Settings) (t : ModelSite) (xs ys : List OpName) → AreReadyInTurn s t xs → AreReadyInTurn s t ys
    → IsAllApplied s (after_events s t (map Apply xs)) → IsAllApplied s (after_events s t (map Apply ys)) → xs ≡ ys
same_names s t [] [] a b c d = refl
same_names s t [] (y ∷ ys) a b c d = absurd (no_more s t y b.0 b.1 c)
same_names s t (x ∷ xs) [] a b c d = absurd (no_more s t x a.0 a.1 d)
same_names s t (x ∷ xs) (y ∷ ys) a b c d =
    let same : x ≡ y = first_is_one t.held (clock_of t.ops) x y a.1 b.1 in
    let P : OpName → Type 0 = λ n. AreReadyInTurn s (after_event s t (Apply n)) ys in
    let Q : OpName → Type 0 = λ n. IsAllApplied s (after_events s (after_event s t (Apply n)) (map Apply ys)) in
    let rest : xs ≡ ys = same_names s (after_event s t (Apply x)) xs ys a.2 (subst P (sym same) b.2) c (subst Q (sym same) d) in
    ap (λ n. n ∷ xs) same ∙ ap (λ ns. y ∷ ns) rest

-- two answers to an event of an id that isn't known are one
one_event : {all : Bool} {old new other : SeenAsked} {line text words entries rows : List ℕ}
    → IsSiteAnswer all old new line text entries → IsSiteAnswer all old other line words rows
    → (text ≡ words) × (entries ≡ rows) × (new ≡ other)
one_event {old = old} {new = new} {other = other} a b =
    let asked : a.asked ≡ b.asked = some_is a.asked b.asked (sym a.is_event ∙ b.is_event) in
    let mid : a.mid ≡ b.mid = a.mid_is ∙ rw asked (sym b.mid_is) in
    let names : a.applied ≡ b.applied =
    same_names old.settings (state_of a.mid) a.applied b.applied a.in_turn (rw mid b.in_turn) a.all_applied (rw mid b.all_applied) in
    let site : without_ids new ≡ without_ids other = a.after ∙ rw (mid, names) (sym b.after) in
    let recorded : a.recorded ≡ b.recorded = which old new a.asked.id a.recorded b.recorded a.recorded_are
    (ap (λ (y : SeenSite). y.entries) site ∙ ap (λ (y : SeenAsked). (without_ids y).entries) b.recorded_are
    ∙ more-alone old b.asked.id b.recorded) in (
      a.text_is ∙ rw (asked, mid, names) (sym b.text_is),
      a.entries_are ∙ rw (asked, recorded) (sym b.entries_are),
      a.recorded_are ∙ rw (asked, recorded) (sym b.recorded_are),
    )

-- texts that can't differ are equal
same_text : (xs ys : List ℕ) → ¬ (xs ≢ ys) → xs ≡ ys
same_text xs ys h = by (bytes_eq xs ys) refl
  where
    by : (t : Bool) → bytes_eq xs ys ≡ t → xs ≡ ys
    by true q = (bytes_eq-Decides xs ys).0 q
    by false q = absurd (h (λ e. let f : bytes_eq xs ys ≡ true = (bytes_eq-Decides xs ys).1 e in cc))

-- two answers to a request of a known id are one
one_known : {old new other : SeenAsked} {line text words entries rows : List ℕ}
    → IsKnownAnswer old new line text entries → IsKnownAnswer old other line words rows
    → (text ≡ words) × (entries ≡ rows) × (new ≡ other)
one_known {old = old} {text = text} {words = words} a b =
    let asked : a.asked ≡ b.asked = some_is a.asked b.asked (sym a.is_event ∙ b.is_event) in
    let known : a.known ≡ b.known = some_is a.known b.known (sym a.is_known ∙ rw asked b.is_known) in (
      same_text text words (λ differ. differ (a.other (λ e. differ (a.again e ∙ rw (asked, known)
          (sym (b.again (rw (← asked, ← known) e)))))
          ∙ rw asked (sym (b.other (λ f. differ (a.again (rw (asked, known) f) ∙ rw (asked, known) (sym (b.again f)))))))),
      a.entries_are ∙ sym b.entries_are,
      a.after ∙ sym b.after,
    )

-- an id isn't both known and not
pub known_or_new : (old : SeenAsked) (line : List ℕ) (x y : AskedEvent) (k : Known) → asked_event_on old.settings old.bank line ≡ Some x
    → asked_event_on old.settings old.bank line ≡ Some y → known_of old x.id ≡ None → known_of old y.id ≡ Some k → ⊥
known_or_new old line x y k is same none some =
    let e : known_of old x.id ≡ Some k =
    ap (λ (q : AskedEvent). known_of old q.id) (some_is x y (sym is ∙ same)) ∙ some in
    cc

-- ---- questions, and lines of other banks

-- what is on a line, the line is
question_is : (bank l : List ℕ) (q : Question) → question_on bank l ≡ Some q → question_to bank l ≡ Some q
unfolding question_on
question_is bank l q is = where_kept (is_utf8 l) (question_to bank l) q is

-- a line isn't both a question and an event
pub not_both : (s : Settings) (bank l : List ℕ) (x : AskedEvent) (q : Question)
    → asked_event_on s bank l ≡ Some x → question_on bank l ≡ Some q → ⊥
not_both s bank l x q event question =
    absurd (cc (question_none_to s bank l q (question_is bank l q question), event_is s bank l x event))

other_is : (s : Settings) (bank l : List ℕ) → other_bank_on s bank l ≡ true → is_of_other s bank l ≡ true
unfolding other_bank_on
other_is s bank l is = at (is_utf8 l) is
  where
    at : (b : Bool) → cond b (is_of_other s bank l) false ≡ true → is_of_other s bank l ≡ true
    at true h = h
    at false h = absurd (cc)

-- a line of another bank is no event
pub not_other : (s : Settings) (bank l : List ℕ) (x : AskedEvent) → asked_event_on s bank l ≡ Some x
    → other_bank_on s bank l ≡ true → ⊥
not_other s bank l x event other =
    absurd (cc ((nothing_asked s bank l (other_is s bank l other)).0, event_is s bank l x event))

-- and no question
pub asks_nothing : (s : Settings) (bank l : List ℕ) (q : Question) → question_on bank l ≡ Some q
    → other_bank_on s bank l ≡ true → ⊥
asks_nothing s bank l q question other =
    absurd (cc ((nothing_asked s bank l (other_is s bank l other)).1, question_is bank l q question))

-- two answers to a question are one
one_question : {old new other : SeenAsked} {line text words entries rows : List ℕ}
    → IsQuestionAnswer old new line text entries → IsQuestionAnswer old other line words rows
    → (text ≡ words) × (entries ≡ rows) × (new ≡ other)
one_question a b =
    let same : a.question ≡ b.question = some_is a.question b.question (sym a.is_question ∙ b.is_question) in
    (a.text_is ∙ rw same (sym b.text_is), a.entries_are ∙ sym b.entries_are, a.after ∙ sym b.after)

-- two answers to a line of another bank are one
one_other : {old new other : SeenAsked} {line text words entries rows : List ℕ}
    → IsOtherBankAnswer old new line text entries → IsOtherBankAnswer old other line words rows
    → (text ≡ words) × (entries ≡ rows) × (new ≡ other)
one_other a b = (a.text_is ∙ sym b.text_is, a.entries_are ∙ sym b.entries_are, a.after ∙ sym b.after)

-- a line that is answered as one of another bank has no other answer
pub of_other : (all : Bool) (old new : SeenAsked) (line text entries : List ℕ)
    → IsLineAnswer all old new line text entries → other_bank_on old.settings old.bank line ≡ true
    → IsOtherBankAnswer old new line text entries
of_other all old new line text entries (inl a) is = absurd (not_other old.settings old.bank line a.asked a.is_event is)
of_other all old new line text entries (inr (inl a)) is = absurd (not_other old.settings old.bank line a.asked a.is_event is)
of_other all old new line text entries (inr (inr (inl a))) is =
    absurd (asks_nothing old.settings old.bank line a.question a.is_question is)
of_other all old new line text entries (inr (inr (inr a))) is = a

-- two answers to a line are one
pub one_answer : AnswersAreOne
one_answer all old new other line text words entries rows (inl a) (inl b) = one_event a b
one_answer all old new other line text words entries rows (inl a) (inr (inl b)) =
    absurd (known_or_new old line a.asked b.asked b.known a.is_event b.is_event a.unknown b.is_known)
one_answer all old new other line text words entries rows (inl a) (inr (inr (inl b))) =
    absurd (not_both old.settings old.bank line a.asked b.question a.is_event b.is_question)
one_answer all old new other line text words entries rows (inr (inl a)) (inl b) =
    absurd (known_or_new old line b.asked a.asked a.known b.is_event a.is_event b.unknown a.is_known)
one_answer all old new other line text words entries rows (inr (inl a)) (inr (inl b)) = one_known a b
one_answer all old new other line text words entries rows (inr (inl a)) (inr (inr (inl b))) =
    absurd (not_both old.settings old.bank line a.asked b.question a.is_event b.is_question)
one_answer all old new other line text words entries rows (inr (inr (inl a))) (inl b) =
    absurd (not_both old.settings old.bank line b.asked a.question b.is_event a.is_question)
one_answer all old new other line text words entries rows (inr (inr (inl a))) (inr (inl b)) =
    absurd (not_both old.settings old.bank line b.asked a.question b.is_event a.is_question)
one_answer all old new other line text words entries rows (inr (inr (inl a))) (inr (inr (inl b))) = one_question a b
one_answer all old new other line text words entries rows (inr (inr (inr a))) b =
    one_other a (of_other all old other line words rows b a.is_other)
one_answer all old new other line text words entries rows a (inr (inr (inr b))) =
    one_other (of_other all old new line text entries a b.is_other) b

-- so it changes nothing
pub others_are_refused : OtherBanksAreRefused
others_are_refused all old new line text entries answer is =
    let a = of_other all old new line text entries answer is in
    (a.text_is, a.after, a.entries_are)
