-- A line is answered as an event, by what is known of its id, as a question, or as one of another bank.
use Rattle.std.proofs.Common.{◌≡◌, ◌≢◌, ℕ, Bool, true, List, [], ◌++◌, length, take, inl, inr, refl, sym, append-nil}
use Rattle.std.specs.Prelude.{Some, Result, Ok, Err, MatchResult, OnErr, OnOk}
use Rattle.rb_site.specs.declared.event.Event.{Event}
use Rattle.rb_history.specs.declared.question.Question.{Question}
use Rattle.rb_history.specs.Adds.{Adds}
use Rattle.rb_history.specs.Ids.{AskedEvent}
use Rattle.rb_node.specs.Answers.{again_json, asked_event_on, line_of, other_bank_json, other_bank_on, other_request_json}
use Rattle.rb_node.specs.Asked.{SeenAsked, asked_state, without_ids}
use Rattle.rb_node.specs.Kept.{IsKeptAs, known_again}
use Rattle.rb_node.specs.LineAnswers.{AddsAnswer, AddsEvent, question_on, question_text}
use Rattle.rb_node.specs.declared.known_request.KnownRequest.{KnownRequest}
use Rattle.rb_node.proofs.Failed.{stayed}

-- the answer to an event whose id is that of a request: if it is the same request its reply and its messages, else a refusal
pub known_added : {A E : Type 0} (r : Result A E) (x : SeenAsked) (id : List ℕ) (e : Event) (kept : KnownRequest) (a b text : List ℕ)
    → IsKeptAs x id kept → (kept.event ≡ e → text ≡ line_of (again_json x.settings x.bank id (known_again (asked_state x).ops kept)))
    → (kept.event ≢ e → text ≡ line_of (other_request_json id)) → Adds r a b text
    → MatchResult r (λ _. (all : Bool) (k : List ℕ) → AddsEvent all x x (record { id = id; event = e }) a b k k)
    (λ _. take (length a) b ≡ a)
known_added (Ok y) x id e kept a b text is again other added = λ all k line on. (
  text,
  [],
  inr (inl (record {
    asked = record { id = id; event = e };
    is_event = on;
    known = known_again (asked_state x).ops kept;
    is_known = is;
    again = again;
    other = other;
    after = refl;
    entries_are = refl;
  })),
  added,
  sym (append-nil k),
)
known_added (Err y) x id e kept a b text is again other added = added

-- it adds no entries
pub known_answered : {A E : Type 0} (r : Result A E) (all : Bool) (x : SeenAsked) (asked : AskedEvent) (a b k : List ℕ)
    → MatchResult r (λ _. (every : Bool) (l : List ℕ) → AddsEvent every x x asked a b l l) (λ _. take (length a) b ≡ a)
    → MatchResult r (λ _. AddsEvent all x x asked a b k k) (λ _. (take (length a) b ≡ a) × (take (length k) k ≡ k))
known_answered (Ok y) all x asked a b k h = h all k
known_answered (Err y) all x asked a b k h = (h, stayed k)

-- the answer to the line of an event
pub event_answered : {A E : Type 0} (r : Result A E) (all : Bool) (old new : SeenAsked) (line : List ℕ) (x : AskedEvent)
    (a b k l : List ℕ) → asked_event_on old.settings old.bank line ≡ Some x → OnOk r (AddsEvent all old new x a b k l)
    → OnOk r (AddsAnswer all old new line a b k l)
event_answered (Ok y) all old new line x a b k l is h = h line is
event_answered (Err y) all old new line x a b k l is h = tt

-- the answer to a question
pub question_answered : {A E : Type 0} (r : Result A E) (all : Bool) (old : SeenAsked) (line a b k : List ℕ)
    → OnOk r ((q : Question) × (question_on old.bank line ≡ Some q) × (b ≡ a ++ question_text old.bank (without_ids old) q))
    → OnOk r (AddsAnswer all old old line a b k k)
question_answered (Ok x) all old line a b k h = (
  question_text old.bank (without_ids old) h.0,
  [],
  inr (inr (inl (record { question = h.0; is_question = h.1; text_is = refl; after = refl; entries_are = refl }))),
  h.2,
  sym (append-nil k),
)
question_answered (Err x) all old line a b k h = tt

-- the answer to a line of another bank
pub other_answered : {A E : Type 0} (r : Result A E) (all : Bool) (old : SeenAsked) (line a b k : List ℕ)
    → other_bank_on old.settings old.bank line ≡ true → OnOk r (b ≡ a ++ line_of other_bank_json)
    → OnOk r (AddsAnswer all old old line a b k k)
other_answered (Ok x) all old line a b k is h = (
  line_of other_bank_json,
  [],
  inr (inr (inr (record { is_other = is; text_is = refl; after = refl; entries_are = refl }))),
  h,
  sym (append-nil k),
)
other_answered (Err x) all old line a b k is h = tt

-- a question adds no entries, nor does a line of another bank
pub entries_stay : {A E : Type 0} (P : Type 0) (r : Result A E) (k : List ℕ) → OnErr r P → OnErr r (P × (k ≡ k))
entries_stay P (Ok x) k h = tt
entries_stay P (Err x) k h = (h, refl)
