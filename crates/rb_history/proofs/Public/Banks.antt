-- No line is both a question and an event to a bank, and one of another bank is none of them.
use Rattle.rb_history.proofs.Words.{OtherBanksAskNothing, QuestionsAreNoEvents, event_beside, event_named, has_bank, has_other_bank}
use Rattle.rb_history.proofs.Words.{is_other_named, is_other_text, is_receipt, is_this_text, question_beside, question_named, question_or}
use Rattle.rb_history.proofs.Words.{asked_event_at, asked_event_of_line, AskedEvent, question_asked, question_of, question_of_line}
use Rattle.rb_history.proofs.Words.{event_at, one_json, size_of, Question, Settings, Data, member, no_members, object, members_len, as_str}
use Rattle.rb_history.proofs.Words.{get, read, Bool, Equal, List, None, Option, Ordering, Some, [], ap, arith, bytes_eq, codes, false, inl}
use Rattle.rb_history.proofs.Words.{inr, is_eq, nat_cmp, not, refl, subst, suc, sym, true, ℕ, ◌==◌, ◌∙◌, ◌∷◌, ◌≡◌, eqb-true, not-true}
use Rattle.rb_history.proofs.Words.{is_eq-slice_cmp, bytes_eq-Decides, slice_cmp, match_ordering, if◌then◌else◌, option_and_then}
use Rattle.rb_history.proofs.Words.{option_map, unwrap_or, ◌⊎◌}
use Rattle.rb_history.proofs.FitsLaws.{tested}
use Rattle.rb_history.proofs.Banked.{beside_alone}

equal : (o : Ordering) (value v : Data) → match_ordering o None (Some value) None ≡ Some v → is_eq o ≡ true
equal Equal value v e = refl
equal _ value v e = absurd (cc)

-- the key that is found in an object of one member is the member's
key_is : (k key : List ℕ) (value v : Data) → get k (one_json key value) ≡ Some v → k ≡ key
key_is k key value v e = (bytes_eq-Decides k key).0 (sym (is_eq-slice_cmp k key) ∙ equal (slice_cmp nat_cmp k key) value v e)

-- an object of one member that asks is no event
by_key : (s : Settings) (key : List ℕ) (value : Data) (about resend : Option Data) (q : Question)
    → get (codes "about") (one_json key value) ≡ about → get (codes "resend") (one_json key value) ≡ resend
    → question_asked about resend ≡ Some q → event_at s (one_json key value) ≡ None
by_key s key value (Some v) resend q e f asked =
    subst (λ k. event_at s (one_json k value) ≡ None) (key_is (codes "about") key value v e) refl
by_key s key value None (Some n) q e f asked =
    subst (λ k. event_at s (one_json k value) ≡ None) (key_is (codes "resend") key value n f) refl
by_key s key value None None q e f asked = absurd (cc)

-- a question has one member, so it is no event with an id either
no_event : (s : Settings) (d : Data) (q : Question) → question_of d ≡ Some q → asked_event_at s d ≡ None
no_event s (object (member key value no_members)) q e =
    let d = one_json key value in
    ap (option_map (λ made. record { id = []; event = made }))
    (by_key s key value (get (codes "about") d) (get (codes "resend") d) q refl refl e)
no_event s (object (member key value (member other more ms))) q e =
    let d = object (member key value (member other more ms)) in
    let asked = question_asked (get (codes "about") d) (get (codes "resend") d) in
    let one : suc (suc (members_len ms)) ≡ 1 = eqb-true (size_of d) 1 (tested (size_of d == 1) asked q e) in
    absurd (omega arith)
no_event s _ q e = absurd (cc)

-- a line that is a question by itself is no event by itself
question_no_event : (s : Settings) (line : List ℕ) (q : Question) → question_of_line line ≡ Some q
    → asked_event_of_line s line ≡ None
question_no_event s line q e = (elim (read line) as (λ o. option_and_then question_of o ≡ Some q
    → option_and_then (asked_event_at s) o ≡ None) [ None ↦ λ f. refl | Some d ↦ λ f. no_event s d q f ]) e

-- ---- what is found in an object

-- the value that satisfies a test is there
there : {A : Type 0} (f : A → Bool) (o : Option A) → unwrap_or (option_map f o) false ≡ true
    → (x : A) × (o ≡ Some x)
there f None h = absurd (cc)
there f (Some x) h = (x, refl)

-- what is there, if a test holds
chosen : {A : Type 0} (b : Bool) (o : Option A) (x : A) → (if b then o else None) ≡ Some x → o ≡ Some x
chosen true o x e = e
chosen false o x e = absurd (cc)

-- nothing, whatever a test says
none_if : {A : Type 0} (b : Bool) (o : Option A) → o ≡ None → (if b then o else None) ≡ None
none_if true o e = e
none_if false o e = refl

here_or_later : (o : Ordering) (later : Option Data) (value v : Data) → match_ordering o later (Some value) later ≡ Some v
    → (is_eq o ≡ true) ⊎ (later ≡ Some v)
here_or_later Equal later value v e = inl refl
here_or_later _ later value v e = inr e

-- the key that is found in an object of two members is one of theirs
one_of : (k key other : List ℕ) (value more v : Data)
    → get k (object (member key value (member other more no_members))) ≡ Some v → (k ≡ key) ⊎ (k ≡ other)
one_of k key other value more v e =
    elim (here_or_later (slice_cmp nat_cmp k key) (get k (one_json other more)) value v e) [
      | inl same ↦ inl ((bytes_eq-Decides k key).0 (sym (is_eq-slice_cmp k key) ∙ same))
      | inr later ↦ inr (key_is k other more v later)
    ]

-- an object that asks has one of the two keys
asks : (about resend : Option Data) (q : Question) → question_asked about resend ≡ Some q
    → ((v : Data) × (about ≡ Some v)) ⊎ ((v : Data) × (resend ≡ Some v))
asks (Some v) resend q e = inl (v, refl)
asks None (Some v) q e = inr (v, refl)
asks None None q e = absurd (cc)

-- ---- a question is no event

-- an object that is no event, by itself or beside a name
abbrev IsNone : Settings → Data → Type 0
IsNone s d = (asked_event_at s d ≡ None) × (event_beside s d ≡ None)

-- two members of these keys, in any order
both_keys : (s : Settings) (key other k l : List ℕ) (value more : Data)
    → ((u v : Data) → IsNone s (object (member k u (member l v no_members))))
    → ((u v : Data) → IsNone s (object (member l u (member k v no_members))))
    → (k ≡ l → ⊥) → (k ≡ key) ⊎ (k ≡ other) → (l ≡ key) ⊎ (l ≡ other)
    → IsNone s (object (member key value (member other more no_members)))
both_keys s key other k l value more first last differ (inl a) (inl b) = absurd (differ (a ∙ sym b))
both_keys s key other k l value more first last differ (inl a) (inr b) =
    subst (λ x. IsNone s (object (member x value (member other more no_members)))) a
    (subst (λ y. IsNone s (object (member k value (member y more no_members)))) b (first value more))
both_keys s key other k l value more first last differ (inr a) (inl b) =
    subst (λ x. IsNone s (object (member x value (member other more no_members)))) b
    (subst (λ y. IsNone s (object (member l value (member y more no_members)))) a (last value more))
both_keys s key other k l value more first last differ (inr a) (inr b) = absurd (differ (a ∙ sym b))

-- a name's member and a question's
beside_two : (s : Settings) (key other : List ℕ) (value more named : Data)
    → get (codes "bank") (object (member key value (member other more no_members))) ≡ Some named
    → ((v : Data) × (get (codes "about") (object (member key value (member other more no_members))) ≡ Some v))
    ⊎ ((v : Data) × (get (codes "resend") (object (member key value (member other more no_members))) ≡ Some v))
    → IsNone s (object (member key value (member other more no_members)))
beside_two s key other value more named found (inl (v, e)) =
    both_keys s key other (codes "bank") (codes "about") value more (λ u w. (refl, refl)) (λ u w. (refl, refl))
    (λ same. cc) (one_of (codes "bank") key other value more named found)
    (one_of (codes "about") key other value more v e)
beside_two s key other value more named found (inr (v, e)) =
    both_keys s key other (codes "bank") (codes "resend") value more (λ u w. (refl, refl)) (λ u w. (refl, refl))
    (λ same. cc) (one_of (codes "bank") key other value more named found)
    (one_of (codes "resend") key other value more v e)

-- a question beside a name is no event
beside_none : (s : Settings) (d named : Data) (q : Question) → get (codes "bank") d ≡ Some named
    → question_beside d ≡ Some q → IsNone s d
beside_none s (object (member key value (member other more no_members))) named q found e =
    let d = object (member key value (member other more no_members)) in
    beside_two s key other value more named found (asks (get (codes "about") d) (get (codes "resend") d) q e)
beside_none s (object (member key value (member other more (member k v ms)))) named q found e =
    let d = object (member key value (member other more (member k v ms))) in
    let asked = question_asked (get (codes "about") d) (get (codes "resend") d) in
    let two : suc (suc (suc (members_len ms))) ≡ 2 = eqb-true (size_of d) 2 (tested (size_of d == 2) asked q e) in
    absurd (omega arith)
beside_none s _ named q found e = absurd (cc)

-- a question by itself has one member
one_member : (d : Data) (q : Question) → question_of d ≡ Some q → size_of d ≡ 1
one_member d q e = eqb-true (size_of d) 1
    (tested (size_of d == 1) (question_asked (get (codes "about") d) (get (codes "resend") d)) q e)

-- a question to a bank of a name is no event
named_none : (s : Settings) (bank : List ℕ) (d : Data) (q : Question) → question_named bank d ≡ Some q → IsNone s d
named_none s bank d q e = by (question_of d) refl e
  where
    by : (o : Option Question) → question_of d ≡ o → question_or o (if has_bank bank d then question_beside d else None) ≡ Some q
        → IsNone s d
    by (Some p) is f = (no_event s d p is, rw (one_member d p is) refl)
    by None is f =
        let found = there (is_this_text bank) (get (codes "bank") d) (tested (has_bank bank d) (question_beside d) q f) in
        beside_none s d found.0 q found.1 (chosen (has_bank bank d) (question_beside d) q f)

-- a question to a bank is no event to it
pub question_none_to : QuestionsAreNoEvents
question_none_to s [] line q e = question_no_event s line q e
question_none_to s (b ∷ bs) line q e = by (read line) e
  where
    by : (o : Option Data) → option_and_then (question_named (b ∷ bs)) o ≡ Some q
        → option_and_then (event_named s (b ∷ bs)) o ≡ None
    by None f = absurd (cc)
    by (Some d) f =
        let none = named_none s (b ∷ bs) d q f in
        beside_alone s (b ∷ bs) d none.0 ∙ none_if (has_bank (b ∷ bs) d) (event_beside s d) none.1

-- ---- another bank's line is nothing

-- an object with another bank's name doesn't have this one
not_this : (bank : List ℕ) (o : Option Data) → unwrap_or (option_map (is_other_text bank) o) false ≡ true
    → unwrap_or (option_map (is_this_text bank) o) false ≡ false
not_this bank None h = absurd (cc)
not_this bank (Some d) h = (elim (as_str d) as (λ o. unwrap_or (option_map (λ u. not (bytes_eq bank u)) o) false ≡ true
    → unwrap_or (option_map (bytes_eq bank) o) false ≡ false) [ None ↦ λ e. absurd (cc) | Some t ↦ λ e. not-true (bytes_eq bank t) e ]) h

-- an object that has a bank's name is no question by itself
no_question : (d named : Data) → get (codes "bank") d ≡ Some named → question_of d ≡ None
no_question (object (member key value no_members)) named found =
    subst (λ k. question_of (one_json k value) ≡ None) (key_is (codes "bank") key value named found) refl
no_question (object (member key value (member other more ms))) named found =
    let d = object (member key value (member other more ms)) in
    (elim (question_of d) as (λ o. question_of d ≡ o → o ≡ None) [
      | None ↦ λ e. refl
      | Some q ↦ λ e. let one : suc (suc (members_len ms)) ≡ 1 = one_member d q e in absurd (omega arith)
    ]) refl
no_question _ named found = absurd (cc)

-- an object of another bank is no event and no question
nothing_named : (s : Settings) (bank : List ℕ) (d : Data) → is_other_named s bank d ≡ true
    → (event_named s bank d ≡ None) × (question_named bank d ≡ None)
nothing_named s bank d h = by (asked_event_at s d) refl h
  where
    unasked : (x : AskedEvent) → asked_event_at s d ≡ Some x → (o : Option Question) → question_named bank d ≡ o → o ≡ None
    unasked x is None e = refl
    unasked x is (Some q) e = let none = (named_none s bank d q e).0 in absurd (cc)

    by : (o : Option AskedEvent) → asked_event_at s d ≡ o
        → unwrap_or (option_map (λ x. is_receipt x.event) o) (has_other_bank bank d) ≡ true
        → (event_named s bank d ≡ None) × (question_named bank d ≡ None)
    by (Some x) is receipt = (rw (is, receipt) refl, unasked x is (question_named bank d) refl)
    by None is other =
        let this : has_bank bank d ≡ false = not_this bank (get (codes "bank") d) other in
        let found = there (is_other_text bank) (get (codes "bank") d) other in
        (rw (is, this) refl, rw (no_question d found.0 found.1, this) refl)

-- a line of another bank is no event and no question
pub nothing_asked : OtherBanksAskNothing
nothing_asked s [] line h = absurd (cc)
nothing_asked s (b ∷ bs) line h = (elim (read line) as (λ o. unwrap_or (option_map (is_other_named s (b ∷ bs)) o) false ≡ true
    → (option_and_then (event_named s (b ∷ bs)) o ≡ None) × (option_and_then (question_named (b ∷ bs)) o ≡ None))
    [ None ↦ λ e. absurd (cc) | Some d ↦ λ e. nothing_named s (b ∷ bs) d e ]) h
