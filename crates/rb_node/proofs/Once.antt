-- An id is that of one entry, however often a site is asked; and what is answered of it is the entry's.
use Rattle.std.proofs.Common.{◌≡◌, ◌≢◌, inl, inr, ℕ, Bool, true, false, cond, List, [], ◌∷◌, ◌++◌, map, true≢false}
use Rattle.std.proofs.Common.{refl, sym, ap, subst, ◌∙◌, append_assoc, append-nil}
use Rattle.std.specs.Prelude.{bytes_eq, Some, None}
use Rattle.std.proofs.lemmas.List.{append_cancel_left}
use Rattle.std.proofs.lemmas.Slice.Eq.{bytes_eq-Decides}
use Rattle.rb_money.specs.Settings.{Settings}
use Rattle.rb_shadow.specs.declared.op_name.OpName.{OpName}
use Rattle.rb_site.specs.declared.entry.Entry.{Entry}
use Rattle.rb_site.specs.declared.event.Event.{Event}
use Rattle.rb_site.specs.declared.event.Event.TheVariants.{Apply}
use Rattle.rb_site.specs.Events.{ModelSite, after_event, after_events, first_site, is_full, reply_to, sent_at}
use Rattle.rb_site.specs.Histories.{events_of}
use Rattle.rb_site.specs.Seen.{SeenSite, entry, next_site, next_sites, state_of, stepped}
use Rattle.rb_history.specs.Fits.{Each}
use Rattle.rb_history.specs.Ids.{AskedEntry, AskedEvent, may_be_asked}
use Rattle.rb_history.proofs.Public.Each.{each_both}
use Rattle.rb_node.specs.Answers.{IsKnownAnswer, IsSiteAnswer, again_json, is_kept, line_of, other_request_json}
use Rattle.rb_node.specs.Asked.{AreIdsOnce, Known, SeenAsked, asked_state, entries_alone, known_from, known_of, without_ids, with_id}
use Rattle.rb_node.specs.Laws.{AnswersAreTheSame, IdsStayOnce}
use Rattle.rb_node.proofs.OneAnswer.{known_or_new, not_both, not_other}
use Rattle.rb_node.proofs.Recorded.{more-alone}
use Rattle.rb_node.proofs.Spelled.{some_is}

-- ---- which entries have an id

-- two ids that aren't equal differ
differ : (own id : List ℕ) → own ≢ id → bytes_eq own id ≡ false
differ own id apart = by (bytes_eq own id) refl
  where
    by : (q : Bool) → bytes_eq own id ≡ q → bytes_eq own id ≡ false
    by true q = absurd (apart ((bytes_eq-Decides own id).0 q))
    by false q = q

-- the entry hasn't this id
abbrev Lacks : List ℕ → AskedEntry → Type 0
Lacks id x = x.id ≢ id

-- no entry has an id that isn't known
lacking : (s : Settings) (t : ModelSite) (xs : List AskedEntry) (b : ℕ) (bs : List ℕ) → known_from s t xs (b ∷ bs) ≡ None
    → Each (Lacks (b ∷ bs)) xs
lacking s t [] b bs none = tt
lacking s t (x ∷ xs) b bs none = by (λ e. lacking s (after_event s t x.entry.event) xs b bs e) (bytes_eq x.id (b ∷ bs)) refl
  where
    u : ModelSite
    u = after_event s t x.entry.event

    one : Known
    one = record { event = x.entry.event; reply = x.entry.reply; sent = sent_at s t x.entry.event }

    by : (known_from s u xs (b ∷ bs) ≡ None → Each (Lacks (b ∷ bs)) xs) → (q : Bool) → bytes_eq x.id (b ∷ bs) ≡ q
        → Each (Lacks (b ∷ bs)) (x ∷ xs)
    by rest true q =
        let some : Some one ≡ None = ap (λ p. cond p (Some one) (known_from s u xs (b ∷ bs))) (sym q) ∙ none in
        absurd (cc)
    by rest false q = (
      λ same. true≢false (sym ((bytes_eq-Decides x.id (b ∷ bs)).1 same) ∙ q),
      rest (ap (λ p. cond p (Some one) (known_from s u xs (b ∷ bs))) (sym q) ∙ none),
    )

-- the first entry of an id is what is known of it
first_known : (s : Settings) (t : ModelSite) (before : List AskedEntry) (x : AskedEntry) (later : List AskedEntry) (b : ℕ) (bs : List ℕ)
    → Each (Lacks (b ∷ bs)) before → x.id ≡ b ∷ bs
    → known_from s t (before ++ x ∷ later) (b ∷ bs) ≡ Some (record {
      event = x.entry.event;
      reply = x.entry.reply;
      sent = sent_at s (after_events s t (events_of (entries_alone before))) x.entry.event;
    })
first_known s t [] x later b bs lacks same =
    let one : Known = record { event = x.entry.event; reply = x.entry.reply; sent = sent_at s t x.entry.event } in
    ap (λ p. cond p (Some one) (known_from s (after_event s t x.entry.event) later (b ∷ bs))) ((bytes_eq-Decides x.id (b ∷ bs)).1 same)
first_known s t (y ∷ ys) x later b bs lacks same =
    let one : Known = record { event = y.entry.event; reply = y.entry.reply; sent = sent_at s t y.entry.event } in
    let u = after_event s t y.entry.event in
    ap (λ p. cond p (Some one) (known_from s u (ys ++ x ∷ later) (b ∷ bs)))
    (differ y.id (b ∷ bs) lacks.0)
    ∙ first_known s u ys x later b bs lacks.1 same

-- what holds of an entry wherever a list is split holds of each
each_split : (P : AskedEntry → Type 0) (xs : List AskedEntry)
    → ((before later : List AskedEntry) (y : AskedEntry) → xs ≡ before ++ y ∷ later → P y) → Each P xs
each_split P [] f = tt
each_split P (x ∷ xs) f = (f [] xs x refl, each_split P xs (λ b l y e. f (x ∷ b) l y (ap (λ r. x ∷ r) e)))

-- what is known of the id of an entry, if no id is that of two
known_at : (x : SeenAsked) (id : List ℕ) (before later : List AskedEntry) (y : AskedEntry) → id ≢ [] → AreIdsOnce x.asked
    → x.asked ≡ before ++ y ∷ later → y.id ≡ id → known_of x id ≡ Some (record {
      event = y.entry.event;
      reply = y.entry.reply;
      sent = sent_at x.settings (asked_state (record x { asked = before })) y.entry.event;
    })
known_at x [] before later y some once split same = absurd (some refl)
known_at x (b ∷ bs) before later y some once split same =
    ap (λ l. known_from x.settings (first_site x.me) l (b ∷ bs)) split
    ∙ first_known x.settings (first_site x.me) before y later b bs (each_split (Lacks (b ∷ bs)) before (λ front rest z e own.
    some (sym own ∙ once front rest later z y (split ∙ ap (λ l. l ++ y ∷ later) e ∙ append_assoc front (z ∷ rest) (y ∷ later))
    (own ∙ sym same)))) same

-- ---- no id is that of two entries

-- the same, entry after entry
abbrev AreOnce : List AskedEntry → Type 0
AreOnce [] = Unit {0}
AreOnce (x ∷ xs) = (x.id ≢ [] → Each (Lacks x.id) xs) × AreOnce xs

to_once : (xs : List AskedEntry) → AreIdsOnce xs → AreOnce xs
to_once [] h = tt
to_once (x ∷ xs) h = (
  λ some. each_split (Lacks x.id) xs (λ b l y e own. some (h [] b l x y (ap (λ r. x ∷ r) e) (sym own))),
  to_once xs (λ b m l y z e. h (x ∷ b) m l y z (ap (λ r. x ∷ r) e)),
)

middle : (P : AskedEntry → Type 0) (xs : List AskedEntry) (y : AskedEntry) (ys : List AskedEntry) → Each P (xs ++ y ∷ ys) → P y
middle P [] y ys h = h.0
middle P (x ∷ xs) y ys h = middle P xs y ys h.1

-- a list is empty where that it isn't leads to what can't be
empty_by : (l : List ℕ) → (l ≢ [] → ⊥) → l ≡ []
empty_by [] f = refl
empty_by (b ∷ bs) f = absurd (f (λ e. let h : b ∷ bs ≡ [] = e in cc))

once_at : (before between : List AskedEntry) (x y : AskedEntry) (later : List AskedEntry) → AreOnce (before ++ x ∷ (between ++ y ∷ later))
    → x.id ≡ y.id → x.id ≡ []
once_at [] between x y later h same = empty_by x.id (λ some. middle (Lacks x.id) between y later (h.0 some) (sym same))
once_at (z ∷ zs) between x y later h same = once_at zs between x y later h.1 same

from_once : (xs : List AskedEntry) → AreOnce xs → AreIdsOnce xs
from_once xs h before between later x y e same = once_at before between x y later (subst AreOnce e h) same

-- the id of an entry, if it has one, is none of these
abbrev IsNewAmong : List AskedEntry → AskedEntry → Type 0
IsNewAmong xs y = y.id ≢ [] → Each (Lacks y.id) xs

-- new entries lack an earlier one's id
apart : (x : AskedEntry) (xs ys : List AskedEntry) → x.id ≢ [] → Each (IsNewAmong (x ∷ xs)) ys → Each (Lacks x.id) ys
apart x xs [] some new = tt
apart x xs (y ∷ ys) some new = (λ own. (new.0 (λ none. some (sym own ∙ none))).0 (sym own), apart x xs ys some new.1)

fewer : (x : AskedEntry) (xs ys : List AskedEntry) → Each (IsNewAmong (x ∷ xs)) ys → Each (IsNewAmong xs) ys
fewer x xs [] new = tt
fewer x xs (y ∷ ys) new = (λ some. (new.0 some).1, fewer x xs ys new.1)

-- new entries after others
once_behind : (xs ys : List AskedEntry) → Each (IsNewAmong xs) ys → AreOnce xs → AreOnce ys → AreOnce (xs ++ ys)
once_behind [] ys new a b = b
once_behind (x ∷ xs) ys new a b = (
  λ some. each_both (Lacks x.id) xs ys (a.0 some) (apart x xs ys some new),
  once_behind xs ys (fewer x xs ys new) a.1 b,
)

-- ---- the entries that an answer records

-- an id that isn't known is new, whatever entry may have it
new_one : (x : SeenAsked) (id : List ℕ) (z : Entry) → known_of x id ≡ None → IsNewAmong x.asked (with_id id z)
new_one x [] z none = by (may_be_asked z)
  where
    by : (m : Bool) → cond {A = List ℕ} m [] [] ≢ [] → Each (Lacks (cond {A = List ℕ} m [] [])) x.asked
    by true some = absurd (some refl)
    by false some = absurd (some refl)
new_one x (b ∷ bs) z none = by (may_be_asked z)
  where
    by : (m : Bool) → cond m (b ∷ bs) [] ≢ [] → Each (Lacks (cond m (b ∷ bs) [])) x.asked
    by true some = lacking x.settings (first_site x.me) x.asked b bs none
    by false some = absurd (some refl)

new_all : (x : SeenAsked) (id : List ℕ) (zs : List Entry) → known_of x id ≡ None → Each (IsNewAmong x.asked) (map (with_id id) zs)
new_all x id [] none = tt
new_all x id (z ∷ zs) none = (new_one x id z none, new_all x id zs none)

-- an entry may not have an id
abbrev HasNoId : Entry → Type 0
HasNoId x = may_be_asked x ≡ false

-- so it has none
without : (id : List ℕ) (z : Entry) → HasNoId z → (with_id id z).id ≡ []
without id z h = ap (λ m. cond m id []) h

all_lack : (own id : List ℕ) (zs : List Entry) → own ≢ [] → Each HasNoId zs → Each (Lacks own) (map (with_id id) zs)
all_lack own id [] some h = tt
all_lack own id (z ∷ zs) some h = (λ e. some (sym e ∙ without id z h.0), all_lack own id zs some h.1)

once_without : (id : List ℕ) (zs : List Entry) → Each HasNoId zs → AreOnce (map (with_id id) zs)
once_without id [] h = tt
once_without id (z ∷ zs) h = (λ some. absurd (some (without id z h.0)), once_without id zs h.1)

-- one entry, or none, and some that may have no id
abbrev IsOneAndMore : List Entry → Type 0
IsOneAndMore [] = Unit {0}
IsOneAndMore (x ∷ xs) = Each HasNoId xs

once_one : (id : List ℕ) (zs : List Entry) → IsOneAndMore zs → AreOnce (map (with_id id) zs)
once_one id [] h = tt
once_one id (z ∷ zs) h = (λ some. all_lack (with_id id z).id id zs some h, once_without id zs h)

-- entries that a site has after those of another, of this form
record Grows (old new : SeenSite) (P : List Entry → Type 0) : Type 0 where
  more : List Entry
  is : new.entries ≡ old.entries ++ more
  form : P more

-- an event adds its entry, or none
one_grows : (x : SeenSite) (e : Event) (P : List Entry → Type 0) → P [] → P (entry e (reply_to x.settings (state_of x) e) ∷ [])
    → Grows x (next_site x e) P
one_grows x e P none one = by (is_full x.settings (state_of x))
  where
    by : (b : Bool) → Grows x (cond b x (stepped x e)) P
    by true = record { more = []; is = sym (append-nil x.entries); form = none }
    by false = record { more = entry e (reply_to x.settings (state_of x) e) ∷ []; is = refl; form = one }

-- more after more
grows_on : (x y z : SeenSite) (P Q R : List Entry → Type 0) → ((xs ys : List Entry) → P xs → Q ys → R (xs ++ ys)) → Grows x y P
    → Grows y z Q → Grows x z R
grows_on x y z P Q R both a b = record {
  more = a.more ++ b.more;
  is = b.is ∙ ap (λ l. l ++ b.more) a.is ∙ append_assoc x.entries a.more b.more;
  form = both a.more b.more a.form b.form;
}

-- applications add entries that may have no id
applied_grow : (x : SeenSite) (names : List OpName) → Grows x (next_sites x (map Apply names)) (Each HasNoId)
applied_grow x [] = record { more = []; is = sym (append-nil x.entries); form = tt }
applied_grow x (n ∷ ns) =
    let y = next_site x (Apply n) in
    grows_on x y (next_sites y (map Apply ns)) (Each HasNoId) (Each HasNoId) (Each HasNoId) (each_both HasNoId)
    (one_grows x (Apply n) (Each HasNoId) tt (refl, tt)) (applied_grow y ns)

-- an event that may be recorded adds one entry, or none
kept_grow : (kept : Bool) (x : SeenSite) (e : Event) → Grows x (next_sites x (cond kept (e ∷ []) [])) IsOneAndMore
kept_grow true x e = one_grows x e IsOneAndMore tt tt
kept_grow false x e = record { more = []; is = sym (append-nil x.entries); form = tt }

one_and_none : (xs ys : List Entry) → IsOneAndMore xs → Each HasNoId ys → IsOneAndMore (xs ++ ys)
one_and_none [] [] a b = tt
one_and_none [] (y ∷ ys) a b = b.1
one_and_none (x ∷ xs) ys a b = each_both HasNoId xs ys a b

-- an answer records one entry that may have an id, or none, and entries of applications
recorded_form : (all : Bool) (old new : SeenAsked) (line text entries : List ℕ) (a : IsSiteAnswer all old new line text entries)
    → IsOneAndMore a.recorded
recorded_form all old new line text entries a =
    let x = without_ids old in
    let e = a.asked.event in
    let grown : Grows x (next_sites a.mid (map Apply a.applied)) IsOneAndMore =
    grows_on x a.mid (next_sites a.mid (map Apply a.applied)) IsOneAndMore (Each HasNoId) IsOneAndMore one_and_none
    (subst (λ (y : SeenSite). Grows x y IsOneAndMore) (sym a.mid_is) (kept_grow (is_kept all x e) x e)) (applied_grow a.mid a.applied) in
    subst IsOneAndMore (append_cancel_left x.entries grown.more a.recorded
    (sym grown.is ∙ ap (λ (y : SeenSite). y.entries) (sym a.after) ∙ ap (λ (y : SeenAsked). entries_alone y.asked) a.recorded_are
    ∙ more-alone old a.asked.id a.recorded)) grown.form

-- ---- the law

-- an answer leaves no two entries of one id
pub ids_stay_once : IdsStayOnce
ids_stay_once all old new line text entries (inl a) once =
    subst (λ (y : SeenAsked). AreIdsOnce y.asked) (sym a.recorded_are) (from_once (old.asked ++ map (with_id a.asked.id) a.recorded)
    (once_behind old.asked (map (with_id a.asked.id) a.recorded) (new_all old a.asked.id a.recorded a.unknown) (to_once old.asked once)
    (once_one a.asked.id a.recorded (recorded_form all old new line text entries a))))
ids_stay_once all old new line text entries (inr (inl a)) once = subst (λ (y : SeenAsked). AreIdsOnce y.asked) (sym a.after) once
ids_stay_once all old new line text entries (inr (inr (inl a))) once = subst (λ (y : SeenAsked). AreIdsOnce y.asked) (sym a.after) once
ids_stay_once all old new line text entries (inr (inr (inr a))) once = subst (λ (y : SeenAsked). AreIdsOnce y.asked) (sym a.after) once

-- an answer to an id that is known, of the event on the line and of what is known
said_of : (old new : SeenAsked) (line text entries : List ℕ) (asked : AskedEvent) (k : Known)
    (a : IsKnownAnswer old new line text entries) → a.asked ≡ asked → a.known ≡ k
    → (new ≡ old) × (entries ≡ []) × (k.event ≡ asked.event → text ≡ line_of (again_json old.settings old.bank asked.id k))
    × (k.event ≢ asked.event → text ≡ line_of (other_request_json asked.id))
said_of old new line text entries asked k a same is = (
  a.after,
  a.entries_are,
  λ e. a.again (ap (λ (q : Known). q.event) is ∙ e ∙ sym (ap (λ (q : AskedEvent). q.event) same))
      ∙ ap (λ (q : AskedEvent). line_of (again_json old.settings old.bank q.id a.known)) same
      ∙ ap (λ (q : Known). line_of (again_json old.settings old.bank asked.id q)) is,
  λ e. a.other (λ f. e (sym (ap (λ (q : Known). q.event) is) ∙ f ∙ ap (λ (q : AskedEvent). q.event) same))
      ∙ ap (λ (q : AskedEvent). line_of (other_request_json q.id)) same,
)

-- an answer to an id that an entry has is that entry's, or refuses another request
pub answers_are_the_same : AnswersAreTheSame
answers_are_the_same all old new line text entries (inl a) once asked is some before later x split same =
    absurd (known_or_new old line a.asked asked _ a.is_event is a.unknown (known_at old asked.id before later x some once split same))
answers_are_the_same all old new line text entries (inr (inl a)) once asked is some before later x split same =
    let k : Known = record {
      event = x.entry.event;
      reply = x.entry.reply;
      sent = sent_at old.settings (asked_state (record old { asked = before })) x.entry.event;
    } in
    let one : a.asked ≡ asked = some_is a.asked asked (sym a.is_event ∙ is) in
    said_of old new line text entries asked k a one (some_is a.known k
    (sym a.is_known ∙ ap (λ (q : AskedEvent). known_of old q.id) one ∙ known_at old asked.id before later x some once split same))
answers_are_the_same all old new line text entries (inr (inr (inl a))) once asked is some before later x split same =
    absurd (not_both old.settings old.bank line asked a.question is a.is_question)
answers_are_the_same all old new line text entries (inr (inr (inr a))) once asked is some before later x split same =
    absurd (not_other old.settings old.bank line asked is a.is_other)
