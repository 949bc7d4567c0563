-- The entries that an answer recorded are replayed from their lines.
use Rattle.std.proofs.Common.{◌≡◌, ◌<◌, ℕ, Bool, true, false, cond, List, [], ◌∷◌, ◌++◌, refl, sym, ap, subst, ◌∙◌}
use Rattle.std.proofs.Common.{append_assoc, append-nil, inl, inr}
use Rattle.std.specs.Prelude.{◌⊎◌, if◌then◌else◌, map, Some, None}
use Rattle.std.specs.Str.{is_utf8}
use Rattle.serde_json.specs.Written.{compact_text}
use Rattle.rb_money.specs.Settings.{IsConfigured, Settings}
use Rattle.rb_shadow.specs.declared.op_name.OpName.{OpName}
use Rattle.rb_site.specs.declared.entry.Entry.{Entry}
use Rattle.rb_site.specs.declared.event.Event.{Event}
use Rattle.rb_site.specs.declared.event.Event.TheVariants.{Apply}
use Rattle.rb_site.specs.Events.{ModelSite, after_event, after_events, first_site, is_full, reply_to, sent_at}
use Rattle.rb_site.specs.Histories.{events_of, with_replies}
use Rattle.rb_site.specs.Seen.{SeenSite, entry, next_site, next_sites, state_of}
use Rattle.rb_site.proofs.Public.Runs.{after_events-append}
use Rattle.rb_site.proofs.Public.Seen.{settings-next, state-next, state-stepped}
use Rattle.rb_history.specs.Entries.{asked_entry_json, asked_entry_of_line, asked_entry_on}
use Rattle.rb_history.specs.Ids.{AskedEntry, AskedEvent, IsAsked, IsIdOrNone, is_id, may_be_asked, may_have_id}
use Rattle.rb_history.specs.Fits.{Each, EntriesAreRead, IsEvent, IsReply}
use Rattle.rb_history.specs.OneLine.{EntriesAreLines}
use Rattle.rb_history.specs.Banks.{ReadEventsFit, event_to}
use Rattle.rb_history.specs.Sites.{HeldNamesFitLines, RepliesFitLines}
use Rattle.rb_node.specs.Answers.{AreReadyInTurn, IsSiteAnswer, asked_event_on, is_kept, kept_events}
use Rattle.rb_node.specs.Asked.{SeenAsked, asked_state, known_of, without_ids, with_id, with_more}
use Rattle.rb_node.specs.Laws.{AnswersAreReplayed, AreReplayed, IsRecorded}
use Rattle.rb_node.specs.Replays.{IsReadBack, IsReplayedAs}
use Rattle.rb_node.proofs.Recorded.{more-none, next-free, next-full, which, with_one}
use Rattle.rb_node.proofs.Spelled.{where_kept}

-- the laws of lines
pub record LineLaws : Type 0 where
  pub entries : EntriesAreRead
  pub lines : EntriesAreLines
  pub events : ReadEventsFit
  pub replies : RepliesFitLines
  pub held : HeldNamesFitLines

-- ---- what fits

-- an entry that fits its line: its numbers fit their types, and its places are known
abbrev FitsLine : Settings → Entry → Type 0
FitsLine s x = IsEvent s x.event × IsReply x.reply

-- one event more
more : (s : Settings) (me : ℕ) (before : List Event) (e : Event)
    → after_events s (first_site me) (before ++ e ∷ []) ≡ after_event s (after_events s (first_site me) before) e
more s me before e = after_events-append s before (e ∷ []) (first_site me)

-- the entries of a run fit if its events do
run_fits : RepliesFitLines → (s : Settings) → IsConfigured s → (me : ℕ) → me < s.sites → (before es : List Event) → Each (IsEvent s) es
    → Each (FitsLine s) (with_replies s (after_events s (first_site me) before) es)
run_fits replies s c me low before [] fits = tt
run_fits replies s c me low before (e ∷ es) fits = (
  (fits.0, replies s c me low before e),
  subst (λ t. Each (FitsLine s) (with_replies s t es)) (more s me before e)
      (run_fits replies s c me low (before ++ e ∷ []) es fits.1),
)

-- the names of what is ready in turn fit
ready_fits : HeldNamesFitLines → (s : Settings) → IsConfigured s → (me : ℕ) → me < s.sites → (before : List Event) (xs : List OpName)
    → AreReadyInTurn s (after_events s (first_site me) before) xs → Each (IsEvent s) (map Apply xs)
ready_fits held s c me low before [] turn = tt
ready_fits held s c me low before (x ∷ xs) turn =
    let (v, there, ready) = turn.1 in (
      held s c me low before x v there,
      ready_fits held s c me low (before ++ Apply x ∷ []) xs
          (subst (λ t. AreReadyInTurn s t xs) (sym (more s me before (Apply x))) turn.2),
    )

-- what is on a line, the line is
pub event_is : (s : Settings) (bank l : List ℕ) (x : AskedEvent) → asked_event_on s bank l ≡ Some x → event_to s bank l ≡ Some x
unfolding asked_event_on
event_is s bank l x is = where_kept (is_utf8 l) (event_to s bank l) x is

-- ---- ids

-- an id that an entry of the event may have
abbrev MayHave : List ℕ → Event → Type 0
MayHave id e = (id ≡ []) ⊎ ((is_id id ≡ true) × (may_have_id e ≡ true))

-- an entry has the id only if it may
may_have : (id : List ℕ) (x : Entry) → MayHave id x.event → IsAsked (with_id id x)
may_have id x has = by (may_be_asked x) refl has
  where
    tagged : Bool → AskedEntry
    tagged b = record { id = if b then id else []; entry = x }

    by : (b : Bool) → may_be_asked x ≡ b → MayHave id x.event → IsAsked (tagged b)
    by true q (inl none) = inl none
    by true q (inr is) = inr (is.0, q)
    by false q h = inl refl

-- such an id is one or none
id_or_none : (x : AskedEntry) → IsAsked x → IsIdOrNone x.id
id_or_none x (inl none) = inl none
id_or_none x (inr is) = inr is.0

-- if the id isn't known, that of an entry isn't
unknown_with : (old : SeenAsked) (id : List ℕ) (x : Entry) → known_of old id ≡ None → known_of old (with_id id x).id ≡ None
unknown_with old id x none = by (may_be_asked x)
  where
    by : (b : Bool) → known_of old (if b then id else []) ≡ None
    by true = none
    by false = refl

-- ---- what is replayed

-- the history isn't full before any of the events
abbrev AreFree : Settings → ModelSite → List Event → Type 0
AreFree s t [] = Unit {0}
AreFree s t (e ∷ es) = (is_full s t ≡ false) × AreFree s (after_event s t e) es

-- what is ready in turn is applied while the history isn't full
ready_free : (s : Settings) (t : ModelSite) (xs : List OpName) → AreReadyInTurn s t xs → AreFree s t (map Apply xs)
ready_free s t [] h = tt
ready_free s t (x ∷ xs) h = (h.0, ready_free s (after_event s t (Apply x)) xs h.2)

-- the state after an event, of a site in this state
state_from : (x : SeenSite) (s : Settings) (t : ModelSite) (e : Event) → s ≡ x.settings → t ≡ state_of x
    → after_event s t e ≡ state_of (next_site x e)
state_from x s t e f g = ap (λ k. after_event k t e) f ∙ ap (λ u. after_event x.settings u e) g ∙ sym (state-next x e)

-- the entries of a site after events for which its history isn't full
entries_after : (x : SeenSite) (s : Settings) (t : ModelSite) (es : List Event) → s ≡ x.settings → t ≡ state_of x → AreFree s t es
    → (next_sites x es).entries ≡ x.entries ++ with_replies s t es
entries_after x s t [] f g free = sym (append-nil x.entries)
entries_after x s t (e ∷ es) f g free =
    let full : is_full x.settings (state_of x) ≡ false = ap (λ k. is_full k (state_of x)) (sym f) ∙ ap (is_full s) (sym g) ∙ free.0 in
    let rest = with_replies s (after_event s t e) es in
    let one : (next_site x e).entries ≡ x.entries ++ entry e (reply_to s t e) ∷ [] =
    ap (λ (y : SeenSite). y.entries) (next-free x e full)
    ∙ ap (λ r. x.entries ++ entry e r ∷ []) (ap (λ k. reply_to k (state_of x) e) (sym f) ∙ ap (λ u. reply_to s u e) (sym g)) in
    entries_after (next_site x e) s (after_event s t e) es (f ∙ sym (settings-next x e)) (state_from x s t e f g) free.1
    ∙ ap (λ xs. xs ++ rest) one ∙ append_assoc x.entries (entry e (reply_to s t e) ∷ []) rest

-- the site is one of a configuration's
record IsSite (x : SeenAsked) : Type 0 where
  configured : IsConfigured x.settings
  within : x.me < x.settings.sites

-- the line of an entry is read as that entry
entry_read : EntriesAreRead → EntriesAreLines → (s : Settings) (me : ℕ) (x : AskedEntry) → IsConfigured s → me < s.sites
    → FitsLine s x.entry → IsAsked x → IsReadBack s me x
unfolding asked_entry_on
entry_read read lines s me x configured within fits asked =
    let line = compact_text (asked_entry_json s me x) in
    ap (λ b. cond b (asked_entry_of_line s line) None) (lines s configured me x (id_or_none x asked)).utf8
    ∙ read s configured me x within fits.0 fits.1 asked

-- an event's entry is replayed if its id isn't known
replayed_one : (x : SeenAsked) (id : List ℕ) (e : Event) → is_full x.settings (asked_state x) ≡ false
    → known_of x (with_id id (entry e (reply_to x.settings (asked_state x) e))).id ≡ None
    → IsReplayedAs x (record {
      site = with_more x (with_id id (entry e (reply_to x.settings (asked_state x) e)) ∷ []);
      sent = sent_at x.settings (asked_state x) e;
    }) (with_id id (entry e (reply_to x.settings (asked_state x) e)))
replayed_one x id e free unknown = record { free = free; unknown = unknown; reply = refl; site = refl; sent = refl }

-- an event's entry is replayed, and then those after it
replayed_then : EntriesAreRead → EntriesAreLines → (x : SeenAsked) (id : List ℕ) (e : Event) (ys : List AskedEntry) → IsSite x
    → is_full x.settings (asked_state x) ≡ false → FitsLine x.settings (entry e (reply_to x.settings (asked_state x) e))
    → IsAsked (with_id id (entry e (reply_to x.settings (asked_state x) e)))
    → known_of x (with_id id (entry e (reply_to x.settings (asked_state x) e))).id ≡ None
    → AreReplayed (with_more x (with_id id (entry e (reply_to x.settings (asked_state x) e)) ∷ [])) ys
    (with_more (with_more x (with_id id (entry e (reply_to x.settings (asked_state x) e)) ∷ [])) ys)
    → AreReplayed x (with_id id (entry e (reply_to x.settings (asked_state x) e)) ∷ ys)
    (with_more x (with_id id (entry e (reply_to x.settings (asked_state x) e)) ∷ ys))
replayed_then read lines x id e ys is free fits asked unknown rest =
    let y = with_id id (entry e (reply_to x.settings (asked_state x) e)) in
    let P : List AskedEntry → Type 0 = λ l. AreReplayed (with_more x (y ∷ [])) ys (record x { asked = l }) in (
      record { site = with_more x (y ∷ []); sent = sent_at x.settings (asked_state x) e },
      entry_read read lines x.settings x.me y is.configured is.within fits asked,
      replayed_one x id e free unknown,
      subst P (append_assoc x.asked (y ∷ []) ys) rest,
    )

-- what was applied is replayed
run_applied : EntriesAreRead → EntriesAreLines → (x : SeenAsked) (id : List ℕ) (t : ModelSite) (names : List OpName) → IsSite x
    → t ≡ asked_state x → AreFree x.settings t (map Apply names) → Each (FitsLine x.settings) (with_replies x.settings t (map Apply names))
    → AreReplayed x (map (with_id id) (with_replies x.settings t (map Apply names)))
    (with_more x (map (with_id id) (with_replies x.settings t (map Apply names))))
run_applied read lines x id t [] is here free fits = sym (more-none x)
run_applied read lines x id t (n ∷ names) is here free fits =
    let s = x.settings in
    let e = Apply n in
    let u = asked_state x in
    let free_here : AreFree s u (e ∷ map Apply names) = rw here at free in
    let fits_here : Each (FitsLine s) (with_replies s u (e ∷ map Apply names)) = rw here at fits in
    let next = with_more x (with_id id (entry e (reply_to s u e)) ∷ []) in
    rw here (replayed_then read lines x id e (map (with_id id) (with_replies s (after_event s u e) (map Apply names))) is
    free_here.0 fits_here.0 (inl refl) refl
    (run_applied read lines next id (after_event s u e) names (record { configured = is.configured; within = is.within })
    (sym (state-stepped (without_ids x) e) ∙ ap state_of (sym (with_one x id e))) free_here.1 fits_here.1))

-- the entries that were recorded are those of the events that the site has gone through
gone_through : (old new : SeenAsked) (id : List ℕ) (es : List Event) (recorded : List Entry)
    → AreFree old.settings (asked_state old) es → without_ids new ≡ next_sites (without_ids old) es
    → new ≡ with_more old (map (with_id id) recorded) → with_replies old.settings (asked_state old) es ≡ recorded
gone_through old new id es recorded free after are = sym (which old new id recorded _ are
    (ap (λ (y : SeenSite). y.entries) after ∙ entries_after (without_ids old) old.settings (asked_state old) es refl refl free))

-- if the site has recorded the entries of these events, and these are replayed, those are
replayed_as : (old new : SeenAsked) (id : List ℕ) (es : List Event) (recorded : List Entry)
    → AreFree old.settings (asked_state old) es → without_ids new ≡ next_sites (without_ids old) es
    → new ≡ with_more old (map (with_id id) recorded)
    → AreReplayed old (map (with_id id) (with_replies old.settings (asked_state old) es))
    (with_more old (map (with_id id) (with_replies old.settings (asked_state old) es)))
    → AreReplayed old (map (with_id id) recorded) new
replayed_as old new id es recorded free after are replayed =
    rw (are, ← gone_through old new id es recorded free after are) replayed

-- an answer that recorded only what was applied
applied_replayed : LineLaws → (old new : SeenAsked) (id : List ℕ) (names : List OpName) (recorded : List Entry) → IsSite old
    → AreReadyInTurn old.settings (asked_state old) names → without_ids new ≡ next_sites (without_ids old) (map Apply names)
    → new ≡ with_more old (map (with_id id) recorded) → AreReplayed old (map (with_id id) recorded) new
applied_replayed laws old new id names recorded is turn after are =
    let s = old.settings in
    let t = asked_state old in
    let before = events_of (without_ids old).entries in
    let free = ready_free s t names turn in
    let fits = run_fits laws.replies s is.configured old.me is.within before (map Apply names)
    (ready_fits laws.held s is.configured old.me is.within before names turn) in
    replayed_as old new id (map Apply names) recorded free after are
    (run_applied laws.entries laws.lines old id t names is refl free fits)

-- an answer that recorded its event, and what was applied then
event_replayed : LineLaws → (old new : SeenAsked) (x : AskedEvent) (names : List OpName) (recorded : List Entry) → IsSite old
    → IsEvent old.settings x.event → MayHave x.id x.event → known_of old x.id ≡ None → is_full old.settings (asked_state old) ≡ false
    → AreReadyInTurn old.settings (after_event old.settings (asked_state old) x.event) names
    → without_ids new ≡ next_sites (without_ids old) (x.event ∷ map Apply names)
    → new ≡ with_more old (map (with_id x.id) recorded) → AreReplayed old (map (with_id x.id) recorded) new
event_replayed laws old new x names recorded is fits has unknown room turn after are =
    let s = old.settings in
    let t = asked_state old in
    let e = x.event in
    let before = events_of (without_ids old).entries in
    let es = e ∷ map Apply names in
    let u = after_event s t e in
    let first = entry e (reply_to s t e) in
    let later = ready_fits laws.held s is.configured old.me is.within (before ++ e ∷ []) names
    (subst (λ v. AreReadyInTurn s v names) (sym (more s old.me before e)) turn) in
    let all = run_fits laws.replies s is.configured old.me is.within before es (fits, later) in
    let free : AreFree s t es = (room, ready_free s u names turn) in
    replayed_as old new x.id es recorded free after are
    (replayed_then laws.entries laws.lines old x.id e (map (with_id x.id) (with_replies s u (map Apply names))) is room all.0
    (may_have x.id first has) (unknown_with old x.id first unknown)
    (run_applied laws.entries laws.lines (with_more old (with_id x.id first ∷ [])) x.id u names
    (record { configured = is.configured; within = is.within })
    (sym (state-stepped (without_ids old) e) ∙ ap state_of (sym (with_one old x.id e))) free.1 all.1))

-- an event leaves the site, or is recorded by it
stays_or_goes : (all : Bool) (x mid : SeenSite) (e : Event) → mid ≡ next_sites x (kept_events all x e)
    → (mid ≡ x) ⊎ ((is_full x.settings (state_of x) ≡ false) × (mid ≡ next_site x e))
stays_or_goes all x mid e is = by (is_kept all x e) (is_full x.settings (state_of x)) refl is
  where
    by : (b full : Bool) → is_full x.settings (state_of x) ≡ full → mid ≡ next_sites x (if b then e ∷ [] else [])
        → (mid ≡ x) ⊎ ((is_full x.settings (state_of x) ≡ false) × (mid ≡ next_site x e))
    by true true q h = inl (h ∙ next-full x e q)
    by true false q h = inr (q, h)
    by false full q h = inl h

-- what the answer to an event recorded
answer_replayed : LineLaws → (all : Bool) (old new : SeenAsked) (line text entries : List ℕ) → IsSite old
    → (answer : IsSiteAnswer all old new line text entries) → AreReplayed old (map (with_id answer.asked.id) answer.recorded) new
answer_replayed laws all old new line text entries is answer =
    by (stays_or_goes all (without_ids old) answer.mid answer.asked.event answer.mid_is)
  where
    s : Settings
    s = old.settings

    names : List OpName
    names = answer.applied

    fits : IsEvent s answer.asked.event × MayHave answer.asked.id answer.asked.event
    fits = laws.events s old.bank line answer.asked (event_is s old.bank line answer.asked answer.is_event)

    by : (answer.mid ≡ without_ids old) ⊎ ((is_full s (asked_state old) ≡ false)
        × (answer.mid ≡ next_site (without_ids old) answer.asked.event))
        → AreReplayed old (map (with_id answer.asked.id) answer.recorded) new
    by (inl stays) = applied_replayed laws old new answer.asked.id names answer.recorded is
        (subst (λ y. AreReadyInTurn s (state_of y) names) stays answer.in_turn)
        (answer.after ∙ ap (λ y. next_sites y (map Apply names)) stays) answer.recorded_are
    by (inr goes) = event_replayed laws old new answer.asked names answer.recorded is fits.0 fits.1 answer.unknown goes.0
        (subst (λ u. AreReadyInTurn s u names) (ap state_of goes.1 ∙ state-next (without_ids old) answer.asked.event) answer.in_turn)
        (answer.after ∙ ap (λ y. next_sites y (map Apply names)) goes.1) answer.recorded_are

-- an answer that recorded nothing
nothing_recorded : {old new : SeenAsked} {entries : List ℕ} → new ≡ old → entries ≡ [] → IsRecorded old new entries
nothing_recorded {old} same none =
    record { recorded = []; recorded_are = same ∙ more-none old; entries_are = none; replayed = same }

-- an answer's entries
pub answers_replayed : LineLaws → AnswersAreReplayed
answers_replayed laws all old new line text entries configured within (inl answer) = record {
  recorded = map (with_id answer.asked.id) answer.recorded;
  recorded_are = answer.recorded_are;
  entries_are = answer.entries_are;
  replayed =
      answer_replayed laws all old new line text entries (record { configured = configured; within = within }) answer;
}
answers_replayed laws all old new line text entries configured within (inr (inl known)) =
    nothing_recorded known.after known.entries_are
answers_replayed laws all old new line text entries configured within (inr (inr (inl question))) =
    nothing_recorded question.after question.entries_are
answers_replayed laws all old new line text entries configured within (inr (inr (inr other))) =
    nothing_recorded other.after other.entries_are
