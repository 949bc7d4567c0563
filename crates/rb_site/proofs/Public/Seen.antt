-- A site stays the run of its history.
use Rattle.std.proofs.Common.{◌≡◌, suc, ◌+◌, ◌<◌, ◌≤◌, Bool, true, false, cond, List, [], ◌∷◌, ◌++◌, length, refl, ap, sym, ◌∙◌, arith}
use Rattle.std.proofs.Common.{length-append, append_assoc}
use Rattle.std.proofs.lemmas.Bool.Decides.{nat_tests}
use Rattle.std.proofs.lemmas.List.{append-nil, length-map, map-append}
use Rattle.rb_money.specs.Settings.{Settings}
use Rattle.rb_site.specs.declared.entry.Entry.{Entry}
use Rattle.rb_site.specs.declared.event.Event.{Event}
use Rattle.rb_site.specs.Events.{ModelSite, after_event, after_events, first_site, is_full, reply_to}
use Rattle.rb_site.specs.Histories.{with_replies, events_of, history_of}
use Rattle.rb_site.specs.Seen.{IsReplayed, Replays, SeenSite, entry, next_site, state_of, stepped}
use Rattle.rb_site.proofs.Public.Recorded.{me_after, noted_history}
use Rattle.rb_site.proofs.Public.Runs

-- the state after one event more
pub state-stepped : (x : SeenSite) (e : Event) → state_of (stepped x e) ≡ after_event x.settings (state_of x) e
state-stepped x e =
    ap (after_events x.settings (first_site x.me)) (map-append (λ (y : Entry). y.event) x.entries _)
    ∙ Runs.after_events-append x.settings (events_of x.entries) (e ∷ []) (first_site x.me)

-- the same at a site whose history may be full
pub state-next : (x : SeenSite) (e : Event) → state_of (next_site x e) ≡ after_event x.settings (state_of x) e
state-next x e = by (is_full x.settings (state_of x)) refl
  where
    t : ModelSite
    t = state_of x

    after : ModelSite
    after = Runs.noted x.settings t e

    by : (b : Bool) → is_full x.settings t ≡ b → state_of (cond b x (stepped x e)) ≡ cond b t after
    by true q = refl
    by false q = state-stepped x e ∙ ap (λ b. cond b t after) q

-- a step keeps the configuration
pub settings-next : (x : SeenSite) (e : Event) → (next_site x e).settings ≡ x.settings
settings-next x e = by (is_full x.settings (state_of x))
  where
    by : (b : Bool) → (cond b x (stepped x e)).settings ≡ x.settings
    by true = refl
    by false = refl

-- entries that replay still do with one more, whose reply is the one that the run gives there
pub replays-push : (s : Settings) (t : ModelSite) (xs : List Entry) (e : Event) → Replays s t xs →
    Replays s t (xs ++ entry e (reply_to s (after_events s t (events_of xs)) e) ∷ [])
replays-push s t [] e h = (refl, tt)
replays-push s t (x ∷ xs) e h = (h.0, replays-push s (after_event s t x.event) xs e h.1)

-- if its history isn't full, a site keeps what it keeps
pub replayed-stepped : (x : SeenSite) (e : Event) → length x.entries < x.settings.limits.history → IsReplayed x → IsReplayed (stepped x e)
replayed-stepped x e room kept = record {
  within = kept.within;
  replays = replays-push x.settings (first_site x.me) x.entries e kept.replays;
  room = let longer : length (x.entries ++ entry e (reply_to x.settings (state_of x) e) ∷ []) ≡ length x.entries + 1 =
      length-append x.entries _ in omega arith;
}

-- the history of the run is what was run
pub history_of_run : (s : Settings) (t : ModelSite) (es : List Event) → length t.history + length es ≤ s.limits.history →
    (after_events s t es).history ≡ t.history ++ es
history_of_run s t [] room = sym (append-nil t.history)
history_of_run s t (e ∷ es) room =
    let free : is_full s t ≡ false = grind (arith, nat_tests) in
    let one : (after_event s t e).history ≡ t.history ++ e ∷ [] = noted_history s t e free in
    let longer : length (after_event s t e).history ≡ length t.history + 1 = ap length one ∙ length-append t.history (e ∷ []) in
    history_of_run s (after_event s t e) es (omega arith)
    ∙ ap (λ h. h ++ es) one ∙ append_assoc t.history (e ∷ []) es

-- the events of a site as clients see it are those of its model
pub history-state : (x : SeenSite) → IsReplayed x → (state_of x).history ≡ events_of x.entries
history-state x kept =
    let room : length x.entries ≤ x.settings.limits.history = kept.room in
    let same : length (events_of x.entries) ≡ length x.entries = length-map x.entries (λ (y : Entry). y.event) in
    history_of_run x.settings (first_site x.me) (events_of x.entries) (omega arith)

-- no event changes the site's number
pub me_of_run : (s : Settings) (t : ModelSite) (es : List Event) → (after_events s t es).me ≡ t.me
me_of_run s t [] = refl
me_of_run s t (e ∷ es) = me_of_run s (after_event s t e) es ∙ me_after s t e

-- the number of the model site is the site's
pub me-state : (x : SeenSite) → (state_of x).me ≡ x.me
me-state x = me_of_run x.settings (first_site x.me) (events_of x.entries)

-- ---- the entries of a run

-- entries that replay are those of their events
pub entries_replayed : (s : Settings) (t : ModelSite) (xs : List Entry) → Replays s t xs → with_replies s t (events_of xs) ≡ xs
entries_replayed s t [] h = refl
entries_replayed s t (x ∷ xs) h = ap (λ ys. entry x.event (reply_to s t x.event) ∷ ys) (entries_replayed s (after_event s t x.event) xs h.1)
    ∙ ap (λ r. entry x.event r ∷ xs) (sym h.0)

-- the history of the model site is the site's
pub entries-state : (x : SeenSite) → IsReplayed x → history_of x.settings (state_of x) ≡ x.entries
entries-state x kept =
    ap (λ me. with_replies x.settings (first_site me) (state_of x).history) (me-state x)
    ∙ ap (with_replies x.settings (first_site x.me)) (history-state x kept)
    ∙ entries_replayed x.settings (first_site x.me) x.entries kept.replays

-- there is an entry for each event
pub entries-length : (s : Settings) (t : ModelSite) (es : List Event) → length (with_replies s t es) ≡ length es
entries-length s t [] = refl
entries-length s t (e ∷ es) = ap (λ n. suc n) (entries-length s (after_event s t e) es)

-- the entries of a list of events are those events'
pub events_from : (s : Settings) (t : ModelSite) (es : List Event) → events_of (with_replies s t es) ≡ es
events_from s t [] = refl
events_from s t (e ∷ es) = ap (λ xs. e ∷ xs) (events_from s (after_event s t e) es)

-- the entries of two lists of events are those of the first, then those of the second after the first
pub entries-append : (s : Settings) (t : ModelSite) (es fs : List Event) →
    with_replies s t (es ++ fs) ≡ with_replies s t es ++ with_replies s (after_events s t es) fs
entries-append s t [] fs = refl
entries-append s t (e ∷ es) fs = ap (λ xs. entry e (reply_to s t e) ∷ xs) (entries-append s (after_event s t e) es fs)

-- if a site goes on, its history does
pub history-grown : (s : Settings) (t u : ModelSite) (more : List Event) → u.me ≡ t.me → u.history ≡ t.history ++ more →
    Runs.IsRunOfItsHistory s t → history_of s u ≡ history_of s t ++ with_replies s t more
history-grown s t u more me longer run =
    ap (λ i. with_replies s (first_site i) u.history) me
    ∙ ap (with_replies s (first_site t.me)) longer
    ∙ entries-append s (first_site t.me) t.history more
    ∙ ap (λ v. history_of s t ++ with_replies s v more) run

-- an event adds its entry if the history isn't full
pub history-noted : (s : Settings) (t : ModelSite) (e : Event) → is_full s t ≡ false → Runs.IsRunOfItsHistory s t →
    history_of s (after_event s t e) ≡ history_of s t ++ entry e (reply_to s t e) ∷ []
history-noted s t e room run = history-grown s t (after_event s t e) (e ∷ []) (me_after s t e) (noted_history s t e room) run
