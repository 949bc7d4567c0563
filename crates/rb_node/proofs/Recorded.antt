-- The site that one event leaves, and the line of its entry.
use Rattle.std.proofs.Common.{◌≡◌, ◌≤◌, ◌+◌, ◌-◌, ℕ, Bool, true, false, not, cond, ◌&&◌, ◌||◌, List, [], ◌∷◌, ◌++◌, length}
use Rattle.std.proofs.Common.{take, refl, sym, ap, subst, ◌∙◌, append-nil, append_assoc, length-append, arith}
use Rattle.std.specs.Prelude.{codes, map, nat_le, Result, Ok, Err, MatchResult, OnErr, OnOk}
use Rattle.std.proofs.lemmas.Bool.{and_parts, not-true}
use Rattle.std.proofs.lemmas.Bool.Decides.{nat_tests}
use Rattle.std.proofs.lemmas.List.{append_cancel_left, map-append}
use Rattle.serde_json.specs.Written.{compact_text}
use Rattle.rb_money.specs.Settings.{Settings}
use Rattle.rb_money.specs.declared.refusal.Refusal.{Refusal}
use Rattle.rb_money.specs.declared.refusal.Refusal.TheVariants.{BadBatch, HistoryFull}
use Rattle.rb_money.specs.Refusals.{and_then}
use Rattle.rb_lines.specs.Lines.{is_long}
use Rattle.rb_lines.specs.declared.limits.TheConstants.{LINE_LIMIT}
use Rattle.rb_scratch.specs.Batches.{batch_of}
use Rattle.rb_scratch.specs.Requests.{made_of}
use Rattle.rb_scratch.specs.declared.request.TheConstants.{MOST_REQUESTS}
use Rattle.rb_shadow.specs.declared.shadow.Shadow.{Shadow}
use Rattle.rb_site.specs.declared.entry.Entry.{Entry}
use Rattle.rb_site.specs.declared.event.Event.{Event}
use Rattle.rb_site.specs.declared.event.Event.TheVariants.{Submit, Batch}
use Rattle.rb_site.specs.declared.message.Message.{Message}
use Rattle.rb_site.specs.declared.reply.Reply.{Reply}
use Rattle.rb_site.specs.declared.reply.Reply.TheVariants.{Refused}
use Rattle.rb_site.specs.Events.{Makes, MakesAll, ModelSite, Outcome, Refuses, changes, is_full, outcome_of, reply_of}
use Rattle.rb_site.specs.Events.{reply_to, sent_at, sent_by}
use Rattle.rb_site.specs.Events.{unless_full}
use Rattle.rb_site.specs.Seen.{SeenSite, entry, next_site, next_sites, state_of, stepped}
use Rattle.rb_site.specs.Unchanging.{changes_site, reply_if_changes}
use Rattle.rb_history.specs.Entries.{asked_entry_json, entry_json}
use Rattle.rb_history.specs.Adds.{Adds}
use Rattle.rb_history.specs.Replies.{reply_json}
use Rattle.rb_history.proofs.Public.Appended.{both, front_of_sum, front_stays}
use Rattle.rb_history.specs.Ids.{AskedEntry, is_refusal, may_be_asked}
use Rattle.rb_node.specs.Answers.{entry_lines, is_kept, kept_events, line_of, reply_kept}
use Rattle.rb_node.specs.Asked.{SeenAsked, asked_state, entries_alone, without_ids, with_id, with_more}
use Rattle.rb_node.specs.Steps.{IsUnchanging, Notes, RecordsIf, RecordsShort, Steps, StepsKept, if_short, without_id}
use Rattle.rb_node.proofs.Failed.{stayed}
pub use Rattle.rb_node.proofs.NextSite.{me-next, next-free, next-full}

-- ---- one event of a site without ids

-- if the history isn't full, it makes no difference for the reply which events are recorded
pub reply-free : (s : Settings) (t : ModelSite) (e : Event) → is_full s t ≡ false → reply_if_changes s t e ≡ reply_to s t e
reply-free s t e free =
    ap (λ b. reply_of s t.ops (unless_full b (outcome_of s t e))) free
    ∙ sym (ap (λ b. cond b (Refused HistoryFull) (reply_of s t.ops (outcome_of s t e))) free)

-- and it is the reply that is given
kept-free : (all : Bool) (x : SeenSite) (e : Event) → is_full x.settings (state_of x) ≡ false
    → reply_kept all x e ≡ reply_to x.settings (state_of x) e
kept-free true x e free = refl
kept-free false x e free = reply-free x.settings (state_of x) e free

-- ---- entries with ids

-- entries with an id, the id left out
pub alone-with : (id : List ℕ) (xs : List Entry) → entries_alone (map (with_id id) xs) ≡ xs
alone-with id [] = refl
alone-with id (x ∷ xs) = ap (λ l. x ∷ l) (alone-with id xs)

-- a site with more entries, the ids left out
pub more-alone : (x : SeenAsked) (id : List ℕ) (xs : List Entry)
    → (without_ids (with_more x (map (with_id id) xs))).entries ≡ (without_ids x).entries ++ xs
more-alone x id xs = map-append (λ (y : AskedEntry). y.entry) x.asked (map (with_id id) xs)
    ∙ ap (λ l. entries_alone x.asked ++ l) (alone-with id xs)

-- no entries more
pub more-none : (x : SeenAsked) → x ≡ with_more x []
more-none x = ap (λ (l : List AskedEntry). record x { asked = l }) (sym (append-nil x.asked))

-- which entries were recorded, by the site without ids
pub which : (old new : SeenAsked) (id : List ℕ) (xs ys : List Entry) → new ≡ with_more old (map (with_id id) xs)
    → (without_ids new).entries ≡ (without_ids old).entries ++ ys → xs ≡ ys
which old new id xs ys is more = append_cancel_left (without_ids old).entries xs ys
    (sym (more-alone old id xs) ∙ ap (λ (y : SeenAsked). (without_ids y).entries) (sym is) ∙ more)

-- an event's entry more
pub with_one : (x : SeenAsked) (id : List ℕ) (e : Event)
    → without_ids (with_more x (with_id id (entry e (reply_to x.settings (asked_state x) e)) ∷ [])) ≡ stepped (without_ids x) e
with_one x id e = ap with_entries (more-alone x id (entry e (reply_to x.settings (asked_state x) e) ∷ []))
  where
    with_entries : List Entry → SeenSite
    with_entries ys = record (without_ids x) { entries = ys }

-- if the history isn't full, it is the site after the event
recorded-next : (old new : SeenAsked) (id : List ℕ) (e : Event) (reply : Reply) → is_full old.settings (asked_state old) ≡ false
    → new ≡ with_more old (with_id id (entry e reply) ∷ []) → reply ≡ reply_to old.settings (asked_state old) e
    → without_ids new ≡ next_site (without_ids old) e
recorded-next old new id e reply free is given =
    ap without_ids is ∙ ap (λ r. without_ids (with_more old (with_id id (entry e r) ∷ []))) given
    ∙ with_one old id e ∙ sym (next-free (without_ids old) e free)

-- ---- entries that may have no id

-- an entry with an id
abbrev tagged-by : List ℕ → Entry → AskedEntry
tagged-by id x = record { id = id; entry = x }

-- no id stays none
pub with-none : (x : Entry) → with_id [] x ≡ without_id x
with-none x = by (may_be_asked x)
  where
    by : (b : Bool) → tagged-by (cond b [] []) x ≡ without_id x
    by true = refl
    by false = refl

-- an entry that may have no id has none
pub with-unasked : (id : List ℕ) (x : Entry) → may_be_asked x ≡ false → with_id id x ≡ without_id x
with-unasked id x none = ap (λ b. tagged-by (cond b id []) x) none

-- what would be made, and wasn't, is refused
refused-made : {A : Type 0} (s : Settings) (us : List Shadow) (r : Result A Refusal) (made : A → Outcome)
    → ((x : A) → changes (made x) ≡ true)
    → changes (and_then Refuses r made) ≡ false → is_refusal (reply_of s us (and_then Refuses r made)) ≡ true
refused-made s us (Ok x) made all none = let some : changes (made x) ≡ true = all x in cc
refused-made s us (Err why) made all none = refl

-- an event that changes nothing isn't one with an id that was made
unasked : (s : Settings) (t : ModelSite) (e : Event) → changes_site s t e ≡ false
    → may_be_asked (entry e (reply_of s t.ops (outcome_of s t e))) ≡ false
unfolding outcome_of
unasked s t (Submit r) none = ap not (refused-made s t.ops (made_of s t.me t.ops t.token r) Makes (λ v. refl) none)
unasked s t (Batch rs) none = at (not (nat_le 1 (length rs) && nat_le (length rs) MOST_REQUESTS)) none
  where
    all : Outcome
    all = and_then Refuses (batch_of s t.me t.ops t.token 0 rs) MakesAll

    at : (b : Bool) → changes (cond b (Refuses BadBatch) all) ≡ false
        → not (is_refusal (reply_of s t.ops (cond b (Refuses BadBatch) all))) ≡ false
    at true h = refl
    at false h = ap not (refused-made s t.ops (batch_of s t.me t.ops t.token 0 rs) MakesAll (λ vs. refl) h)
unasked s t e none = refl

-- so its entry has no id
no-id : (x : SeenAsked) (id : List ℕ) (y : Entry) → IsUnchanging x y → with_id id y ≡ without_id y
no-id x id y is =
    let s = x.settings in
    let t = asked_state x in
    with-unasked id y (ap (λ r. may_be_asked (entry y.event r)) is.reply
    ∙ ap (λ b. may_be_asked (entry y.event (cond b (Refused HistoryFull) (reply_of s t.ops (outcome_of s t y.event))))) is.free
    ∙ unasked s t y.event is.unchanging)

-- ---- steps

-- an event of no id was recorded, and its line written
pub recorded : (old mid new : SeenAsked) (id : List ℕ) (e : Event) (reply : Reply) (entries after : List ℕ) → id ≡ []
    → is_full old.settings (asked_state old) ≡ false → mid ≡ with_more old (with_id id (entry e reply) ∷ [])
    → reply ≡ reply_to old.settings (asked_state old) e → Notes true mid new id (entry e reply) entries after
    → Steps old new e reply entries after
recorded old mid new id e reply entries after none free is given noted =
    let x = entry e reply in
    let tag : with_id id x ≡ without_id x = ap (λ i. with_id i x) none ∙ with-none x in
    let same : new ≡ with_more old (without_id x ∷ []) = noted.0 ∙ is ∙ ap (λ y. with_more old (y ∷ [])) tag in
    record {
      site = recorded-next old new [] e reply free (same ∙ ap (λ y. with_more old (y ∷ [])) (sym (with-none x))) given;
      reply_is = given;
      recorded_are = same;
      entries_are = noted.1 ∙ ap (λ (y : SeenAsked). entries ++ line_of (asked_entry_json y.settings y.me (with_id id x))) is
          ∙ ap (λ y. entries ++ line_of (asked_entry_json old.settings old.me y)) tag
          ∙ ap (λ l. entries ++ l) (sym (append-nil (line_of (entry_json old.settings old.me x))));
    }

-- an event that a full history refuses, if all are recorded, leaves no entry
step-full : (old : SeenAsked) (id : List ℕ) (e : Event) (entries : List ℕ) → is_full old.settings (asked_state old) ≡ true
    → StepsKept true old old id e (Refused HistoryFull) entries entries
step-full old id e entries full = record {
  site = by (is_kept true (without_ids old) e);
  reply_is = sym (ap (λ b. cond b (Refused HistoryFull) (reply_of old.settings (asked_state old).ops
      (outcome_of old.settings (asked_state old) e)))
      full);
  recorded = [];
  recorded_are = more-none old;
  entries_are = sym (append-nil entries);
}
  where
    by : (b : Bool) → without_ids old ≡ next_sites (without_ids old) (cond b (e ∷ []) [])
    by true = sym (next-full (without_ids old) e full)
    by false = refl

-- what is left out if only changes are recorded stays
stays-out : (x : SeenSite) (e : Event) → (changes_site x.settings (state_of x) e && not (is_full x.settings (state_of x))) ≡ false
    → next_sites x (kept_events false x e) ≡ x
stays-out x e out = by (changes_site x.settings (state_of x) e) (is_full x.settings (state_of x)) refl out
  where
    by : (b full : Bool) → is_full x.settings (state_of x) ≡ full → (b && not full) ≡ false
        → next_sites x (cond (b || false) (e ∷ []) []) ≡ x
    by true true q h = next-full x e q
    by true false q h = absurd (cc)
    by false full q h = refl

-- an event that isn't recorded, if only changes are
step-left-out : (old mid : SeenAsked) (id : List ℕ) (e : Event) (reply : Reply) (entries : List ℕ)
    → RecordsIf old mid id e reply false → StepsKept false old mid id e reply entries entries
step-left-out old mid id e reply entries h = record {
  site = ap without_ids (h.site ∙ sym (more-none old)) ∙ sym (stays-out (without_ids old) e (sym h.recorded_is));
  reply_is = h.reply_is;
  recorded = [];
  recorded_are = h.site;
  entries_are = sym (append-nil entries);
}

-- if an event changes the site, it is recorded
next-changed : (all : Bool) (x : SeenSite) (e : Event) → changes_site x.settings (state_of x) e ≡ true
    → next_sites x (kept_events all x e) ≡ next_site x e
next-changed all x e changed = by (changes_site x.settings (state_of x) e) _ changed
  where
    by : (b rest : Bool) → b ≡ true → next_sites x (cond (b || rest) (e ∷ []) []) ≡ next_site x e
    by true rest q = refl
    by false rest q = absurd (cc)

-- an event that changes the site was recorded at a history that isn't full
record Changed (old : SeenAsked) (e : Event) (reply : Reply) : Type 0 where
  changed : changes_site old.settings (asked_state old) e ≡ true
  free : is_full old.settings (asked_state old) ≡ false
  given : reply ≡ reply_to old.settings (asked_state old) e

changed : (old mid : SeenAsked) (id : List ℕ) (e : Event) (reply : Reply) → RecordsIf old mid id e reply true → Changed old e reply
changed old mid id e reply h =
    let parts = and_parts (changes_site old.settings (asked_state old) e) _ (sym h.recorded_is) in
    let free : is_full old.settings (asked_state old) ≡ false = not-true _ parts.1 in
    record { changed = parts.0; free = free; given = h.reply_is ∙ reply-free old.settings (asked_state old) e free }

-- an event that changes the site
step-changed : (all : Bool) (old mid : SeenAsked) (id : List ℕ) (e : Event) (reply : Reply) (entries after : List ℕ)
    → RecordsIf old mid id e reply true → after ≡ entries ++ line_of (asked_entry_json mid.settings mid.me (with_id id (entry e reply)))
    → StepsKept all old mid id e reply entries after
step-changed all old mid id e reply entries after h added =
    let s = old.settings in
    let x = with_id id (entry e reply) in
    let here = changed old mid id e reply h in
    record {
      site = recorded-next old mid id e reply here.free h.site here.given ∙ sym (next-changed all (without_ids old) e here.changed);
      reply_is = here.given ∙ sym (kept-free all (without_ids old) e here.free);
      recorded = entry e reply ∷ [];
      recorded_are = h.site;
      entries_are = added ∙ ap (λ (y : SeenAsked). entries ++ line_of (asked_entry_json y.settings y.me x)) h.site
          ∙ ap (λ l. entries ++ l) (sym (append-nil (line_of (asked_entry_json s old.me x))));
    }

-- what changes nothing, of what isn't recorded
no-change : (b full : Bool) → full ≡ false → (b && not full) ≡ false → b ≡ false
no-change true true q h = absurd (cc)
no-change true false q h = absurd (cc)
no-change false full q h = refl

-- the site is as it was before an event, which changes nothing
record Unchanged (old mid : SeenAsked) (x : Entry) : Type 0 where
  same : mid ≡ old
  unchanging : IsUnchanging old x

-- so it is if the event wasn't recorded and the history isn't full
unchanged : (old mid : SeenAsked) (id : List ℕ) (e : Event) (reply : Reply) → RecordsIf old mid id e reply false
    → is_full old.settings (asked_state old) ≡ false → Unchanged old mid (entry e reply)
unchanged old mid id e reply h free = record {
  same = h.site ∙ sym (more-none old);
  unchanging = record {
    free = free;
    unchanging = no-change (changes_site old.settings (asked_state old) e) _ free (sym h.recorded_is);
    reply = h.reply_is ∙ reply-free old.settings (asked_state old) e free;
  };
}

-- an event that changes nothing, if all are recorded
step-unchanging : (old mid new : SeenAsked) (id : List ℕ) (e : Event) (reply : Reply) (entries after : List ℕ)
    → Unchanged old mid (entry e reply) → RecordsShort mid new (entry e reply) entries after
    → StepsKept true old new id e reply entries after
step-unchanging old mid new id e reply entries after is short =
    let s = old.settings in
    let x = entry e reply in
    let long = is_long (compact_text (entry_json s old.me x)) in
    let here : RecordsShort old new x entries after = rw is.same at short in
    let tags : map without_id (if_short s old.me x) ≡ map (with_id id) (if_short s old.me x) =
    tagged_if (sym (no-id old id x is.unchanging)) long in
    let kept : kept_events true (without_ids old) e ≡ cond (not long) (e ∷ []) [] =
    rw (is.unchanging.unchanging, ← is.unchanging.reply) refl in
    record {
      site = ap without_ids here.recorded_are ∙ site_if long ∙ ap (next_sites (without_ids old)) (sym kept);
      reply_is = is.unchanging.reply;
      recorded = if_short s old.me x;
      recorded_are = here.recorded_are ∙ ap (with_more old) tags;
      entries_are = here.entries_are ∙ ap (λ ys. entries ++ entry_lines s old.me ys) tags;
    }
  where
    tagged_if : {x : Entry} → without_id x ≡ with_id id x → (b : Bool)
        → map without_id (cond b [] (x ∷ [])) ≡ map (with_id id) (cond b [] (x ∷ []))
    tagged_if same true = refl
    tagged_if same false = ap (λ y. y ∷ []) same

    with_entries : List Entry → SeenSite
    with_entries ys = record (without_ids old) { entries = ys }

    site_if : (b : Bool) → without_ids (with_more old (map without_id (cond b [] (entry e reply ∷ []))))
        ≡ next_sites (without_ids old) (cond (not b) (e ∷ []) [])
    site_if true = ap without_ids (sym (more-none old))
    site_if false = ap with_entries (map-append (λ (y : AskedEntry). y.entry) old.asked (without_id (entry e reply) ∷ []))
        ∙ ap (λ r. with_entries ((without_ids old).entries ++ entry e r ∷ [])) is.unchanging.reply
        ∙ sym (next-free (without_ids old) e is.unchanging.free)

-- ---- an entry whose line may be too long

-- the line of an entry, added to others, as long as it is
length-of-line : (entries added line : List ℕ) → added ≡ entries ++ line → length added - length entries ≡ length line
length-of-line entries added line is =
    let whole : length added ≡ length entries + length line = ap length is ∙ length-append entries line in omega arith

-- the entry's line, at what the site knows of itself
line-at : (s : Settings) (n : ℕ) (x : Entry) (config : Settings) (me : ℕ) (entries added : List ℕ) → config ≡ s → me ≡ n
    → added ≡ entries ++ compact_text (entry_json config me x) → added ≡ entries ++ compact_text (entry_json s n x)
line-at s n x config me entries added same number is = is
    ∙ ap (λ k. entries ++ compact_text (entry_json k me x)) same ∙ ap (λ k. entries ++ compact_text (entry_json s k x)) number

-- an entry whose line isn't too long is recorded
short-recorded : (old new : SeenAsked) (x : Entry) (config : Settings) (me : ℕ) (entries added after : List ℕ)
    → new ≡ with_more old (without_id x ∷ []) → config ≡ old.settings → me ≡ old.me
    → added ≡ entries ++ compact_text (entry_json config me x) → length added - length entries ≤ LINE_LIMIT
    → after ≡ added ++ 10 ∷ [] → RecordsShort old new x entries after
short-recorded old new x config me entries added after now is number line short fed =
    let text = compact_text (entry_json old.settings old.me x) in
    let here : added ≡ entries ++ text = line-at old.settings old.me x config me entries added is number line in
    let count : length added - length entries ≡ length text = length-of-line entries added text here in
    let fits : is_long text ≡ false = grind (arith, nat_tests) in
    record {
      recorded_are = now ∙ ap (λ b. with_more old (map without_id (cond b [] (x ∷ [])))) (sym fits);
      entries_are = fed ∙ ap (λ l. l ++ 10 ∷ []) here ∙ append_assoc entries text (10 ∷ [])
          ∙ ap (λ l. entries ++ l) (sym (append-nil (text ++ 10 ∷ [])))
          ∙ ap (λ b. entries ++ entry_lines old.settings old.me (map without_id (cond b [] (x ∷ [])))) (sym fits);
    }

-- ---- what follows an event

-- if all are recorded and none is refused, the history isn't full
pub not-full : (all full : Bool) → false ≡ (all && full) → all ≡ true → full ≡ false
not-full true full spare each = sym spare
not-full false full spare each = absurd (cc)

-- an event that wasn't recorded, though the history isn't full, changes nothing
pub still-unchanging : (recorded : Bool) (old mid : SeenAsked) (id : List ℕ) (e : Event) (reply : Reply)
    → RecordsIf old mid id e reply recorded → is_full old.settings (asked_state old) ≡ false → recorded ≡ false
    → IsUnchanging mid (entry e reply)
still-unchanging true old mid id e reply h free out = absurd (cc)
still-unchanging false old mid id e reply h free out =
    let here = unchanged old mid id e reply h free in subst (λ y. IsUnchanging y (entry e reply)) (sym here.same) here.unchanging

-- an event that was recorded
pub recorded-now : (recorded : Bool) (old mid : SeenAsked) (id : List ℕ) (e : Event) (reply : Reply)
    → RecordsIf old mid id e reply recorded → true ≡ recorded → (mid ≡ with_more old (with_id id (entry e reply) ∷ []))
    × (reply ≡ reply_to old.settings (asked_state old) e)
recorded-now true old mid id e reply h is = (h.site, (changed old mid id e reply h).given)
recorded-now false old mid id e reply h is = absurd (cc)

-- and one that wasn't, and is recorded then without an id
pub recorded-then : {A E P : Type 0} (r : Result A E) (recorded : Bool) (old mid new : SeenAsked) (id : List ℕ) (e : Event) (reply : Reply)
    → RecordsIf old mid id e reply recorded → is_full old.settings (asked_state old) ≡ false → false ≡ recorded → P
    → OnOk r (new ≡ with_more mid (without_id (entry e reply) ∷ [])) → OnErr r (new ≡ mid)
    → OnOk r ((new ≡ with_more old (with_id id (entry e reply) ∷ [])) × (reply ≡ reply_to old.settings (asked_state old) e) × P)
    × OnErr r (new ≡ old)
recorded-then r true old mid new id e reply h free out p ok err = absurd (cc)
recorded-then (Ok x) false old mid new id e reply h free out p ok err =
    let here = unchanged old mid id e reply h free in (
      (
        ok ∙ ap (λ y. with_more y (without_id (entry e reply) ∷ [])) here.same
            ∙ ap (λ y. with_more old (y ∷ [])) (sym (no-id old id (entry e reply) here.unchanging)),
        here.unchanging.reply,
        p,
      ),
      tt,
    )
recorded-then (Err x) false old mid new id e reply h free out p ok err = (tt, err ∙ (unchanged old mid id e reply h free).same)

-- a step, from what follows its event
pub stepped-by : (all recorded : Bool) (old mid new : SeenAsked) (id : List ℕ) (e : Event) (reply : Reply) (entries after : List ℕ)
    → RecordsIf old mid id e reply recorded → false ≡ (all && is_full old.settings (asked_state old))
    → (recorded ≡ false → all ≡ true) → Notes recorded mid new id (entry e reply) entries after
    → StepsKept all old new id e reply entries after
stepped-by all true old mid new id e reply entries after h spare each noted =
    subst (λ y. StepsKept all old y id e reply entries after) (sym noted.0) (step-changed all old mid id e reply entries after h noted.1)
stepped-by true false old mid new id e reply entries after h spare each short =
    step-unchanging old mid new id e reply entries after (unchanged old mid id e reply h (sym spare)) short
stepped-by false false old mid new id e reply entries after h spare each noted = absurd (let out = each refl in cc)

-- a step of an event that isn't recorded
pub left-out : (all recorded : Bool) (old mid : SeenAsked) (id : List ℕ) (e : Event) (reply : Reply) (entries : List ℕ)
    → RecordsIf old mid id e reply recorded → recorded ≡ false → all ≡ false → StepsKept all old mid id e reply entries entries
left-out false false old mid id e reply entries h out none = step-left-out old mid id e reply entries h
left-out all recorded old mid id e reply entries h out none = absurd (cc)

-- and after its reply's text
pub told-step : {A E : Type 0} (F : Type 0) (r : Result A E) (all now : Bool) (old mid new : SeenAsked) (id : List ℕ) (e : Event)
    (reply : Reply) (before sent messages : List Message) (a b k l : List ℕ)
    → RecordsIf old mid id e reply now → false ≡ (all && is_full old.settings (asked_state old)) → (now ≡ false → all ≡ true)
    → before ≡ messages
    → MatchResult r (λ _. Notes now mid new id (entry e reply) k l × (b ≡ a ++ compact_text (reply_json reply))
    × (sent ≡ before)) (λ _. F)
    → MatchResult r (λ _. (y : Reply) × StepsKept all old new id e y k l × (b ≡ a ++ compact_text (reply_json y)) × (sent ≡ messages))
    (λ _. F)
told-step F (Ok v) all now old mid new id e reply before sent messages a b k l is spare each posted h =
    (reply, stepped-by all now old mid new id e reply k l is spare each h.0, h.1, h.2 ∙ posted)
told-step F (Err v) all now old mid new id e reply before sent messages a b k l is spare each posted h = h

-- if all are recorded and the history is full, each is refused
pub refused-by : (all : Bool) (old : SeenAsked) (id : List ℕ) (e : Event) (entries : List ℕ)
    → true ≡ (all && is_full old.settings (asked_state old)) → StepsKept all old old id e (Refused HistoryFull) entries entries
refused-by true old id e entries full = step-full old id e entries (sym full)
refused-by false old id e entries full = absurd (cc)

-- the reply of a step that adds no entry, after a text
pub told : {A E Q : Type 0} (r : Result A E) (P : Reply → Type 0) (reply : Reply) (a b k : List ℕ) → P reply → Q
    → Adds r a b (compact_text (reply_json reply))
    → MatchResult r (λ _. (y : Reply) × P y × (b ≡ a ++ compact_text (reply_json y)) × Q)
    (λ _. (take (length a) b ≡ a) × (take (length k) k ≡ k))
told (Ok v) P reply a b k p q h = (reply, p, h, q)
told (Err v) P reply a b k p q h = (h, stayed k)

-- and sends nothing
pub sends-none : (all : Bool) (s : Settings) (t : ModelSite) (e : Event) → true ≡ (all && is_full s t) → sent_at s t e ≡ []
sends-none true s t e full = ap (λ b. cond b [] (sent_by (outcome_of s t e))) (sym full)
sends-none false s t e full = absurd (cc)

-- the line of an entry, by whether it may have an id
pub tagged : {A E : Type 0} (r : Result A E) (s : Settings) (me : ℕ) (id : List ℕ) (x : Entry) (old new : List ℕ) (may : Bool)
    → may ≡ may_be_asked x → Adds r old new (compact_text (asked_entry_json s me (tagged-by (cond may id []) x)))
    → Adds r old new (compact_text (asked_entry_json s me (with_id id x)))
tagged r s me id x old new may is h =
    subst (λ (b : Bool). Adds r old new (compact_text (asked_entry_json s me (tagged-by (cond b id []) x)))) is h

-- the line of a recorded event's entry, with its line feed
pub noted-line : {A E : Type 0} (r : Result A E) (recorded : Bool) (old new : SeenAsked) (id : List ℕ) (x : Entry) (config : Settings)
    (me : ℕ) (before sent : List Message) (entries added after : List ℕ) → true ≡ recorded → new ≡ old → sent ≡ before
    → config ≡ old.settings → me ≡ old.me → added ≡ entries ++ compact_text (asked_entry_json config me (with_id id x))
    → Adds r added after (codes "\n")
    → MatchResult r (λ _. Notes recorded old new id x entries after × (sent ≡ before)) (λ _. take (length entries) after ≡ entries)
noted-line (Ok v) true old new id x config me before sent entries added after is same kept same_config number line fed =
    let y = with_id id x in (
      (
        same,
        both entries added after _ (codes "\n") line fed
            ∙ ap (λ s. entries ++ line_of (asked_entry_json s me y)) same_config
            ∙ ap (λ n. entries ++ line_of (asked_entry_json old.settings n y)) number,
      ),
      kept,
    )
noted-line (Ok y) false old new id x config me before sent entries added after is same kept same_config number line fed = absurd (cc)
noted-line (Err y) recorded old new id x config me before sent entries added after is same kept same_config number line fed =
    front_stays entries added after _ line fed

-- an event that wasn't recorded, and is now
pub noted-short : {A E : Type 0} (P : Type 0) (r : Result A E) (recorded : Bool) (old new : SeenAsked) (id : List ℕ) (x : Entry)
    (entries after : List ℕ) → recorded ≡ false
    → MatchResult r (λ _. RecordsShort old new x entries after × P) (λ _. take (length entries) after ≡ entries)
    → MatchResult r (λ _. Notes recorded old new id x entries after × P) (λ _. take (length entries) after ≡ entries)
noted-short P r false old new id x entries after out h = h
noted-short P r true old new id x entries after out h = absurd (cc)

-- an entry whose line isn't too long was recorded, or there was no memory
pub recorded-short : {A E : Type 0} (r : Result A E) (inside old new : SeenAsked) (x : Entry) (config : Settings) (me : ℕ)
    (before sent : List Message) (entries added after : List ℕ) → inside ≡ old → sent ≡ before → config ≡ old.settings → me ≡ old.me
    → added ≡ entries ++ compact_text (entry_json config me x) → length added - length entries ≤ LINE_LIMIT
    → after ≡ added ++ 10 ∷ [] → OnOk r (new ≡ with_more inside (without_id x ∷ []))
    → MatchResult r (λ _. RecordsShort old new x entries after × (sent ≡ before)) (λ _. take (length entries) after ≡ entries)
recorded-short (Ok v) inside old new x config me before sent entries added after seen kept is number line short fed now = (
  short-recorded old new x config me entries added after (now ∙ ap (λ y. with_more y (without_id x ∷ [])) seen) is
      number line short fed,
  kept,
)
recorded-short (Err v) inside old new x config me before sent entries added after seen kept is number line short fed now =
    front_of_sum entries after _ (both entries added after _ _ line fed)

-- the line of an entry was added after its reply's text
pub finished : {A E : Type 0} (r : Result A E) (P Q : Type 0) (a b text k l : List ℕ) → b ≡ a ++ text
    → MatchResult r (λ _. P × Q) (λ _. take (length k) l ≡ k)
    → MatchResult r (λ _. P × (b ≡ a ++ text) × Q) (λ _. (take (length a) b ≡ a) × (take (length k) l ≡ k))
finished (Ok v) P Q a b text k l is h = (h.0, is, h.1)
finished (Err v) P Q a b text k l is h = (front_of_sum a b text is, h)
