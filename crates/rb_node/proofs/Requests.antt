-- The requests that a site keeps are those that it knows, and it keeps them as it goes on.
use Rattle.std.proofs.Common.{◌≡◌, ◌≢◌, ◌⊎◌, inl, inr, ℕ, ◌-◌, Bool, true, false, cond, not, ◌&&◌, nat_le, List, [], ◌∷◌, ◌++◌, length, map}
use Rattle.std.proofs.Common.{take, drop, refl, sym, ap, subst, ◌∙◌, append_assoc, append-nil, Bor}
use Rattle.std.specs.Prelude.{bytes_eq, IfSome, MatchOption, OnOk, option_copied, Option, Some, None, Result, Ok, Err}
use Rattle.std.proofs.lemmas.Bool.{and_parts, not-true}
use Rattle.std.specs.Cmp.Lexicographic.{nat_list_eq_equiv}
use Rattle.std.specs.Map.{lookup}
use Rattle.std.specs.Result.{IsOk}
use Rattle.std.specs.declared.alloc.Global.{Global}
use Rattle.std.specs.declared.vec.Vec.{Vec}
use Rattle.std.proofs.lemmas.List.{map-append}
use Rattle.rb_money.specs.Refusals.{and_then}
use Rattle.rb_money.specs.Settings.{Settings}
use Rattle.rb_money.specs.declared.refusal.Refusal.{Refusal}
use Rattle.rb_money.specs.declared.refusal.Refusal.TheVariants.{BadBatch, HistoryFull}
use Rattle.rb_scratch.specs.Batches.{batch_of, names_of_all}
use Rattle.rb_scratch.specs.Requests.{made_of}
use Rattle.rb_scratch.specs.declared.request.Request.{Request}
use Rattle.rb_scratch.specs.declared.request.TheConstants.{MOST_REQUESTS}
use Rattle.rb_shadow.specs.declared.shadow.Shadow.{Shadow}
use Rattle.rb_site.specs.declared.entry.Entry.{Entry}
use Rattle.rb_site.specs.declared.event.Event.{Event}
use Rattle.rb_site.specs.declared.event.Event.TheVariants.{Submit, Batch}
use Rattle.rb_site.specs.declared.message.Message.{Message}
use Rattle.rb_site.specs.declared.message.Message.TheVariants.{Shadow as ShadowMessage}
use Rattle.rb_site.specs.declared.reply.Reply.{Reply}
use Rattle.rb_site.specs.declared.reply.Reply.TheVariants.{Names as NamesMade, Refused}
use Rattle.rb_site.specs.Events.{ModelSite, Outcome, Makes, MakesAll, Refuses, after_event, after_events, changed, first_site, is_full}
use Rattle.rb_site.specs.Events.{outcome_of, reply_of, reply_to, sent_at, sent_by}
use Rattle.rb_site.specs.Unchanging.{changes_site, next_if_changes}
use Rattle.rb_site.specs.Histories.{events_of}
use Rattle.rb_site.specs.Seen.{Replays, SeenSite, entry, next_site, state_of, stepped}
use Rattle.rb_site.proofs.Public.Seen.{replays-push, settings-next, state-stepped}
use Rattle.rb_history.specs.Fits.{Each}
use Rattle.rb_history.specs.Ids.{AskedEntry, is_refusal, may_be_asked, may_have_id}
use Rattle.rb_node.specs.Asked.{Known, SeenAsked, entries_alone, known_from, known_of, without_ids, with_id, with_more}
use Rattle.rb_node.specs.Index.{messages_of}
use Rattle.rb_node.specs.Kept.{IsKeeping, IsKeptAs, Requests, by_bytes, entry_erased, find_request, kept_from, kept_if_asked, names_sent}
use Rattle.rb_node.specs.Kept.{reply_made, request, request_noted, known_again}
use Rattle.rb_node.specs.declared.erased_asked.ErasedAsked.{ErasedAsked}
use Rattle.rb_node.specs.declared.known_request.KnownRequest.{KnownRequest}
use Rattle.rb_node.specs.declared.sent_entry.Sending.TheVariants.{Operations}
use Rattle.rb_node.proofs.NextSite.{me-next, next-free}
use Rattle.rb_node.proofs.SentAgain.{Begins, between, later_ops}

-- ---- a request that was made

-- the names of operations, by the messages that send them
names_all : (vs : List Shadow) → names_sent (map ShadowMessage vs) ≡ names_of_all vs
names_all [] = refl
names_all (v ∷ vs) = ap (λ l. v.name ∷ l) (names_all vs)

-- a reply that is no refusal refuses nothing
no_refusal : (reply : Reply) (why : Refusal) → not (is_refusal reply) ≡ true → reply ≡ Refused why → ⊥
no_refusal reply why may is = let q : false ≡ true = ap (λ r. not (is_refusal r)) (sym is) ∙ may in absurd (cc)

-- the operations that were applied with an event are sent: these messages, of the operations us
abbrev sent_with : List Shadow → ModelSite → ModelSite → List Message
sent_with us t u = messages_of us (Operations (length t.ops) (length u.ops))

-- a request that was made sent these messages, and was replied to as one that did
abbrev IsMade : List Shadow → ModelSite → ModelSite → Event → Reply → List Message → Type 0
IsMade us t u e reply sent = (sent ≡ sent_with us t u) × (reply ≡ reply_made e sent)

-- the messages of operations that were put after those before
with_behind : (us : List Shadow) (t : ModelSite) (vs : List Shadow) → Begins (t.ops ++ vs) us
    → map ShadowMessage (take (length (t.ops ++ vs) - length t.ops) (drop (length t.ops) us)) ≡ map ShadowMessage vs
with_behind us t vs all =
    ap (λ l. map ShadowMessage (take (length (t.ops ++ vs) - length t.ops) (drop (length t.ops) l))) all.1
    ∙ ap (map ShadowMessage) (between t.ops vs all.0)

-- the site, the reply and the messages after an outcome, at a full history or another
abbrev after_outcome : Bool → ModelSite → Event → Outcome → ModelSite
after_outcome full t e o = cond full t (record (changed t o) { history = t.history ++ e ∷ [] })

abbrev reply_after : Bool → Settings → ModelSite → Outcome → Reply
reply_after full s t o = cond full (Refused HistoryFull) (reply_of s t.ops o)

abbrev sent_after : Bool → Outcome → List Message
sent_after full o = cond full [] (sent_by o)

-- a request
submitted : (s : Settings) (t : ModelSite) (us : List Shadow) (r : Request) (reply : Reply) (full : Bool) (q : Result Shadow Refusal) →
    let e = Submit r in let o = and_then Refuses q Makes in
    not (is_refusal reply) ≡ true → reply ≡ reply_after full s t o → Begins (after_outcome full t e o).ops us
    → IsMade us t (after_outcome full t e o) e reply (sent_after full o)
submitted s t us r reply true q may is all = absurd (no_refusal reply HistoryFull may is)
submitted s t us r reply false (Err why) may is all = absurd (no_refusal reply why may is)
submitted s t us r reply false (Ok v) may is all =
    (sym (with_behind us t (v ∷ []) all), is)

-- a batch of them
batched : (s : Settings) (t : ModelSite) (us : List Shadow) (rs : List Request) (reply : Reply) (full bad : Bool)
    (q : Result (List Shadow) Refusal) →
    let e = Batch rs in let o = cond bad (Refuses BadBatch) (and_then Refuses q MakesAll) in
    not (is_refusal reply) ≡ true → reply ≡ reply_after full s t o → Begins (after_outcome full t e o).ops us
    → IsMade us t (after_outcome full t e o) e reply (sent_after full o)
batched s t us rs reply true bad q may is all = absurd (no_refusal reply HistoryFull may is)
batched s t us rs reply false true q may is all = absurd (no_refusal reply BadBatch may is)
batched s t us rs reply false false (Err why) may is all = absurd (no_refusal reply why may is)
batched s t us rs reply false false (Ok vs) may is all =
    (sym (with_behind us t vs all), is ∙ ap NamesMade (sym (names_all vs)))

-- an event whose entry may have an id
made_at : (s : Settings) (t : ModelSite) (us : List Shadow) (e : Event) (reply : Reply) → may_be_asked (entry e reply) ≡ true
    → reply ≡ reply_to s t e → Begins (after_event s t e).ops us → IsMade us t (after_event s t e) e reply (sent_at s t e)
unfolding outcome_of
made_at s t us (Submit r) reply may is all = submitted s t us r reply (is_full s t) (made_of s t.me t.ops t.token r) may is all
made_at s t us (Batch rs) reply may is all =
    batched s t us rs reply (is_full s t) (not (nat_le 1 (length rs) && nat_le (length rs) MOST_REQUESTS))
    (batch_of s t.me t.ops t.token 0 rs) may is all
made_at s t us e reply may is all = absurd (cc)

-- ---- what is known of an id

-- an entry has an id only if it may have one
abbrev pub HasItsId : AskedEntry → Type 0
HasItsId x = (x.id ≡ []) ⊎ (may_be_asked x.entry ≡ true)

-- so it is if an id is given to an entry
pub has_id : (id : List ℕ) (x : Entry) → HasItsId (with_id id x)
has_id id x = by (may_be_asked x) refl
  where
    by : (b : Bool) → may_be_asked x ≡ b → (cond b id [] ≡ []) ⊎ (may_be_asked x ≡ true)
    by true q = inr q
    by false q = inl refl

-- and among entries of which nothing is kept
pub have_ids : (items : List ErasedAsked) → Each HasItsId (map entry_erased items)
have_ids [] = tt
have_ids (x ∷ xs) = (has_id x.id.value (record { event = x.event.value; reply = x.reply.value }), have_ids xs)

-- what is known of an id, by what is kept of it, of a site that applied the operations us
abbrev IsKnownBy : List Shadow → Option KnownRequest → Option Known → Type 0
IsKnownBy us None known = known ≡ None
IsKnownBy us (Some r) known = known ≡ Some (known_again us r)

-- an entry more in front
found_behind : (s : Settings) (t : ModelSite) (us : List Shadow) (b : ℕ) (bs own : List ℕ) (x : Entry) (xs : List AskedEntry) →
    HasItsId (record { id = own; entry = x }) → x.reply ≡ reply_to s t x.event → Begins (after_event s t x.event).ops us
    → IsKnownBy us (find_request (b ∷ bs) (kept_from s (after_event s t x.event) xs)) (known_from s (after_event s t x.event) xs (b ∷ bs))
    → IsKnownBy us (find_request (b ∷ bs) (kept_from s t (record { id = own; entry = x } ∷ xs)))
    (known_from s t (record { id = own; entry = x } ∷ xs) (b ∷ bs))
found_behind s t us b bs [] x xs has is all rest = rest
found_behind s t us b bs (c ∷ cs) x xs (inl none) is all rest = absurd (cc)
found_behind s t us b bs (c ∷ cs) x xs (inr may) is all rest =
    subst (λ q. IsKnownBy us (cond (bytes_eq (b ∷ bs) (c ∷ cs)) (Some kept) (find_request (b ∷ bs) (kept_from s u xs)))
    (cond q (Some known) (known_from s u xs (b ∷ bs)))) (nat_list_eq_equiv.symm (b ∷ bs) (c ∷ cs)) (by (bytes_eq (b ∷ bs) (c ∷ cs)))
  where
    u : ModelSite
    u = after_event s t x.event

    kept : KnownRequest
    kept = request x.event (length t.ops) (length u.ops)

    known : Known
    known = record { event = x.event; reply = x.reply; sent = sent_at s t x.event }

    made : IsMade us t u x.event x.reply (sent_at s t x.event)
    made = made_at s t us x.event x.reply may is all

    by : (q : Bool) → IsKnownBy us (cond q (Some kept) (find_request (b ∷ bs) (kept_from s u xs)))
        (cond q (Some known) (known_from s u xs (b ∷ bs)))
    by true =
        ap (λ r. Some (let k : Known = record { event = x.event; reply = r; sent = sent_at s t x.event } in k)) made.1
        ∙ ap (λ ms. Some (let k : Known = record { event = x.event; reply = reply_made x.event ms; sent = ms } in k)) made.0
    by false = rest

kept_is_known : (s : Settings) (t : ModelSite) (us : List Shadow) (b : ℕ) (bs : List ℕ) (xs : List AskedEntry) → Each HasItsId xs
    → Replays s t (entries_alone xs) → Begins (after_events s t (events_of (entries_alone xs))).ops us
    → IsKnownBy us (find_request (b ∷ bs) (kept_from s t xs)) (known_from s t xs (b ∷ bs))
kept_is_known s t us b bs [] has replays all = refl
kept_is_known s t us b bs (x ∷ xs) has replays all =
    found_behind s t us b bs x.id x.entry xs has.0 replays.0 (later_ops s t x.entry (entries_alone xs) us all)
    (kept_is_known s (after_event s t x.entry.event) us b bs xs has.1 replays.1 all)

-- nothing is kept under no id
none_in_front : (own : List ℕ) (e : Event) (first end : ℕ) (ks : Requests) → find_request [] ks ≡ None
    → find_request [] (kept_if_asked own e first end ++ ks) ≡ None
none_in_front [] e first end ks none = none
none_in_front (b ∷ bs) e first end ks none = none

none_without : (s : Settings) (t : ModelSite) (xs : List AskedEntry) → find_request [] (kept_from s t xs) ≡ None
none_without s t [] = refl
none_without s t (x ∷ xs) = none_in_front x.id x.entry.event (length t.ops) (length (after_event s t x.entry.event).ops)
    (kept_from s (after_event s t x.entry.event) xs) (none_without s (after_event s t x.entry.event) xs)

-- the requests that are found among the keys of a map
pub found : (id : List ℕ) (es : List (Vec ℕ Global × KnownRequest)) → lookup (λ (k : Vec ℕ Global). bytes_eq id k.items) es
    ≡ find_request id (map (λ (e : Vec ℕ Global × KnownRequest). (e.0.items, e.1)) es)
found id [] = refl
found id (e ∷ es) = ap (λ o. cond (bytes_eq id e.0.items) (Some e.1) o) (found id es)

-- ---- what is kept, as the site goes on

-- the site, with the ids of its entries
abbrev pub seen : List ℕ → SeenSite → List AskedEntry → SeenAsked
seen bank x asked = record { settings = x.settings; bank = bank; me = x.me; asked = asked }

-- without its ids it is the site
pub same_site : (x : SeenSite) (asked : List AskedEntry) (kept : Requests) → IsKeeping x asked kept → without_ids (seen [] x asked) ≡ x
same_site x asked kept is = ap (λ es. let y : SeenSite = record { settings = x.settings; me = x.me; entries = es } in y) is.entries

kept_as_known : (x : SeenSite) (asked : List AskedEntry) (kept : Requests) (id : List ℕ) → Each HasItsId asked → IsKeeping x asked kept
    → IsKnownBy (state_of (without_ids (seen [] x asked))).ops (find_request id kept) (known_of (seen [] x asked) id)
kept_as_known x asked kept [] has is =
    subst (λ o. IsKnownBy (state_of (without_ids (seen [] x asked))).ops o None)
    (sym (ap (find_request []) is.requests ∙ none_without x.settings (first_site x.me) asked)) refl
kept_as_known x asked kept (b ∷ bs) has is =
    let us = (state_of (without_ids (seen [] x asked))).ops in
    subst (λ ks. IsKnownBy us (find_request (b ∷ bs) ks) (known_of (seen [] x asked) (b ∷ bs))) (sym is.requests)
    (kept_is_known x.settings (first_site x.me) us b bs asked has
    (subst (Replays x.settings (first_site x.me)) (sym is.entries) is.replays) ([], sym (append-nil us)))

lent : (x : SeenAsked) (id : List ℕ) (o : Option (Bor KnownRequest))
    → IsKnownBy (state_of (without_ids x)).ops (option_copied o) (known_of x id)
    → MatchOption o (known_of x id ≡ None) (λ kept. IsKeptAs x id kept.now)
lent x id None h = h
lent x id (Some k) h = h

-- what is found under an id is what is kept of the request
pub known_found : {bank : List ℕ} (x : SeenSite) (asked : List AskedEntry) (kept : Requests) (view : SeenAsked) (id : List ℕ)
    (o : Option (Bor KnownRequest)) → Each HasItsId asked → IsKeeping x asked kept → seen bank x asked ≡ view
    → option_copied o ≡ find_request id kept → MatchOption o (known_of view id ≡ None) (λ k. IsKeptAs view id k.now)
known_found {bank} x asked kept view id o has is at e =
    subst (λ (v : SeenAsked). MatchOption o (known_of v id ≡ None) (λ k. IsKeptAs v id k.now)) at
    (lent (seen bank x asked) id o (subst (λ p. IsKnownBy (state_of (without_ids (seen [] x asked))).ops p
    (known_of (seen [] x asked) id)) (sym e)
    (kept_as_known x asked kept id has is)))

-- under an id that isn't known nothing is found
unknown_kept : (us : List Shadow) (o : Option KnownRequest) (known : Option Known) → IsKnownBy us o known → known ≡ None → o ≡ None
unknown_kept us None known h none = refl
unknown_kept us (Some r) known h none = absurd (let q : None ≡ Some (known_again us r) = sym none ∙ h in cc)

pub not_found : {bank : List ℕ} (x : SeenSite) (asked : List AskedEntry) (kept : Requests) (view : SeenAsked)
    (id : List ℕ) → Each HasItsId asked
    → IsKeeping x asked kept → seen bank x asked ≡ view → known_of view id ≡ None → find_request id kept ≡ None
not_found x asked kept view id has is at none =
    unknown_kept (state_of (without_ids (seen [] x asked))).ops (find_request id kept) (known_of (seen [] x asked) id)
    (kept_as_known x asked kept id has is) (ap (λ (v : SeenAsked). known_of v id) at ∙ none)

-- the requests with an entry more after them
kept_behind : (s : Settings) (t : ModelSite) (xs : List AskedEntry) (x : AskedEntry) →
    let u = after_events s t (events_of (entries_alone xs)) in
    kept_from s t (xs ++ x ∷ []) ≡ kept_from s t xs
    ++ kept_if_asked x.id x.entry.event (length u.ops) (length (after_event s u x.entry.event).ops)
kept_behind s t [] x = append-nil (kept_if_asked x.id x.entry.event (length t.ops) (length (after_event s t x.entry.event).ops))
kept_behind s t (y ∷ xs) x =
    let v = after_event s t y.entry.event in
    let u = after_events s v (events_of (entries_alone xs)) in
    let own = kept_if_asked y.id y.entry.event (length t.ops) (length v.ops) in
    ap (λ l. own ++ l) (kept_behind s v xs x)
    ∙ sym (append_assoc own (kept_from s v xs)
    (kept_if_asked x.id x.entry.event (length u.ops) (length (after_event s u x.entry.event).ops)))

-- an entry more, with its id
keep_more : (x : SeenSite) (asked : List AskedEntry) (kept : Requests) (e : Event) (id : List ℕ) → IsKeeping x asked kept →
    let y = with_id id (entry e (reply_to x.settings (state_of x) e)) in
    IsKeeping (stepped x e) (asked ++ y ∷ []) (kept ++ kept_if_asked y.id e (length (state_of x).ops) (length (state_of (stepped x e)).ops))
keep_more x asked kept e id is =
    let y = with_id id (entry e (reply_to x.settings (state_of x) e)) in
    let u = after_events x.settings (first_site x.me) (events_of (entries_alone asked)) in
    let same : u ≡ state_of x = ap (λ es. after_events x.settings (first_site x.me) (events_of es)) is.entries in
    record {
      entries = map-append (λ (z : AskedEntry). z.entry) asked (y ∷ []) ∙ ap (λ es. es ++ y.entry ∷ []) is.entries;
      replays = replays-push x.settings (first_site x.me) x.entries e is.replays;
      requests = ap (λ ks. ks ++ kept_if_asked y.id e (length (state_of x).ops) (length (state_of (stepped x e)).ops)) is.requests
          ∙ ap (λ (v : ModelSite). kept_from x.settings (first_site x.me) asked
          ++ kept_if_asked y.id e (length (state_of x).ops) (length v.ops)) (state-stepped x e)
          ∙ ap (λ (v : ModelSite). kept_from x.settings (first_site x.me) asked
          ++ kept_if_asked y.id e (length v.ops) (length (after_event x.settings v e).ops)) (sym same)
          ∙ sym (kept_behind x.settings (first_site x.me) asked y);
    }

-- ---- what is noted of an event

-- there are copies of the id and the event, or there is no id, or the event may have none
abbrev pub AreCopies : Option (Vec ℕ Global × Event) → List ℕ → Event → Type 0
AreCopies copies id e =
    MatchOption copies ((id ≡ []) ⊎ (may_have_id e ≡ false)) (λ p. (id ≢ []) × (p.0.items ≡ id) × (p.1 ≡ e))

noted_id : (made : Bool) (id : List ℕ) (e : Event) (first end : ℕ) → id ≢ [] →
    cond made ((id, request e first end) ∷ []) [] ≡ kept_if_asked (cond made id []) e first end
noted_id true [] e first end some = absurd (some refl)
noted_id true (b ∷ bs) e first end some = refl
noted_id false id e first end some = refl

noted_none : (made : Bool) (id : List ℕ) (e : Event) (first end : ℕ) → id ≡ [] → [] ≡ kept_if_asked (cond made id []) e first end
noted_none true id e first end none = ap (λ t. kept_if_asked t e first end) (sym none)
noted_none false id e first end none = refl

-- the request that is noted is that of the entry with its id
request_is : (copies : Option (Vec ℕ Global × Event)) (id : List ℕ) (e : Event) (reply : Reply) (first end : ℕ) → AreCopies copies id e
    → request_noted copies reply first end ≡ kept_if_asked (with_id id (entry e reply)).id e first end
request_is None id e reply first end (inl none) = noted_none (may_be_asked (entry e reply)) id e first end none
request_is None id e reply first end (inr may) =
    ap (λ b. kept_if_asked (cond (b && not (is_refusal reply)) id []) e first end) (sym may)
request_is (Some p) id e reply first end is =
    ap (λ t. cond (may_be_asked (entry p.1 reply)) ((t, request p.1 first end) ∷ []) []) is.1
    ∙ ap (λ f. cond (may_be_asked (entry f reply)) ((id, request f first end) ∷ []) []) is.2
    ∙ noted_id (may_be_asked (entry e reply)) id e first end is.0

-- an event was recorded and noted with its id
pub record IsNotedAs (x new : SeenSite) (asked after : List AskedEntry) (kept kept_after : Requests) (id : List ℕ) (e : Event)
    (reply : Reply) : Type 0 where
  pub free : is_full x.settings (state_of x) ≡ false
  pub site : new ≡ next_site x e
  pub reply_is : reply ≡ reply_to x.settings (state_of x) e
  pub entry_noted : after ≡ asked ++ with_id id (entry e reply) ∷ []
  pub copies : Option (Vec ℕ Global × Event)
  pub are_copies : AreCopies copies id e
  pub first : ℕ
  pub first_is : first ≡ length (state_of x).ops
  pub end : ℕ
  pub end_is : end ≡ length (state_of new).ops
  pub request_is_noted : kept_after ≡ kept ++ request_noted copies reply first end

-- the site keeps what it has to
pub still_keeps : (x new : SeenSite) (asked after : List AskedEntry) (kept kept_after : Requests) (id : List ℕ) (e : Event)
    (reply : Reply) → IsKeeping x asked kept → IsNotedAs x new asked after kept kept_after id e reply
    → IsKeeping new after kept_after
still_keeps x new asked after kept kept_after id e reply is h =
    let y = with_id id (entry e (reply_to x.settings (state_of x) e)) in
    let step : new ≡ stepped x e = h.site ∙ next-free x e h.free in
    let entries : after ≡ asked ++ y ∷ [] = h.entry_noted ∙ ap (λ r. asked ++ with_id id (entry e r) ∷ []) h.reply_is in
    let requests : kept_after ≡ kept ++ kept_if_asked y.id e (length (state_of x).ops) (length (state_of (stepped x e)).ops) =
    rw (h.request_is_noted, request_is h.copies id e reply h.first h.end h.are_copies, h.reply_is, h.first_is, h.end_is, step) in
    rw (step, entries, requests) (keep_more x asked kept e id is)

-- the site as clients see it has the entry with its id more
pub next_seen : {bank : List ℕ} (x new : SeenSite) (asked after : List AskedEntry) (kept kept_after : Requests)
    (view : SeenAsked) (id : List ℕ)
    (e : Event) (reply : Reply) → seen bank x asked ≡ view → IsNotedAs x new asked after kept kept_after id e reply
    → seen bank new after ≡ with_more view (with_id id (entry e reply) ∷ [])
next_seen x new asked after kept kept_after view id e reply at h =
    rw (h.site, settings-next x e, me-next x e, h.entry_noted, ← at)

-- a request that is noted isn't kept yet
pub copies_new : (copies : Option (Vec ℕ Global × Event)) (id : List ℕ) (e : Event) (kept : Requests) → AreCopies copies id e
    → find_request id kept ≡ None → IfSome copies (λ p. find_request p.0.items kept ≡ None)
copies_new None id e kept is none = tt
copies_new (Some p) id e kept is none = ap (λ t. find_request t kept) is.1 ∙ none

-- ---- an event that may be recorded or not

-- an event that is recorded finds spare capacity
pub free_if_recorded : (x : SeenSite) (e : Event) → (changes_site x.settings (state_of x) e && not (is_full x.settings (state_of x))) ≡ true
    → is_full x.settings (state_of x) ≡ false
free_if_recorded x e h = not-true (is_full x.settings (state_of x)) (and_parts (changes_site x.settings (state_of x) e) _ h).1

-- and the site after it has its entry
pub next_if_recorded : (x : SeenSite) (e : Event) → (changes_site x.settings (state_of x) e && not (is_full x.settings (state_of x))) ≡ true
    → next_if_changes x e ≡ next_site x e
next_if_recorded x e h = ap (λ b. cond b (next_site x e) x) (and_parts (changes_site x.settings (state_of x) e) _ h).0

-- one that isn't recorded leaves the site as it was
pub next_unrecorded : (x : SeenSite) (e : Event) → (changes_site x.settings (state_of x) e && not (is_full x.settings (state_of x))) ≡ false
    → next_if_changes x e ≡ x
next_unrecorded x e h = by (changes_site x.settings (state_of x) e) (is_full x.settings (state_of x)) h
  where
    by : (a b : Bool) → (a && not b) ≡ false → cond a (cond b x (stepped x e)) x ≡ x
    by true true q = refl
    by true false q = absurd (cc)
    by false b q = refl

-- ---- the map

-- what holds if a call succeeds holds if it does
pub where_ok : {A E P : Type 0} (r : Result A E) → IsOk r → OnOk r P → P
where_ok (Ok x) is h = h
where_ok (Err x) is h = absurd (cc)

-- what is said of the copies
pub of_copies : (P : Vec ℕ Global × Event → Type 0) (copies : Option (Vec ℕ Global × Event)) (p : Vec ℕ Global × Event) → copies ≡ Some p
    → IfSome copies P → P p
of_copies P copies p is h = subst (λ o. IfSome o P) is h

-- a request that was made is noted after those before
pub one_noted : (copies : Option (Vec ℕ Global × Event)) (p : Vec ℕ Global × Event) (reply : Reply) (first end : ℕ)
    (es new : List (Vec ℕ Global × KnownRequest)) → copies ≡ Some p → may_be_asked (entry p.1 reply) ≡ true
    → new ≡ es ++ (p.0, request p.1 first end) ∷ [] → by_bytes new ≡ by_bytes es ++ request_noted copies reply first end
one_noted copies p reply first end es new is made more = rw (more, is, made, map-append)
