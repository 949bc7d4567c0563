-- Answers at a full history.
use Rattle.std.proofs.Common.{◌≡◌, ◌∙◌, ℕ, ◌≤◌, Bool, true, false, cond, not, ◌⊎◌, inl, inr, List, length, take, refl, ap, sym}
use Rattle.std.proofs.Common.{Option, Some, None, Result, Ok, Err, OnOk}
use Rattle.std.specs.Prelude.{option_map, nat_lt, ◌==◌}
use Rattle.rb_money.specs.Amounts.{cents}
use Rattle.rb_money.specs.Refusals.{unless}
use Rattle.rb_money.specs.Settings.{Settings, is_account}
use Rattle.rb_money.specs.declared.place.Place.{Place}
use Rattle.rb_money.specs.declared.refusal.Refusal.{Refusal}
use Rattle.rb_money.specs.declared.refusal.Refusal.TheVariants.{BadBatch, BadMessage, Conflict, HistoryFull, InboxFull, NotHeld, NotReady}
use Rattle.rb_money.specs.declared.refusal.Refusal.TheVariants.{PositionBeyond, UnknownAccount}
use Rattle.rb_ledger.specs.Book.{IsClocked}
use Rattle.rb_ledger.specs.Checks.{refusal_of, refusal_of_sound}
use Rattle.rb_shadow.specs.Operations.{bal, find_in, is_eligible, red_count, same_shadow}
use Rattle.rb_shadow.specs.Sound.{IsSound, fault_of}
use Rattle.rb_shadow.specs.declared.deps.Deps.{Deps}
use Rattle.rb_shadow.specs.declared.op_name.OpName.{OpName}
use Rattle.rb_shadow.specs.declared.shadow.Shadow.{Shadow}
use Rattle.rb_shadow.proofs.Public.SameShadows
use Rattle.rb_inbox.specs.Held.{Holding, IsInConflict, IsTooMany, IsWelcome}
use Rattle.rb_scratch.specs.Batches.{batch_of}
use Rattle.rb_scratch.specs.Requests.{made_of}
use Rattle.rb_scratch.specs.declared.request.Request.{Request}
use Rattle.rb_token.specs.Seen.{SeenToken}
use Rattle.rb_token.specs.Token.{is_stale, pass_message, refusal_of_pass, refusal_of_token}
use Rattle.rb_token.specs.declared.accepted.Accepted.TheVariants.{Stale as StaleMessage, Taken}
use Rattle.rb_token.specs.declared.message.TokenMessage.{TokenMessage}
use Rattle.rb_site.specs.declared.event.Event.{Event}
use Rattle.rb_site.specs.declared.event.Event.TheVariants.{Apply, AsOf, Balance, Batch, Pass, Receive, Statement as AskStatement, Submit}
use Rattle.rb_site.specs.declared.message.Message.{Message}
use Rattle.rb_site.specs.declared.noted_reply.NotedReply.{NotedReply}
use Rattle.rb_site.specs.declared.message.Message.TheVariants.{Shadow as ShadowMessage, Token as TokenOnItsWay}
use Rattle.rb_site.specs.declared.reply.Reply.{Reply}
use Rattle.rb_site.specs.declared.reply.Reply.TheVariants.{Already, Balance as BalanceIs, Refused, Stale}
use Rattle.rb_site.specs.Events.{Answers, Holds, Makes, MakesAll, ModelSite, Outcome, Passes, Refuses, Shows, Takes, changes}
use Rattle.rb_site.specs.Events.{outcome_of, outcome_of_check, outcome_of_new, reply_of, unless_full}
use Rattle.rb_site.specs.States.{Follows, SiteState}
use Rattle.rb_site.specs.Unchanging.{reply_at_full}
use Rattle.rb_site.proofs.Handlers.{comes_to_check, conflict_comes, dropped, known_comes, named_comes, new_received, received_comes}
use Rattle.rb_site.proofs.Handlers.{submit_comes, too_many_comes, welcome_comes}
use Rattle.rb_site.proofs.Batches.{batch_comes, is_of_size, of_batch}

-- the reply if the history is full is that of the outcome that the event comes to
pub replied : (s : Settings) (t : ModelSite) (e : Event) (o : Outcome) (given : Reply) → outcome_of s t e ≡ o →
    given ≡ reply_of s t.ops (unless_full true o) → given ≡ reply_at_full s t e
replied s t e o given comes is = is ∙ sym (ap (λ q. reply_of s t.ops (unless_full true q)) comes)

-- ---- a request

-- what a request makes would change the site
pub submit_made : (s : Settings) (t : ModelSite) (r : Request) (v : Shadow) (given : Reply) → made_of s t.me t.ops t.token r ≡ Ok v →
    given ≡ Refused HistoryFull → given ≡ reply_at_full s t (Submit r)
submit_made s t r v given made is = replied s t (Submit r) (Makes v) given (submit_comes s t r (Ok v) made) is

-- a request that can't be made has its own refusal
pub submit_refused : (s : Settings) (t : ModelSite) (r : Request) (why : Refusal) (given : Reply) →
    made_of s t.me t.ops t.token r ≡ Err why → given ≡ Refused why → given ≡ reply_at_full s t (Submit r)
submit_refused s t r why given made is = replied s t (Submit r) (Refuses why) given (submit_comes s t r (Err why) made) is

-- ---- a batch

-- a batch of no requests, or of too many
pub batch_size : (s : Settings) (t : ModelSite) (rs : List Request) (given : Reply) → is_of_size rs ≡ false → given ≡ Refused BadBatch →
    given ≡ reply_at_full s t (Batch rs)
batch_size s t rs given size is = replied s t (Batch rs) (Refuses BadBatch) given (batch_comes s t rs false size) is

-- the requests of a batch would all be made
pub batch_made : (s : Settings) (t : ModelSite) (rs : List Request) (vs : List Shadow) (given : Reply) → is_of_size rs ≡ true →
    batch_of s t.me t.ops t.token 0 rs ≡ Ok vs → given ≡ Refused HistoryFull → given ≡ reply_at_full s t (Batch rs)
batch_made s t rs vs given size made is =
    replied s t (Batch rs) (MakesAll vs) given (batch_comes s t rs true size ∙ ap of_batch made) is

-- a batch that can't be made has its own refusal
pub batch_refused : (s : Settings) (t : ModelSite) (rs : List Request) (why : Refusal) (given : Reply) → is_of_size rs ≡ true →
    batch_of s t.me t.ops t.token 0 rs ≡ Err why → given ≡ Refused why → given ≡ reply_at_full s t (Batch rs)
batch_refused s t rs why given size refused is =
    replied s t (Batch rs) (Refuses why) given (batch_comes s t rs true size ∙ ap of_batch refused) is

-- ---- a shadow is received

-- a shadow at fault
pub receive_unsound : (s : Settings) (t : ModelSite) (v : Shadow) (why : ℕ) (given : Reply) → fault_of s v ≡ Some why →
    given ≡ Refused (BadMessage why) → given ≡ reply_at_full s t (Receive (ShadowMessage v))
receive_unsound s t v why given fault is =
    replied s t _ (Refuses (BadMessage why)) given (received_comes s t v (Some why) _ _ fault refl refl) is

-- a sound shadow whose name is applied here is answered by the one applied
pub receive_known : (s : Settings) (t : ModelSite) (v : Shadow) (same : Bool) (given : Reply) → fault_of s v ≡ None →
    Some same ≡ option_map (λ (u : Shadow). same_shadow u v) (find_in t.ops v.name) →
    given ≡ cond same (Already v.name) (Refused Conflict) → given ≡ reply_at_full s t (Receive (ShadowMessage v))
receive_known s t v same given sound known is = at (find_in t.ops v.name) refl known
  where
    by : (b : Bool) → cond b (Already v.name) (Refused Conflict)
        ≡ reply_of s t.ops (unless_full true (cond b (Answers (Already v.name)) (Refuses Conflict)))
    by true = refl
    by false = refl

    at : (o : Option Shadow) → find_in t.ops v.name ≡ o → Some same ≡ option_map (λ (u : Shadow). same_shadow u v) o →
        given ≡ reply_at_full s t (Receive (ShadowMessage v))
    at None found test = cc
    at (Some u) found test =
        let e : same ≡ same_shadow u v = cc in
        replied s t _ (cond (same_shadow u v) (Answers (Already v.name)) (Refuses Conflict)) given
        (received_comes s t v None (Some u) _ sound found refl)
        (is ∙ ap (λ b. cond b (Already v.name) (Refused Conflict)) e ∙ by (same_shadow u v))

-- a sound shadow of this site's own that isn't applied here
pub receive_own : (s : Settings) (t : ModelSite) (v : Shadow) (given : Reply) → fault_of s v ≡ None → find_in t.ops v.name ≡ None →
    (v.home == t.me) ≡ true → given ≡ Refused Conflict → given ≡ reply_at_full s t (Receive (ShadowMessage v))
receive_own s t v given sound none own is =
    replied s t _ (Refuses Conflict) given (received_comes s t v None None true sound none own) is

-- the reply to a new one
abbrev pub reply_new : Settings → ModelSite → Shadow → Reply
reply_new s t v = reply_of s t.ops (unless_full true (outcome_of_new s t v))

-- another sound shadow that isn't applied here is a new one
pub receive_new : (s : Settings) (t : ModelSite) (v : Shadow) (given : Reply) → fault_of s v ≡ None → find_in t.ops v.name ≡ None →
    (v.home ≡ t.me → ⊥) → given ≡ reply_new s t v → given ≡ reply_at_full s t (Receive (ShadowMessage v))
receive_new s t v given sound none other is = replied s t _ (outcome_of_new s t v) given (new_received s t v sound none other) is

-- the reply to a new one is that of what it comes to
new_replied : (s : Settings) (t : ModelSite) (v : Shadow) (o : Outcome) (given : Reply) → outcome_of_new s t v ≡ o →
    given ≡ reply_of s t.ops (unless_full true o) → given ≡ reply_new s t v
new_replied s t v o given comes is = is ∙ sym (ap (λ q. reply_of s t.ops (unless_full true q)) comes)

-- a new one that the inbox welcomes would change the site
pub new_welcome : (s : Settings) (t : ModelSite) (inbox : Holding) (c : Deps) (v : Shadow) (given : Reply) → IsClocked s t.ops c →
    inbox.limit ≡ s.limits.inbox → inbox.held ≡ t.held → IsWelcome inbox c v → given ≡ Refused HistoryFull → given ≡ reply_new s t v
new_welcome s t inbox c v given clocked limit held welcome is =
    new_replied s t v (Holds v) given (welcome_comes s t inbox c v clocked limit held welcome) is

-- a new one that is held already
pub new_already : (s : Settings) (t : ModelSite) (v : Shadow) (given : Reply) → find_in t.held v.name ≡ Some v → given ≡ Already v.name →
    given ≡ reply_new s t v
new_already s t v given found is =
    new_replied s t v (Answers (Already v.name)) given (known_comes s t v v true found (SameShadows.same_shadow-refl v)) is

-- a new one that the inbox refuses
pub new_refused : (s : Settings) (t : ModelSite) (inbox : Holding) (c : Deps) (v : Shadow) (why : Refusal) (given : Reply) →
    IsClocked s t.ops c → inbox.limit ≡ s.limits.inbox → inbox.held ≡ t.held → (why ≡ Conflict) ⊎ (why ≡ InboxFull) →
    (why ≡ Conflict → IsInConflict inbox v) → (why ≡ InboxFull → IsTooMany inbox c v) → given ≡ Refused why → given ≡ reply_new s t v
new_refused s t inbox c v why given clocked limit held (inl e) conflict full is =
    new_replied s t v (Refuses Conflict) given (conflict_comes s t inbox v held (conflict e)) (is ∙ ap Refused e)
new_refused s t inbox c v why given clocked limit held (inr e) conflict full is =
    new_replied s t v (Refuses InboxFull) given (too_many_comes s t inbox c v clocked limit held (full e)) (is ∙ ap Refused e)

-- ---- a token message

-- what a token message comes to, by its refusal and whether it is stale
message_comes : (s : Settings) (t : ModelSite) (m : TokenMessage) (o : Option Refusal) (b : Bool) → refusal_of_token s.limits t.me m ≡ o →
    is_stale t.token m ≡ b → outcome_of s t (Receive (TokenOnItsWay m))
    ≡ unless Refuses o (cond b (Answers (Stale m.epoch)) (Takes m))
unfolding outcome_of
message_comes s t m o b refusal stale =
    ap (λ q. unless Refuses q (cond (is_stale t.token m) (Answers (Stale m.epoch)) (Takes m))) refusal
    ∙ ap (λ c. unless Refuses o (cond c (Answers (Stale m.epoch)) (Takes m))) stale

-- what is refused of the view of a token is refused by the settings
pub refusal_seen : (s : Settings) (was seen : SeenToken) (m : TokenMessage) (o : Option Refusal) → seen ≡ was → was.limits ≡ s.limits →
    refusal_of_token seen.limits seen.me m ≡ o → refusal_of_token s.limits was.me m ≡ o
refusal_seen s was seen m o same limits is =
    ap (λ l. refusal_of_token l was.me m) (sym limits)
    ∙ ap (λ (x : SeenToken). refusal_of_token x.limits x.me m) (sym same)
    ∙ is

-- what is taken isn't stale
pub taken_fresh : (b : Bool) (X : Type 0) → (b ≡ true → (Taken ≡ StaleMessage) × X) → b ≡ false
taken_fresh true X h = let e : Taken ≡ StaleMessage = (h refl).0 in cc
taken_fresh false X h = refl

-- what isn't taken is stale
pub stale_known : (b : Bool) (X : Type 0) → (b ≡ false → (StaleMessage ≡ Taken) × X) → b ≡ true
stale_known true X h = refl
stale_known false X h = let e : StaleMessage ≡ Taken = (h refl).0 in cc

-- a message that would be taken would change the site
pub message_taken : (s : Settings) (t : ModelSite) (m : TokenMessage) (given : Reply) → refusal_of_token s.limits t.me m ≡ None →
    is_stale t.token m ≡ false → given ≡ Refused HistoryFull → given ≡ reply_at_full s t (Receive (TokenOnItsWay m))
message_taken s t m given allowed fresh is = replied s t _ (Takes m) given (message_comes s t m None false allowed fresh) is

-- a stale message
pub message_stale : (s : Settings) (t : ModelSite) (m : TokenMessage) (given : Reply) → refusal_of_token s.limits t.me m ≡ None →
    is_stale t.token m ≡ true → given ≡ Stale m.epoch → given ≡ reply_at_full s t (Receive (TokenOnItsWay m))
message_stale s t m given allowed stale is =
    replied s t _ (Answers (Stale m.epoch)) given (message_comes s t m None true allowed stale) is

-- a message that is refused
pub message_refused : (s : Settings) (t : ModelSite) (m : TokenMessage) (why : Refusal) (given : Reply) →
    refusal_of_token s.limits t.me m ≡ Some why → given ≡ Refused why → given ≡ reply_at_full s t (Receive (TokenOnItsWay m))
message_refused s t m why given refused is =
    replied s t _ (Refuses why) given (message_comes s t m (Some why) (is_stale t.token m) refused refl) is

-- ---- a name is to be applied

-- nothing is held under it
pub apply_none : (s : Settings) (t : ModelSite) (x : OpName) (given : Reply) → find_in t.held x ≡ None → given ≡ Refused NotHeld →
    given ≡ reply_at_full s t (Apply x)
apply_none s t x given none is = replied s t (Apply x) (Refuses NotHeld) given (named_comes s t x None none) is

-- what is held waits for its past
pub apply_waits : (s : Settings) (t : ModelSite) (x : OpName) (v : Shadow) (given : Reply) → find_in t.held x ≡ Some v →
    is_eligible t.ops v ≡ false → given ≡ Refused NotReady → given ≡ reply_at_full s t (Apply x)
apply_waits s t x v given found waits is =
    replied s t (Apply x) (Refuses NotReady) given (named_comes s t x (Some v) found
    ∙ ap (λ b. cond (not b) (Refuses NotReady) (outcome_of_check v (refusal_of_sound s t.ops v))) waits) is

-- what is held and has its past is answered by the ledger's check: only as not ready it stays, and all else would
-- change the site
pub apply_checked : (s : Settings) (t : ModelSite) (x : OpName) (v : Shadow) (o : Option Refusal) (given : Reply) →
    find_in t.held x ≡ Some v → is_eligible t.ops v ≡ true → IsSound s v → refusal_of s t.ops v ≡ o
    → given ≡ reply_of s t.ops (unless_full true (outcome_of_check v o)) → given ≡ reply_at_full s t (Apply x)
apply_checked s t x v o given found eligible sound refusal is =
    replied s t (Apply x) (outcome_of_check v o) given (comes_to_check s t x v o found eligible sound refusal) is

-- what would be let go
pub full_dropped : (s : Settings) (us : List Shadow) (v : Shadow) (why : Refusal) → (why ≡ NotReady → ⊥) →
    Refused HistoryFull ≡ reply_of s us (unless_full true (outcome_of_check v (Some why)))
full_dropped s us v why other = sym (ap (λ q. reply_of s us (unless_full true q)) (dropped v why other))

-- ---- the token is to go

-- what a pass comes to, by its refusal
pass_comes : (s : Settings) (t : ModelSite) (to : ℕ) (o : Option Refusal) → refusal_of_pass s.sites s.limits t.me t.token to ≡ o →
    outcome_of s t (Pass to) ≡ unless Refuses o (Passes (pass_message t.token to (red_count t.ops)))
unfolding outcome_of
pass_comes s t to o refusal = ap (λ q. unless Refuses q (Passes (pass_message t.token to (red_count t.ops)))) refusal

-- what is refused of the view of a token is refused by the settings
pub pass_seen : (s : Settings) (was seen : SeenToken) (to : ℕ) (o : Option Refusal) → seen ≡ was → was.sites ≡ s.sites →
    was.limits ≡ s.limits → refusal_of_pass seen.sites seen.limits seen.me seen.token to ≡ o
    → refusal_of_pass s.sites s.limits was.me was.token to ≡ o
pass_seen s was seen to o same sites limits is =
    ap (λ n. refusal_of_pass n s.limits was.me was.token to) (sym sites)
    ∙ ap (λ l. refusal_of_pass was.sites l was.me was.token to) (sym limits)
    ∙ ap (λ (x : SeenToken). refusal_of_pass x.sites x.limits x.me x.token to) (sym same)
    ∙ is

-- a pass that nothing refuses would change the site
pub pass_made : (s : Settings) (t : ModelSite) (to : ℕ) (given : Reply) → refusal_of_pass s.sites s.limits t.me t.token to ≡ None →
    given ≡ Refused HistoryFull → given ≡ reply_at_full s t (Pass to)
pass_made s t to given allowed is = replied s t (Pass to) _ given (pass_comes s t to None allowed) is

-- a pass that is refused
pub pass_refused : (s : Settings) (t : ModelSite) (to : ℕ) (why : Refusal) (given : Reply) →
    refusal_of_pass s.sites s.limits t.me t.token to ≡ Some why → given ≡ Refused why → given ≡ reply_at_full s t (Pass to)
pass_refused s t to why given refused is = replied s t (Pass to) (Refuses why) given (pass_comes s t to (Some why) refused) is

-- ---- a question

-- a balance changes nothing
pub balance_unchanging : (s : Settings) (t : ModelSite) (a : Place) → changes (outcome_of s t (Balance a)) ≡ false
unfolding outcome_of
balance_unchanging s t a = by (is_account s a) (cents (bal s t.ops a))
  where
    by : (b : Bool) (k : ℕ) → changes (cond (not b) (Refuses UnknownAccount) (Answers (BalanceIs k))) ≡ false
    by true k = refl
    by false k = refl

-- nor does one at a position
pub as_of_unchanging : (s : Settings) (t : ModelSite) (a : Place) (n : ℕ) → changes (outcome_of s t (AsOf a n)) ≡ false
unfolding outcome_of
as_of_unchanging s t a n = by (is_account s a) (nat_lt (length t.ops) n) (cents (bal s (take n t.ops) a))
  where
    by : (b c : Bool) (k : ℕ)
        → changes (cond (not b) (Refuses UnknownAccount) (cond c (Refuses PositionBeyond) (Answers (BalanceIs k)))) ≡ false
    by false c k = refl
    by true true k = refl
    by true false k = refl

-- nor does a statement
pub statement_unchanging : (s : Settings) (t : ModelSite) (a : Place) → changes (outcome_of s t (AskStatement a)) ≡ false
unfolding outcome_of
statement_unchanging s t a = by (is_account s a)
  where
    by : (b : Bool) → changes (cond (not b) (Refuses UnknownAccount) (Shows a)) ≡ false
    by true = refl
    by false = refl

-- what changes nothing is answered as ever
pub follows_full : (keeps : Bool) (old now : SiteState) (before after : List Message) (d e : Event) (a : NotedReply) → d ≡ e →
    changes (outcome_of old.settings old.site e) ≡ false → Follows keeps old now before after (outcome_of old.settings old.site e) a
    → a.reply ≡ reply_at_full old.settings old.site d
follows_full keeps old now before after d e a same none follows =
    follows.1.0
    ∙ ap (λ b. reply_of old.settings old.site.ops (cond b (Refuses HistoryFull) (outcome_of old.settings old.site e))) (sym none)
    ∙ sym (ap (reply_at_full old.settings old.site) same)

-- the same of what may run out of memory
pub follows_full_ok : {A E : Type 0} (keeps : Bool) (old now : SiteState) (before after : List Message) (e : Event) (a : NotedReply)
    (r : Result A E) → changes (outcome_of old.settings old.site e) ≡ false →
    OnOk r (Follows keeps old now before after (outcome_of old.settings old.site e) a)
    → OnOk r (a.reply ≡ reply_at_full old.settings old.site e)
follows_full_ok keeps old now before after e a (Ok x) none follows = follows_full keeps old now before after e e a refl none follows
follows_full_ok keeps old now before after e a (Err x) none follows = tt
