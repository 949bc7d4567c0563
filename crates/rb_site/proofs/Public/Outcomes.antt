-- Outcomes of events: they don't depend on the history, and send few messages.
use Rattle.std.proofs.Common.{◌≡◌, not, ◌&&◌, ◌==◌, nat_le, nat_lt, ◌<◌, ◌≤◌, Bool, true, false, cond, List, [], length, lit≤, take, refl}
use Rattle.std.proofs.Common.{ap, sym, subst, ◌∙◌, arith, Option, Some, None, Result, Ok, Err}
use Rattle.std.proofs.lemmas.Bool.Decides.{nat_tests}
use Rattle.std.proofs.lemmas.List.{length-map}
use Rattle.rb_money.specs.Refusals.{and_then, unless}
use Rattle.rb_money.specs.Settings.{Settings, is_account}
use Rattle.rb_money.specs.declared.refusal.Refusal.{Refusal}
use Rattle.rb_money.specs.Amounts.{cents}
use Rattle.rb_money.specs.declared.refusal.Refusal.TheVariants.{BadBatch, BadMessage, UnknownAccount, NotHeld, NotReady, InboxFull}
use Rattle.rb_money.specs.declared.refusal.Refusal.TheVariants.{Conflict, PositionBeyond}
use Rattle.rb_ledger.specs.Checks.{refusal_of_sound}
use Rattle.rb_shadow.specs.Operations.{bal, is_eligible, red_count, find_in, same_shadow}
use Rattle.rb_shadow.specs.Sound.{fault_of}
use Rattle.rb_scratch.specs.Batches.{batch_of}
use Rattle.rb_scratch.specs.Requests.{made_of}
use Rattle.rb_scratch.specs.declared.request.Request.{Request}
use Rattle.rb_scratch.specs.declared.request.TheConstants.{MOST_REQUESTS}
use Rattle.rb_scratch.proofs.Public.Made.{batch_length}
use Rattle.rb_token.specs.Token.{pass_message, refusal_of_pass, refusal_of_token}
use Rattle.rb_shadow.specs.declared.shadow.Shadow.{Shadow}
use Rattle.rb_site.specs.declared.event.Event.{Event}
use Rattle.rb_site.specs.declared.event.Event.TheVariants.{Submit, Batch, Receive, Apply, Pass, Balance, AsOf, Statement as AskStatement}
use Rattle.rb_site.specs.declared.message.Message.{Message}
use Rattle.rb_site.specs.declared.message.Message.TheVariants.{Shadow as ShadowMessage, Token as TokenOnItsWay}
use Rattle.rb_site.specs.declared.reply.Reply.TheVariants.{Already, Stale, Balance as BalanceIs}
use Rattle.rb_site.specs.Events.{ModelSite, Outcome, Refuses, Drops, Answers, Shows, Makes, MakesAll, Holds, Applies, Takes, Passes}
use Rattle.rb_site.specs.Events.{changed, is_full, outcome_of, outcome_of_check, sent_at, sent_by, unless_known}
use Rattle.rb_site.specs.declared.entry.Entry.{Entry}
use Rattle.rb_site.specs.Seen.{SeenSite, IsReplayed, state_of}
use Rattle.rb_site.proofs.Public.Seen

-- the site with another history
abbrev pub with_history : ModelSite → List Event → ModelSite
with_history t h = record t { history = h }

-- what an event comes to doesn't depend on the history
pub same_outcome : (s : Settings) (t : ModelSite) (h : List Event) (e : Event) → outcome_of s (with_history t h) e ≡ outcome_of s t e
unfolding outcome_of
same_outcome s t h (Receive (ShadowMessage v)) = refl
same_outcome s t h (Receive (TokenOnItsWay m)) = refl
same_outcome s t h _ = refl

-- nor does what it changes
pub changed-with_history : (t : ModelSite) (h : List Event) (o : Outcome) → changed (with_history t h) o ≡ with_history (changed t o) h
changed-with_history t h (Refuses why) = refl
changed-with_history t h (Answers r) = refl
changed-with_history t h (Shows a) = refl
changed-with_history t h (Drops x why) = refl
changed-with_history t h (Makes v) = refl
changed-with_history t h (MakesAll vs) = refl
changed-with_history t h (Holds v) = refl
changed-with_history t h (Applies v) = refl
changed-with_history t h (Takes m) = refl
changed-with_history t h (Passes m) = refl

-- ---- a step

-- the history isn't full exactly if the model site's isn't
pub is_full-state : (x : SeenSite) → IsReplayed x → nat_le x.settings.limits.history (length x.entries) ≡ is_full x.settings (state_of x)
is_full-state x kept = ap (nat_le x.settings.limits.history) (sym (ap length (Seen.history-state x kept)
    ∙ length-map x.entries (λ (y : Entry). y.event)))

-- if the model site's history isn't full, the site's has fewer entries than its limit
pub room_left : (x : SeenSite) → IsReplayed x → is_full x.settings (state_of x) ≡ false → length x.entries < x.settings.limits.history
room_left x kept free =
    let test : nat_le x.settings.limits.history (length x.entries) ≡ false = is_full-state x kept ∙ free in
    grind (arith, nat_tests)

-- ---- what is sent

-- the outcome sends at most as many messages as a batch may have requests
abbrev SendsFew : Outcome → Type 0
SendsFew o = length (sent_by o) ≤ MOST_REQUESTS

few_if : (b : Bool) (why : Refusal) (next : Outcome) → SendsFew next → SendsFew (cond b (Refuses why) next)
few_if true why next h = lit≤ tt
few_if false why next h = h

few_first : {E : Type 0} (refused : E → Refusal) (o : Option E) (next : Outcome) → SendsFew next →
    SendsFew (unless (λ why. Refuses (refused why)) o next)
few_first refused (Some why) next h = lit≤ tt
few_first refused None next h = h

few_known : (v : Shadow) (o : Option Shadow) (next : Outcome) → SendsFew next → SendsFew (unless_known v o next)
few_known v None next h = h
few_known v (Some u) next h = by (same_shadow u v)
  where
    by : (b : Bool) → SendsFew (cond b (Answers (Already v.name)) (Refuses Conflict))
    by true = lit≤ tt
    by false = lit≤ tt

few_test : (b : Bool) (o p : Outcome) → SendsFew o → SendsFew p → SendsFew (cond b o p)
few_test true o p h k = h
few_test false o p h k = k

few_check : (v : Shadow) (o : Option Refusal) → SendsFew (outcome_of_check v o)
few_check v None = lit≤ tt
few_check v (Some NotReady) = lit≤ tt
few_check v (Some why) = lit≤ tt

few_made : (q : Result Shadow Refusal) → SendsFew (and_then Refuses q Makes)
few_made (Ok v) = lit≤ tt
few_made (Err why) = lit≤ tt

-- a batch makes as many operations as it has requests, at most
few_batch : (s : Settings) (t : ModelSite) (rs : List Request) → SendsFew (outcome_of s t (Batch rs))
unfolding outcome_of
few_batch s t rs = by (nat_le 1 (length rs)) (nat_le (length rs) MOST_REQUESTS) refl
  where
    made : length rs ≤ MOST_REQUESTS → (q : Result (List Shadow) Refusal) → batch_of s t.me t.ops t.token 0 rs ≡ q →
        SendsFew (and_then Refuses q MakesAll)
    made few (Ok vs) e = subst (λ n. n ≤ MOST_REQUESTS) (sym (length-map vs ShadowMessage
        ∙ batch_length s t.me t.ops t.token 0 rs vs e)) few
    made few (Err why) e = lit≤ tt

    by : (b c : Bool) → nat_le (length rs) MOST_REQUESTS ≡ c → SendsFew
        (cond (not (b && c)) (Refuses BadBatch) (and_then Refuses (batch_of s t.me t.ops t.token 0 rs) MakesAll))
    by false c e = lit≤ tt
    by true false e = lit≤ tt
    by true true e = made (grind (arith, nat_tests)) (batch_of s t.me t.ops t.token 0 rs) refl

-- an event sends at most as many messages as a batch may have requests
pub sends_few : (s : Settings) (t : ModelSite) (e : Event) → length (sent_by (outcome_of s t e)) ≤ MOST_REQUESTS
unfolding outcome_of
sends_few s t (Submit r) = few_made (made_of s t.me t.ops t.token r)
sends_few s t (Batch rs) = few_batch s t rs
sends_few s t (Receive (ShadowMessage v)) =
    few_first BadMessage (fault_of s v) _ (few_known v (find_in t.ops v.name) _
    (few_if (v.home == t.me) Conflict _ (few_known v (find_in t.held v.name) _ (few_if (nat_le s.limits.inbox (length t.held)
    && not (is_eligible t.ops v)) InboxFull (Holds v) (lit≤ tt)))))
sends_few s t (Receive (TokenOnItsWay m)) = few_first (λ why. why) (refusal_of_token s.limits t.me m) _
    (few_test (nat_le m.epoch t.token.epoch) (Answers (Stale m.epoch)) (Takes m) (lit≤ tt) (lit≤ tt))
sends_few s t (Apply x) = by (find_in t.held x)
  where
    by : (o : Option Shadow) → SendsFew (unless (λ v. cond (not (is_eligible t.ops v)) (Refuses NotReady)
        (outcome_of_check v (refusal_of_sound s t.ops v))) o (Refuses NotHeld))
    by None = lit≤ tt
    by (Some v) = few_if (not (is_eligible t.ops v)) NotReady _ (few_check v (refusal_of_sound s t.ops v))
sends_few s t (Pass to) = few_first (λ why. why) (refusal_of_pass s.sites s.limits t.me t.token to)
    (Passes (pass_message t.token to (red_count t.ops))) (lit≤ tt)
sends_few s t (Balance a) = few_if (not (is_account s a)) UnknownAccount (Answers (BalanceIs (cents (bal s t.ops a)))) (lit≤ tt)
sends_few s t (AsOf a n) = few_if (not (is_account s a)) UnknownAccount _
    (few_if (nat_lt (length t.ops) n) PositionBeyond (Answers (BalanceIs (cents (bal s (take n t.ops) a)))) (lit≤ tt))
sends_few s t (AskStatement a) = few_if (not (is_account s a)) UnknownAccount (Shows a) (lit≤ tt)

-- the same at a site whose history may be full
pub sent_few : (s : Settings) (t : ModelSite) (e : Event) → length (sent_at s t e) ≤ MOST_REQUESTS
sent_few s t e = few (is_full s t) (sent_by (outcome_of s t e)) (sends_few s t e)
  where
    few : (b : Bool) (ms : List Message) → length ms ≤ MOST_REQUESTS → length (cond b [] ms) ≤ MOST_REQUESTS
    few true ms h = lit≤ tt
    few false ms h = h
