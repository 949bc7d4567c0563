-- A change of a site, seen by the reply and the number of those held.
use Rattle.std.proofs.Common.{◌≡◌, ℕ, ◌<◌, ◌≤◌, not, ◌&&◌, ◌==◌, nat_le, nat_lt, Bool, true, false, cond, List, [], ◌∷◌, length}
use Rattle.std.proofs.Common.{refl, ap, sym, ◌∙◌, arith, subst, Option, Some, None, Result, Ok, Err, take}
use Rattle.std.proofs.lemmas.Bool.Decides.{nat_tests}
use Rattle.rb_money.specs.Amounts.{cents}
use Rattle.rb_money.specs.Refusals.{and_then, unless}
use Rattle.rb_money.specs.Settings.{Settings, is_account}
use Rattle.rb_money.specs.declared.refusal.Refusal.{Refusal}
use Rattle.rb_money.specs.declared.refusal.Refusal.TheVariants.{BadBatch, BadMessage, Conflict, InboxFull, NotHeld, NotReady}
use Rattle.rb_money.specs.declared.refusal.Refusal.TheVariants.{PositionBeyond, UnknownAccount}
use Rattle.rb_ledger.specs.Checks.{refusal_of_sound}
use Rattle.rb_shadow.proofs.Public.Lookups
use Rattle.rb_shadow.specs.Operations.{bal, find_in, is_eligible, red_count, same_name, same_shadow}
use Rattle.rb_shadow.specs.Sound.{fault_of}
use Rattle.rb_shadow.specs.declared.op_name.OpName.{OpName}
use Rattle.rb_shadow.specs.declared.shadow.Shadow.{Shadow}
use Rattle.rb_inbox.specs.Held.{without}
use Rattle.rb_scratch.specs.Batches.{batch_of}
use Rattle.rb_scratch.specs.Requests.{made_of}
use Rattle.rb_scratch.specs.declared.request.TheConstants.{MOST_REQUESTS}
use Rattle.rb_token.specs.Token.{pass_message, refusal_of_pass, refusal_of_token}
use Rattle.rb_site.specs.declared.event.Event.{Event}
use Rattle.rb_site.specs.declared.event.Event.TheVariants.{Apply, AsOf, Balance, Batch, Pass, Receive, Statement as AskStatement, Submit}
use Rattle.rb_site.specs.declared.message.Message.TheVariants.{Shadow as ShadowMessage, Token as TokenOnItsWay}
use Rattle.rb_site.specs.declared.reply.Reply.TheVariants.{Already, Balance as BalanceIs, Stale}
use Rattle.rb_site.specs.Events.{Answers, Holds, Makes, MakesAll, ModelSite, Outcome, Passes, Refuses, Shows, Takes, changed, changes}
use Rattle.rb_site.specs.Events.{outcome_of, outcome_of_check, reply_of, unless_known}
use Rattle.rb_site.specs.Notes.{shows_change}
use Rattle.rb_site.specs.States.{Follows, SiteState}
use Rattle.rb_site.specs.declared.message.Message.{Message}
use Rattle.rb_site.specs.declared.noted_reply.NotedReply.{NotedReply}

-- ---- what is let go was held

-- no more are held without those of a name
without_less : (x : OpName) (us : List Shadow) → length (without x us) ≤ length us
without_less x [] = omega arith
without_less x (u ∷ us) = by (not (same_name u.name x)) (without_less x us)
  where
    by : (b : Bool) → length (without x us) ≤ length us → length (cond b (u ∷ without x us) (without x us)) ≤ length (u ∷ us)
    by true h = omega arith
    by false h = omega arith

-- and fewer, if one of the name is held
without_fewer : (x : OpName) (us : List Shadow) (v : Shadow) → find_in us x ≡ Some v → length (without x us) < length us
without_fewer x [] v h = cc
without_fewer x (u ∷ us) v h = by (same_name u.name x) h (without_less x us) (without_fewer x us v)
  where
    by : (b : Bool) → cond b (Some u) (find_in us x) ≡ Some v → length (without x us) ≤ length us →
        (find_in us x ≡ Some v → length (without x us) < length us)
        → length (cond (not b) (u ∷ without x us) (without x us)) < length (u ∷ us)
    by true k less fewer = omega arith
    by false k less fewer = let f : length (without x us) < length us = fewer k in omega (arith, f)

-- ---- an outcome

-- whether fewer are held after an outcome
abbrev fewer_after : ModelSite → Outcome → Bool
fewer_after t o = nat_lt (length (changed t o).held) (length t.held)

-- the reply and the number of those held show whether the outcome changes the site
abbrev IsShown : Settings → ModelSite → Outcome → Type 0
IsShown s t o = shows_change (fewer_after t o) (reply_of s t.ops o) ≡ changes o

shown_refused : (s : Settings) (t : ModelSite) (why : Refusal) → IsShown s t (Refuses why)
shown_refused s t why = grind (arith, nat_tests)

shown_if : (s : Settings) (t : ModelSite) (b : Bool) (why : Refusal) (next : Outcome) → IsShown s t next →
    IsShown s t (cond b (Refuses why) next)
shown_if s t true why next h = shown_refused s t why
shown_if s t false why next h = h

shown_first : {E : Type 0} (s : Settings) (t : ModelSite) (refused : E → Refusal) (o : Option E) (next : Outcome) → IsShown s t next →
    IsShown s t (unless (λ why. Refuses (refused why)) o next)
shown_first s t refused (Some why) next h = shown_refused s t (refused why)
shown_first s t refused None next h = h

shown_known : (s : Settings) (t : ModelSite) (v : Shadow) (o : Option Shadow) (next : Outcome) → IsShown s t next →
    IsShown s t (unless_known v o next)
shown_known s t v None next h = h
shown_known s t v (Some u) next h = by (same_shadow u v)
  where
    by : (b : Bool) → IsShown s t (cond b (Answers (Already v.name)) (Refuses Conflict))
    by true = refl
    by false = shown_refused s t Conflict

shown_check : (s : Settings) (t : ModelSite) (v : Shadow) (o : Option Refusal) → find_in t.held v.name ≡ Some v →
    IsShown s t (outcome_of_check v o)
shown_check s t v None h = refl
shown_check s t v (Some NotReady) h = shown_refused s t NotReady
shown_check s t v (Some why) h = let f : length (without v.name t.held) < length t.held = without_fewer v.name t.held v h in
    grind (arith, nat_tests, f)

shown_made : (s : Settings) (t : ModelSite) (q : Result Shadow Refusal) → IsShown s t (and_then Refuses q Makes)
shown_made s t (Ok v) = refl
shown_made s t (Err why) = shown_refused s t why

shown_batch : (s : Settings) (t : ModelSite) (q : Result (List Shadow) Refusal) → IsShown s t (and_then Refuses q MakesAll)
shown_batch s t (Ok vs) = refl
shown_batch s t (Err why) = shown_refused s t why

-- an event's reply and the number of those held show whether it changes the site
pub shown_outcome : (s : Settings) (t : ModelSite) (e : Event) → IsShown s t (outcome_of s t e)
unfolding outcome_of
shown_outcome s t (Submit r) = shown_made s t (made_of s t.me t.ops t.token r)
shown_outcome s t (Batch rs) = shown_if s t (not (nat_le 1 (length rs) && nat_le (length rs) MOST_REQUESTS)) BadBatch _
    (shown_batch s t (batch_of s t.me t.ops t.token 0 rs))
shown_outcome s t (Receive (ShadowMessage v)) =
    shown_first s t BadMessage (fault_of s v) _ (shown_known s t v (find_in t.ops v.name) _
    (shown_if s t (v.home == t.me) Conflict _ (shown_known s t v (find_in t.held v.name) _
    (shown_if s t (nat_le s.limits.inbox (length t.held) && not (is_eligible t.ops v)) InboxFull (Holds v) refl))))
shown_outcome s t (Receive (TokenOnItsWay m)) =
    shown_first s t (λ why. why) (refusal_of_token s.limits t.me m) _ (by (nat_le m.epoch t.token.epoch))
  where
    by : (b : Bool) → IsShown s t (cond b (Answers (Stale m.epoch)) (Takes m))
    by true = refl
    by false = refl
shown_outcome s t (Apply x) = by (find_in t.held x) refl
  where
    by : (o : Option Shadow) → find_in t.held x ≡ o → IsShown s t (unless (λ v. cond (not (is_eligible t.ops v)) (Refuses NotReady)
        (outcome_of_check v (refusal_of_sound s t.ops v))) o (Refuses NotHeld))
    by None e = shown_refused s t NotHeld
    by (Some v) e = shown_if s t (not (is_eligible t.ops v)) NotReady _ (shown_check s t v (refusal_of_sound s t.ops v)
        (subst (λ y. find_in t.held y ≡ Some v) (sym (Lookups.found t.held x v e).1) e))
shown_outcome s t (Pass to) = shown_first s t (λ why. why) (refusal_of_pass s.sites s.limits t.me t.token to)
    (Passes (pass_message t.token to (red_count t.ops))) refl
shown_outcome s t (Balance a) = shown_if s t (not (is_account s a)) UnknownAccount (Answers (BalanceIs (cents (bal s t.ops a)))) refl
shown_outcome s t (AsOf a n) = shown_if s t (not (is_account s a)) UnknownAccount _
    (shown_if s t (nat_lt (length t.ops) n) PositionBeyond (Answers (BalanceIs (cents (bal s (take n t.ops) a)))) refl)
shown_outcome s t (AskStatement a) = shown_if s t (not (is_account s a)) UnknownAccount (Shows a) refl

-- what follows an event's outcome shows whether it changes the site
pub shown_by : (keeps : Bool) (old now : SiteState) (before after : List Message) (e : Event) (a : NotedReply)
    (later held : ℕ) (is : Bool) →
    Follows keeps old now before after (outcome_of old.settings old.site e) a → later ≡ length now.site.held →
    held ≡ length old.site.held → is ≡ shows_change (nat_lt later held) a.reply → is ≡ changes (outcome_of old.settings old.site e)
shown_by keeps old now before after e a later held is follows then first seen =
    seen
    ∙ ap (λ n. shows_change (nat_lt n held) a.reply) (then ∙ ap (λ (z : SiteState). length z.site.held) follows.0)
    ∙ ap (λ n. shows_change (nat_lt (length (changed old.site (outcome_of old.settings old.site e)).held) n) a.reply) first
    ∙ ap (shows_change (fewer_after old.site (outcome_of old.settings old.site e))) follows.1.0
    ∙ shown_outcome old.settings old.site e
