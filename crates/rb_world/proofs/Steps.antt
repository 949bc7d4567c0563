-- The outcomes of an event of the world, case by case.
use Rattle.std.proofs.Common.{◌≡◌, ◌≢◌, ℕ, ◌+◌, ◌<◌, ◌≤◌, Bool, true, false, cond, not, ◌&&◌, ◌||◌, List, [], ◌∷◌, ◌++◌, length, refl}
use Rattle.std.proofs.Common.{sym, ◌∙◌, ◌⊎◌, inl, inr, subst, Option, Some, None, Result, Ok, Err, append_assoc}
use Rattle.std.specs.Prelude.{option_map, slice_get, slice_set, map, nat_lt, nat_le, ◌==◌, max, take}
use Rattle.std.proofs.lemmas.List.{append-nil}
use Rattle.std.proofs.lemmas.Bool.{false≢true}
use Rattle.rb_site.proofs.Public.Places.{get_set_same, set_set}
use Rattle.rb_site.proofs.Public.Recorded.{own_from, placed}
use Rattle.rb_site.proofs.Public.Runs.{noted}
use Rattle.rb_money.proofs.Public.Tests
use Rattle.rb_money.specs.Refusals.{and_then, unless}
use Rattle.rb_money.specs.Settings.{Settings, is_account}
use Rattle.rb_money.specs.declared.refusal.Refusal.{Refusal}
use Rattle.rb_money.specs.declared.refusal.Refusal.TheVariants.{BadMessage, Conflict, NotHeld, NotReady, InboxFull, PositionBeyond}
use Rattle.rb_site.specs.declared.reply.Reply.TheVariants.{Already, Stale, Balance as BalanceIs}
use Rattle.rb_shadow.specs.declared.op_name.OpName.{OpName}
use Rattle.rb_shadow.specs.declared.shadow.Shadow.{Shadow}
use Rattle.rb_shadow.specs.Operations.{Among, names, red_count, bal, find_in, is_eligible, same_shadow}
use Rattle.rb_shadow.specs.Sound.{fault_of}
use Rattle.rb_shadow.proofs.Public.Members
use Rattle.rb_shadow.proofs.Public.Lookups
use Rattle.rb_ledger.specs.Checks.{refusal_of_sound}
use Rattle.rb_token.specs.declared.message.TokenMessage.{TokenMessage}
use Rattle.rb_site.specs.declared.message.Message.{Message}
use Rattle.rb_site.specs.declared.message.Message.TheVariants.{Shadow as ShadowMessage, Token as TokenOnItsWay}
use Rattle.rb_site.specs.declared.event.Event.{Event}
use Rattle.rb_site.specs.declared.event.Event.TheVariants.{Submit, Batch, Receive, Apply, Pass, Balance, AsOf, Statement as AskStatement}
use Rattle.rb_site.specs.declared.world_event.WorldEvent.{WorldEvent}
use Rattle.rb_site.specs.declared.world_event.WorldEvent.TheVariants.{At, Deliver}
use Rattle.rb_token.specs.Token.{refusal_of_pass, refusal_of_token}
use Rattle.rb_money.specs.Amounts.{cents}
use Rattle.rb_scratch.proofs.Public.Made.{AreMadeAt, IsMadeAt, batch_is, made_is, not_true, past_first}
use Rattle.rb_site.specs.Events.{ModelSite, Outcome, Refuses, Drops, Answers, Shows, Makes, MakesAll, Holds, Applies, Takes, Passes}
use Rattle.rb_site.specs.Events.{outcome_of, changed, is_full, sent_by, outcome_of_check, unless_known}
use Rattle.rb_inbox.specs.Held.{with_held, without}
use Rattle.rb_site.specs.Histories.{IsAmong, IsFrom}
use Rattle.rb_site.specs.Worlds.{World, shadows_in, tokens_in, message_at, world_at, world_after, world_after_all, AreOwn}
use Rattle.rb_world.specs.Laws.{EachSite}
use Rattle.rb_world.proofs.Places

-- ---- what is known if an event comes to an outcome

-- one of the token messages
abbrev pub AmongTokens : TokenMessage → List TokenMessage → Type 0
AmongTokens m [] = ⊥
AmongTokens m (n ∷ ns) = (m ≡ n) ⊎ AmongTokens m ns

-- what is received was sent
abbrev pub IsSent : List Message → Message → Type 0
IsSent ms (ShadowMessage v) = Among v (shadows_in ms)
IsSent ms (TokenOnItsWay m) = AmongTokens m (tokens_in ms)

sent_one_more : (ms : List Message) (n m : Message) → IsSent ms m → IsSent (n ∷ ms) m
sent_one_more ms (ShadowMessage u) (ShadowMessage v) h = inr h
sent_one_more ms (ShadowMessage u) (TokenOnItsWay m) h = h
sent_one_more ms (TokenOnItsWay n) (ShadowMessage v) h = h
sent_one_more ms (TokenOnItsWay n) (TokenOnItsWay m) h = inr h

sent_first : (ms : List Message) (m : Message) → IsSent (m ∷ ms) m
sent_first ms (ShadowMessage v) = inl refl
sent_first ms (TokenOnItsWay m) = inl refl

-- each of the messages was sent
sent_among : (m : Message) (ms : List Message) → IsAmong m ms → IsSent ms m
sent_among m [] h = elim h [ ]
sent_among m (n ∷ ms) (inl e) = subst (IsSent (n ∷ ms)) (sym e) (sent_first ms n)
sent_among m (n ∷ ms) (inr h) = sent_one_more ms n m (sent_among m ms h)

-- the message of a number was sent
pub sent_message : (ms : List Message) (k : ℕ) (m : Message) → message_at ms k ≡ Some m → IsSent ms m
sent_message ms k m h = sent_among m ms (placed ms k m h)

-- what is known of an operation that a site comes to hold: it was sent, it is another site's, and its name is
-- neither applied nor held there
pub record MayHold (ms : List Message) (t : ModelSite) (v : Shadow) : Type 0 where
  pub sent : Among v (shadows_in ms)
  pub fresh : names t.ops v.name ≡ false
  pub foreign : v.home ≢ t.me
  pub free : names t.held v.name ≡ false

-- what is known of an operation that a site comes to apply: it is held there and eligible, and no check refuses it
pub record MayApply (s : Settings) (t : ModelSite) (v : Shadow) : Type 0 where
  pub held : Among v t.held
  pub eligible : is_eligible t.ops v ≡ true
  pub right : refusal_of_sound s t.ops v ≡ None

-- what is known of a token message that a site takes: it was sent, to this site, and its epoch is later than the site's
pub record MayTake (ms : List Message) (t : ModelSite) (m : TokenMessage) : Type 0 where
  pub sent : AmongTokens m (tokens_in ms)
  pub mine : m.to ≡ t.me
  pub later : t.token.epoch < m.epoch

-- what is known if a site passes the token by a message: the site has it, and the message goes to another site,
-- with the next epoch, within the limit, and the larger of the red numbers that the site needs and has applied
pub record MayPass (s : Settings) (t : ModelSite) (m : TokenMessage) : Type 0 where
  pub held : t.token.held ≡ true
  pub to_other : m.to ≢ t.me
  pub to_site : m.to < s.sites
  pub epoch : m.epoch ≡ t.token.epoch + 1
  pub within : m.epoch ≤ s.limits.epoch
  pub red : m.red ≡ max t.token.needed (red_count t.ops)

-- what is known at a site if an event comes to an outcome, by the outcome; nothing if the outcome refuses,
-- answers, shows or drops something
abbrev pub Comes : Settings → List Message → ModelSite → Outcome → Type 0
Comes s ms t (Refuses why) = Unit {0}
Comes s ms t (Answers reply) = Unit {0}
Comes s ms t (Shows a) = Unit {0}
Comes s ms t (Drops x why) = Unit {0}
Comes s ms t (Makes v) = IsMadeAt s t.me t.ops t.token v
Comes s ms t (MakesAll vs) = AreMadeAt s t.me t.ops t.token vs
Comes s ms t (Holds v) = MayHold ms t v
Comes s ms t (Applies v) = MayApply s t v
Comes s ms t (Takes m) = MayTake ms t m
Comes s ms t (Passes m) = MayPass s t m

-- what holds of a refusal, and of what comes if a test doesn't refuse, holds after the test
pub past_test : (P : Outcome → Type 0) (b : Bool) (why : Refusal) (next : Outcome) → P (Refuses why) → (b ≡ false → P next)
    → P (cond b (Refuses why) next)
past_test P true why next r h = r
past_test P false why next r h = h refl

pub past_refusal : {E : Type 0} (P : Outcome → Type 0) (refused : E → Refusal) (o : Option E) (next : Outcome) →
    ((why : Refusal) → P (Refuses why)) → (o ≡ None → P next) → P (unless (λ why. Refuses (refused why)) o next)
past_refusal P refused (Some why) next r h = r (refused why)
past_refusal P refused None next r h = h refl

pub past_known : (P : Outcome → Type 0) (v : Shadow) (o : Option Shadow) (next : Outcome) → P (Answers (Already v.name)) →
    P (Refuses Conflict) → (o ≡ None → P next) → P (unless_known v o next)
past_known P v None next a r h = h refl
past_known P v (Some u) next a r h = at (same_shadow u v)
  where
    at : (b : Bool) → P (cond b (Answers (Already v.name)) (Refuses Conflict))
    at true = a
    at false = r

past_check : (s : Settings) (ms : List Message) (t : ModelSite) (v : Shadow) (o : Option Refusal) → (o ≡ None → MayApply s t v) →
    Comes s ms t (outcome_of_check v o)
past_check s ms t v None h = h refl
past_check s ms t v (Some NotReady) h = tt
past_check s ms t v (Some why) h = tt

comes_shadow : (s : Settings) (ms : List Message) (t : ModelSite) (v : Shadow) → Among v (shadows_in ms) →
    Comes s ms t (outcome_of s t (Receive (ShadowMessage v)))
unfolding outcome_of
comes_shadow s ms t v sent =
    past_refusal (Comes s ms t) BadMessage (fault_of s v) _ (λ why. tt) (λ _.
    past_known (Comes s ms t) v (find_in t.ops v.name) _ tt tt (λ a.
    past_test (Comes s ms t) (v.home == t.me) _ _ tt (λ b.
    past_known (Comes s ms t) v (find_in t.held v.name) _ tt tt (λ c.
    past_test (Comes s ms t) (nat_le s.limits.inbox (length t.held) && not (is_eligible t.ops v)) InboxFull (Holds v) tt (λ d.
    let r : MayHold ms t v = record {
      sent = sent;
      fresh = Lookups.unnamed t.ops v.name a;
      foreign = λ e. false≢true (sym b ∙ Tests.equal v.home t.me e);
      free = Lookups.unnamed t.held v.name c;
    } in r)))))

comes_token : (s : Settings) (ms : List Message) (t : ModelSite) (m : TokenMessage) → AmongTokens m (tokens_in ms) →
    Comes s ms t (outcome_of s t (Receive (TokenOnItsWay m)))
unfolding outcome_of
comes_token s ms t m sent =
    past_refusal (Comes s ms t) (λ why. why) (refusal_of_token s.limits t.me m) _ (λ why. tt) (λ a.
    at (nat_le m.epoch t.token.epoch) refl (not_true (m.to == t.me) (past_first (not (m.to == t.me)) _ _ a).0))
  where
    at : (b : Bool) → nat_le m.epoch t.token.epoch ≡ b → (m.to == t.me) ≡ true → Comes s ms t (cond b (Answers (Stale m.epoch)) (Takes m))
    at true e h = tt
    at false e h = record { sent = sent; mine = Tests.number_sound m.to t.me h; later = Tests.above m.epoch t.token.epoch e }

comes_apply : (s : Settings) (ms : List Message) (t : ModelSite) (o : Option Shadow) → ((v : Shadow) → o ≡ Some v → Among v t.held)
    → Comes s ms t (unless (λ v. cond (not (is_eligible t.ops v)) (Refuses NotReady) (outcome_of_check v (refusal_of_sound s t.ops v))) o
    (Refuses NotHeld))
comes_apply s ms t None found = tt
comes_apply s ms t (Some v) found =
    past_test (Comes s ms t) (not (is_eligible t.ops v)) _ _ tt (λ a.
    past_check s ms t v (refusal_of_sound s t.ops v) (λ b.
    record { held = found v refl; eligible = not_true _ a; right = b }))

comes_pass : (s : Settings) (ms : List Message) (t : ModelSite) (to : ℕ) → Comes s ms t (outcome_of s t (Pass to))
unfolding outcome_of
comes_pass s ms t to =
    past_refusal (Comes s ms t) (λ why. why) (refusal_of_pass s.sites s.limits t.me t.token to) _ (λ why. tt) (λ e.
    let a : ((nat_le s.sites to || (to == t.me)) ≡ false) × _ = past_first (nat_le s.sites to || (to == t.me)) _ _ e in
    let b : (nat_lt s.limits.epoch (t.token.epoch + 1) ≡ false) × _ = past_first (nat_lt s.limits.epoch (t.token.epoch + 1)) _ _ a.1 in
    let c : (not t.token.held ≡ false) × _ = past_first (not t.token.held) _ _ b.1 in
    let d : (nat_le s.sites to ≡ false) × ((to == t.me) ≡ false) = Members.or-false _ _ a.0 in
    record {
      held = not_true _ c.0;
      to_other = λ h. false≢true (sym d.1 ∙ Tests.equal to t.me h);
      to_site = Tests.above s.sites to d.0;
      epoch = refl;
      within = Tests.at_most s.limits.epoch (t.token.epoch + 1) b.0;
      red = refl;
    })

comes_made : {A : Type 0} (s : Settings) (ms : List Message) (t : ModelSite) (next : A → Outcome) (q : Result A Refusal) →
    ((a : A) → q ≡ Ok a → Comes s ms t (next a)) → Comes s ms t (and_then Refuses q next)
comes_made s ms t next (Ok a) h = h a refl
comes_made s ms t next (Err why) h = tt

-- what is known of each event's outcome
pub comes : (s : Settings) (ms : List Message) (t : ModelSite) (e : Event) → IsFrom ms e → Comes s ms t (outcome_of s t e)
unfolding outcome_of
comes s ms t (Submit r) h = comes_made s ms t Makes _ (λ v k. made_is s t.me t.ops t.token r v k)
comes s ms t (Batch rs) h = past_test (Comes s ms t) _ _ _ tt (λ a.
    comes_made s ms t MakesAll _ (λ vs k. batch_is s t.me t.ops t.token 0 rs vs k))
comes s ms t (Receive (ShadowMessage v)) h = comes_shadow s ms t v (sent_among (ShadowMessage v) ms h)
comes s ms t (Receive (TokenOnItsWay m)) h = comes_token s ms t m (sent_among (TokenOnItsWay m) ms h)
comes s ms t (Apply x) h = comes_apply s ms t (find_in t.held x) (λ v k. (Lookups.found t.held x v k).0)
comes s ms t (Pass to) h = comes_pass s ms t to
comes s ms t (Balance a) h = past_test (Comes s ms t) (not (is_account s a)) _ _ tt (λ b. tt)
comes s ms t (AsOf a n) h = past_test (Comes s ms t) (not (is_account s a)) _ _ tt (λ b.
    past_test (Comes s ms t) (nat_lt (length t.ops) n) PositionBeyond (Answers (BalanceIs (cents (bal s (take n t.ops) a)))) tt (λ c. tt))
comes s ms t (AskStatement a) h = past_test (Comes s ms t) (not (is_account s a)) _ _ tt (λ b. tt)

-- ---- a step of the world

-- the site i is n, and these are the messages
abbrev pub moved : World → ℕ → ModelSite → List Message → World
moved w i n ms = record { sites = slice_set w.sites i n; messages = ms }

-- each site after a move
pub each_moved : (w : World) (i : ℕ) (t n : ModelSite) (ms : List Message) (P : ℕ → ModelSite → Type 0)
    → slice_get w.sites i ≡ Some t
    → EachSite w (λ j u. j ≢ i → P j u)
    → P i n
    → EachSite (moved w i n ms) P
each_moved w i t n ms P at others this = Places.each_set w.sites i t n P at this (λ j u ne h. others j u h ne)

-- a fact of the world that each kind of step keeps
pub record Keeps (s : Settings) (P : World → Type 0) : Type 0 where
  pub notes : (w : World) (i : ℕ) (t : ModelSite) (h : List Event) → P w → slice_get w.sites i ≡ Some t →
      P (moved w i (record t { history = h }) w.messages)
  pub makes : (w : World) (i : ℕ) (t : ModelSite) (v : Shadow) → P w → slice_get w.sites i ≡ Some t → IsMadeAt s t.me t.ops t.token v →
      P (moved w i (record t { ops = t.ops ++ v ∷ [] }) (w.messages ++ ShadowMessage v ∷ []))
  pub drops : (w : World) (i : ℕ) (t : ModelSite) (x : OpName) → P w → slice_get w.sites i ≡ Some t →
      P (moved w i (record t { held = without x t.held }) w.messages)
  pub holds : (w : World) (i : ℕ) (t : ModelSite) (v : Shadow) → P w → slice_get w.sites i ≡ Some t → MayHold w.messages t v →
      P (moved w i (record t { held = with_held v t.held }) w.messages)
  pub applies : (w : World) (i : ℕ) (t : ModelSite) (v : Shadow) → P w → slice_get w.sites i ≡ Some t → MayApply s t v →
      P (moved w i (record t { ops = t.ops ++ v ∷ []; held = without v.name t.held }) w.messages)
  pub takes : (w : World) (i : ℕ) (t : ModelSite) (m : TokenMessage) → P w → slice_get w.sites i ≡ Some t → MayTake w.messages t m →
      P (moved w i (record t { token = record { epoch = m.epoch; held = true; needed = m.red } }) w.messages)
  pub passes : (w : World) (i : ℕ) (t : ModelSite) (m : TokenMessage) → P w → slice_get w.sites i ≡ Some t → MayPass s t m →
      P (moved w i (record t { token = record { epoch = m.epoch; held = false; needed = t.token.needed } }) (w.messages ++ TokenOnItsWay m
      ∷ []))

-- several operations, one after another
keeps_made : (s : Settings) (P : World → Type 0) → Keeps s P → (vs : List Shadow) (w : World) (i : ℕ) (t : ModelSite) → P w →
    slice_get w.sites i ≡ Some t → AreMadeAt s t.me t.ops t.token vs →
    P (moved w i (record t { ops = t.ops ++ vs }) (w.messages ++ map ShadowMessage vs))
keeps_made s P keeps [] w i t p at made =
    subst (λ (us : List Shadow). P (moved w i (record t { ops = us }) (w.messages ++ []))) (sym (append-nil t.ops))
    (subst (λ (ms : List Message). P (moved w i t ms)) (sym (append-nil w.messages)) (keeps.notes w i t t.history p at))
keeps_made s P keeps (v ∷ vs) w i t p at made =
    let n : ModelSite = record t { ops = t.ops ++ v ∷ [] } in
    let one : World = moved w i n (w.messages ++ ShadowMessage v ∷ []) in
    let rest : P (moved one i (record n { ops = n.ops ++ vs }) (one.messages ++ map ShadowMessage vs)) =
    keeps_made s P keeps vs one i n (keeps.makes w i t v p at made.0) (get_set_same w.sites i t n at) made.1 in
    subst (λ (us : List Shadow). P (moved w i (record t { ops = us }) (w.messages ++ map ShadowMessage (v ∷ vs)))) (append_assoc t.ops (v
    ∷ []) vs)
    (subst (λ (ms : List Message). P (moved w i (record n { ops = n.ops ++ vs }) ms)) (append_assoc w.messages (ShadowMessage v
    ∷ []) (map ShadowMessage vs))
    (subst (λ (ts : List ModelSite). P (record { sites = ts; messages = one.messages ++ map ShadowMessage vs }))
    (set_set w.sites i n (record n { ops = n.ops ++ vs })) rest))

keeps_outcome : (s : Settings) (P : World → Type 0) → Keeps s P → (w : World) (i : ℕ) (t : ModelSite) (o : Outcome) → P w →
    slice_get w.sites i ≡ Some t → Comes s w.messages t o → P (moved w i (changed t o) (w.messages ++ sent_by o))
keeps_outcome s P keeps w i t o p at c = by o c
  where
    quiet : (n : ModelSite) → P (moved w i n w.messages) → P (moved w i n (w.messages ++ []))
    quiet n q = subst (λ (ms : List Message). P (moved w i n ms)) (sym (append-nil w.messages)) q

    by : (o : Outcome) → Comes s w.messages t o → P (moved w i (changed t o) (w.messages ++ sent_by o))
    by (Refuses why) c = quiet t (keeps.notes w i t t.history p at)
    by (Answers reply) c = quiet t (keeps.notes w i t t.history p at)
    by (Shows a) c = quiet t (keeps.notes w i t t.history p at)
    by (Drops x why) c = quiet _ (keeps.drops w i t x p at)
    by (Makes v) c = keeps.makes w i t v p at c
    by (MakesAll vs) c = keeps_made s P keeps vs w i t p at c
    by (Holds v) c = quiet _ (keeps.holds w i t v p at c)
    by (Applies v) c = quiet _ (keeps.applies w i t v p at c)
    by (Takes m) c = quiet _ (keeps.takes w i t m p at c)
    by (Passes m) c = keeps.passes w i t m p at c

keeps_event : (s : Settings) (P : World → Type 0) → Keeps s P → (w : World) (i : ℕ) (t : ModelSite) (e : Event) → P w →
    slice_get w.sites i ≡ Some t → IsFrom w.messages e → P (world_at s w i (Some e) (Some t))
keeps_event s P keeps w i t e p at sourced = by (is_full s t)
  where
    o : Outcome
    o = outcome_of s t e

    by : (b : Bool) → P (moved w i (cond b t (noted s t e)) (w.messages ++ cond b [] (sent_by o)))
    by true = subst (λ (ms : List Message). P (moved w i t ms)) (sym (append-nil w.messages)) (keeps.notes w i t t.history p at)
    by false =
        let n : ModelSite = changed t o in
        let q : P (moved w i n (w.messages ++ sent_by o)) = keeps_outcome s P keeps w i t o p at (comes s w.messages t e sourced) in
        subst (λ (ts : List ModelSite). P (record { sites = ts; messages = w.messages ++ sent_by o })) (set_set w.sites i n (noted s t e))
        (keeps.notes (moved w i n (w.messages ++ sent_by o)) i n (t.history ++ e ∷ []) q (get_set_same w.sites i t n at))

keeps_at : (s : Settings) (P : World → Type 0) → Keeps s P → (w : World) (i : ℕ) (e : Event) → P w → IsFrom w.messages e →
    P (world_at s w i (Some e) (slice_get w.sites i))
keeps_at s P keeps w i e p sourced = by (slice_get w.sites i) refl
  where
    by : (o : Option ModelSite) → slice_get w.sites i ≡ o → P (world_at s w i (Some e) o)
    by None h = p
    by (Some t) h = keeps_event s P keeps w i t e p h sourced

keeps_delivery : (s : Settings) (P : World → Type 0) → Keeps s P → (w : World) (i k : ℕ) → P w → P (world_after s w (Deliver i k))
keeps_delivery s P keeps w i k p = by (message_at w.messages k) refl
  where
    by : (o : Option Message) → message_at w.messages k ≡ o → P (world_at s w i (option_map Receive o) (slice_get w.sites i))
    by None h = p
    by (Some m) h = keeps_at s P keeps w i (Receive m) p (placed w.messages k m h)

-- what each kind of step keeps holds after every run
pub after_all : (s : Settings) (P : World → Type 0) → Keeps s P → (es : List WorldEvent) (w : World) → AreOwn es → P w →
    P (world_after_all s w es)
after_all s P keeps [] w own p = p
after_all s P keeps (At i e ∷ es) w own p = after_all s P keeps es (world_after s w (At i e)) own.1
    (keeps_at s P keeps w i e p (own_from w.messages e own.0))
after_all s P keeps (Deliver i k ∷ es) w own p = after_all s P keeps es (world_after s w (Deliver i k)) own
    (keeps_delivery s P keeps w i k p)
