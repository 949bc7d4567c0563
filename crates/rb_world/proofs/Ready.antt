-- No operation of the world is refused if its past is there.
use Rattle.std.proofs.Common.{◌≡◌, ℕ, ◌≤◌, Bool, true, false, cond, not, ◌&&◌, ◌||◌, List, [], ◌∷◌, ◌++◌, length, refl, ap, sym, ◌∙◌, arith}
use Rattle.std.proofs.Common.{◌⊎◌, inl, inr, subst, Option, Some, None}
use Rattle.std.specs.Prelude.{option_map, slice_get, nat_le, ◌==◌}
use Rattle.std.proofs.lemmas.Bool.Decides.{nat_tests}
use Rattle.rb_money.specs.Refusals.{unless}
use Rattle.rb_money.proofs.Public.Tests
use Rattle.rb_money.specs.Settings.{Settings}
use Rattle.rb_money.specs.declared.refusal.Refusal.TheVariants.{BadMessage, Conflict, HistoryFull, InboxFull, NotHeld, NotReady}
use Rattle.rb_shadow.specs.declared.shadow.Shadow.{Shadow}
use Rattle.rb_shadow.specs.Operations.{Among, IsUnique, IsWithin, find_in, is_eligible, names, past, same_shadow}
use Rattle.rb_shadow.proofs.Public.Members
use Rattle.rb_shadow.proofs.Public.Lookups
use Rattle.rb_shadow.specs.Laws.{IsClosed, IsPart}
use Rattle.rb_shadow.proofs.Public.Eligible
use Rattle.rb_shadow.proofs.Public.SameShadows.{same_shadow-refl}
use Rattle.rb_ledger.specs.Checks.{refusal_of_sound}
use Rattle.rb_ledger.proofs.Public.Pasts
use Rattle.rb_token.specs.declared.message.TokenMessage.{TokenMessage}
use Rattle.rb_site.specs.declared.message.Message.{Message}
use Rattle.rb_site.specs.declared.message.Message.TheVariants.{Shadow as ShadowMessage, Token as TokenOnItsWay}
use Rattle.rb_site.specs.declared.event.Event.{Event}
use Rattle.rb_site.specs.declared.event.Event.TheVariants.{Apply, Receive}
use Rattle.rb_site.specs.declared.reply.Reply.{Reply}
use Rattle.rb_site.specs.declared.reply.Reply.TheVariants.{Already, Refused}
use Rattle.rb_site.specs.declared.world_event.WorldEvent.TheVariants.{Deliver}
use Rattle.rb_site.specs.Events.{Answers, Applies, Holds, ModelSite, Outcome, Refuses, is_full, outcome_of, outcome_of_check}
use Rattle.rb_site.specs.Events.{reply_of, reply_to, unless_known}
use Rattle.rb_site.specs.Worlds.{World, made_in, message_at, reply_at, reply_in}
use Rattle.rb_world.specs.Laws.{NeverStuck, TrustsItsOwn}
use Rattle.rb_world.proofs.Steps
use Rattle.rb_world.proofs.Order
use Rattle.rb_world.proofs.Good.{IsGood, IsInOrder, sound_in}
use Rattle.rb_world.proofs.Lawful

-- ---- looking up a name

-- what is found under an operation's name is the operation
found_is : (all us : List Shadow) (u v : Shadow) → IsUnique all → IsPart us all → Among v all → find_in us v.name ≡ Some u → u ≡ v
found_is all us u v unique part h e = let f : Among u us × (u.name ≡ v.name) = Lookups.found us v.name u e in
    Members.same_named all u v unique (part u f.0) h f.1

-- ---- the check of an operation of the world

-- a list with one more that has its past there is closed
closed_more : (us : List Shadow) (v : Shadow) → IsClosed us → IsWithin (past v) (names us) → IsClosed (us ++ v ∷ [])
closed_more us v closed within u h x k = Members.names-append us (v ∷ []) x
    ∙ ap (λ b. b || names (v ∷ []) x) (elim (Order.last_cases us v u h) [
      | inl i ↦ closed u i x k
      | inr e ↦ within x (ap (λ (y : Shadow). past y x) (sym e) ∙ k)
    ])

applied_if_ready : (s : Settings) (w : World) (i : ℕ) (t : ModelSite) (v : Shadow) → IsGood s w → IsInOrder s (made_in w) i t →
    Among v (made_in w) → names t.ops v.name ≡ false → IsWithin (past v) (names t.ops) → refusal_of_sound s t.ops v ≡ None
applied_if_ready s w i t v g here there fresh within =
    Pasts.passes s (made_in w) t.ops v g.order.unique (g.order.pasts v there) here.valid.unique here.part fresh within
    (λ a. Lawful.part_never_negative s w (t.ops ++ v ∷ []) a g (Order.part-last (made_in w) t.ops v here.part there)
    (Members.IsUnique-push t.ops v here.valid.unique fresh)
    (closed_more t.ops v (λ u h. Pasts.past_inside t.ops u here.valid.past_before h) within))

-- ---- the replies

-- in a good world a site that gets to apply an operation that it holds, and whose past is there, applies it
pub site_applies : (s : Settings) (w : World) (i : ℕ) (t : ModelSite) (v : Shadow) → IsGood s w → slice_get w.sites i ≡ Some t →
    Among v t.held → IsWithin (past v) (names t.ops) → outcome_of s t (Apply v.name) ≡ Applies v
unfolding outcome_of
site_applies s w i t v g at held within =
    let (u, e) = Lookups.found_named t.held v.name (Members.named t.held v held) in
    let is : u ≡ v = found_is (made_in w) t.held u v g.order.unique here.held (here.held v held) e in
    let ok : refusal_of_sound s t.ops v ≡ None = applied_if_ready s w i t v g here (here.held v held) (here.inbox v held) within in
    ap (λ o. unless applying o (Refuses NotHeld)) e ∙ ap applying is
    ∙ ap (λ b. cond (not b) (Refuses NotReady) (outcome_of_check v (refusal_of_sound s t.ops v))) (Eligible.eligible_from t.ops v within)
    ∙ ap (outcome_of_check v) ok
  where
    here : IsInOrder s (made_in w) i t
    here = g.sites i t at

    applying : Shadow → Outcome
    applying u = cond (not (is_eligible t.ops u)) (Refuses NotReady) (outcome_of_check u (refusal_of_sound s t.ops u))

-- what a site answers to an operation of the world
abbrev pub IsTrusting : Settings → ModelSite → Shadow → Outcome → Type 0
IsTrusting s t v o = ((o ≡ Answers (Already v.name)) × ((names t.ops v.name ≡ true) ⊎ Among v t.held))
    ⊎ ((o ≡ Holds v) ⊎ ((o ≡ Refuses InboxFull) × (is_eligible t.ops v ≡ false)))

-- in a good world an operation that was made, when a site receives it, is known there, comes to be held, or is refused
-- for a full inbox while it isn't eligible
pub site_receives : (s : Settings) (w : World) (i : ℕ) (t : ModelSite) (v : Shadow) → IsGood s w → slice_get w.sites i ≡ Some t →
    Among v (made_in w) → IsTrusting s t v (outcome_of s t (Receive (ShadowMessage v)))
unfolding outcome_of
site_receives s w i t v g at made = subst (IsTrusting s t v) (sym (ap (λ o. unless (λ why. Refuses (BadMessage why)) o next)
    (sound_in s w v g made))) (by_ops (find_in t.ops v.name) refl)
  where
    here : IsInOrder s (made_in w) i t
    here = g.sites i t at

    room : Outcome
    room = cond (nat_le s.limits.inbox (length t.held) && not (is_eligible t.ops v)) (Refuses InboxFull) (Holds v)

    next : Outcome
    next = unless_known v (find_in t.ops v.name) (cond (v.home == t.me) (Refuses Conflict) (unless_known v (find_in t.held v.name) room))

    known : (u : Shadow) (us : List Shadow) (o : Outcome) → IsPart us (made_in w) → find_in us v.name ≡ Some u →
        unless_known v (Some u) o ≡ Answers (Already v.name)
    known u us o part e = let is : u ≡ v = found_is (made_in w) us u v g.order.unique part made e in
        ap (λ c. cond c (Answers (Already v.name)) (Refuses Conflict)) (ap (λ (x : Shadow). same_shadow x v) is ∙ same_shadow-refl v)

    by_room : (b : Bool) (c : Bool) → is_eligible t.ops v ≡ c → IsTrusting s t v (cond (b && not c) (Refuses InboxFull) (Holds v))
    by_room false c e = inr (inl refl)
    by_room true true e = inr (inl refl)
    by_room true false e = inr (inr (refl, e))

    by_held : (o : Option Shadow) → find_in t.held v.name ≡ o → IsTrusting s t v (unless_known v o room)
    by_held None e = by_room (nat_le s.limits.inbox (length t.held)) (is_eligible t.ops v) refl
    by_held (Some u) e = inl (
      known u t.held room here.held e,
      inr (subst (λ x. Among x t.held)
          (found_is (made_in w) t.held u v g.order.unique here.held made e) (Lookups.found t.held v.name u e).0),
    )

    away : find_in t.ops v.name ≡ None → (v.home == t.me) ≡ false
    away e = elim (Members.bool_cases (v.home == t.me)) [
      | inl k ↦ absurd (Members.true≢false (sym (Members.named t.ops v
          (here.own v made (Tests.number_sound v.home t.me k ∙ g.place.numbered i t at))) ∙ Lookups.unnamed t.ops v.name e))
      | inr k ↦ k
    ]

    by_ops : (o : Option Shadow) → find_in t.ops v.name ≡ o → IsTrusting s t v
        (unless_known v o (cond (v.home == t.me) (Refuses Conflict) (unless_known v (find_in t.held v.name) room)))
    by_ops (Some u) e = inl (
      known u t.ops (cond (v.home == t.me) (Refuses Conflict) (unless_known v (find_in t.held v.name) room))
          here.part e,
      inl (let f : Among u t.ops × (u.name ≡ v.name) = Lookups.found t.ops v.name u e in
          ap (names t.ops) (sym f.1) ∙ Members.named t.ops u f.0),
    )
    by_ops None e = subst (λ c. IsTrusting s t v (cond c (Refuses Conflict) (unless_known v (find_in t.held v.name) room))) (sym (away e))
        (by_held (find_in t.held v.name) refl)

-- ---- the laws

-- the reply of a site whose history isn't full
pub reply_roomy : (s : Settings) (t : ModelSite) (e : Event) → is_full s t ≡ false → reply_to s t e ≡ reply_of s t.ops (outcome_of s t e)
reply_roomy s t e h = ap (λ b. cond b (Refused HistoryFull) (reply_of s t.ops (outcome_of s t e))) h

sent_shadow : (w : World) (k : ℕ) (v : Shadow) → message_at w.messages k ≡ Some (ShadowMessage v) → Among v (made_in w)
sent_shadow w k v h = Steps.sent_message w.messages k (ShadowMessage v) h

reply_there : (s : Settings) (w : World) (i k : ℕ) (t : ModelSite) (m : Message) → slice_get w.sites i ≡ Some t →
    message_at w.messages k ≡ Some m → reply_in s w (Deliver i k) ≡ reply_to s t (Receive m)
reply_there s w i k t m at h = ap (λ o. reply_at s o (option_map Receive (message_at w.messages k))) at
    ∙ ap (λ o. reply_at s (Some t) (option_map Receive o)) h

-- in a good world no site is stuck
pub never_stuck : (s : Settings) (w : World) → IsGood s w → NeverStuck s w
never_stuck s w g = record {
  delivered = λ i t at room v k h within.
      let reply : reply_in s w (Deliver i k) ≡ reply_of s t.ops (outcome_of s t (Receive (ShadowMessage v))) =
      reply_there s w i k t (ShadowMessage v) at h ∙ reply_roomy s t (Receive (ShadowMessage v)) room in
      elim (site_receives s w i t v g at (sent_shadow w k v h)) [
        | inl e ↦ inr (reply ∙ ap (reply_of s t.ops) e.0)
        | inr q ↦ elim q [
          | inl e ↦ inl (reply ∙ ap (reply_of s t.ops) e)
          | inr e ↦ absurd (Members.true≢false (sym (Eligible.eligible_from t.ops v within) ∙ e.1))
        ]
      ];
  applied = λ i t at room v held within.
      ap (λ o. reply_at s o (Some (Apply v.name))) at ∙ reply_roomy s t (Apply v.name) room
      ∙ ap (reply_of s t.ops) (site_applies s w i t v g at held within);
}

-- neither refusal
abbrev Trusts : Reply → Type 0
Trusts r = (r ≡ Refused Conflict → ⊥) × ((why : ℕ) → r ≡ Refused (BadMessage why) → ⊥)

trusts_full : Trusts (Refused HistoryFull)
trusts_full = (λ e. cc, λ why e. cc)

trusts_shadow : (s : Settings) (t : ModelSite) (v : Shadow) (o : Outcome) → IsTrusting s t v o → Trusts (reply_of s t.ops o)
trusts_shadow s t v o (inl e) = subst (λ o. Trusts (reply_of s t.ops o)) (sym e.0) (λ e. cc, λ why e. cc)
trusts_shadow s t v o (inr (inl e)) = subst (λ o. Trusts (reply_of s t.ops o)) (sym e) (λ e. cc, λ why e. cc)
trusts_shadow s t v o (inr (inr e)) = subst (λ o. Trusts (reply_of s t.ops o)) (sym e.0) (λ e. cc, λ why e. cc)

trusts_token : (s : Settings) (t : ModelSite) (m : TokenMessage) → m.epoch ≤ s.limits.epoch → m.red ≤ s.limits.red →
    Trusts (reply_of s t.ops (outcome_of s t (Receive (TokenOnItsWay m))))
unfolding outcome_of
trusts_token s t m epoch red = (λ e. grind (arith, nat_tests), λ why e. grind (arith, nat_tests))

trusts_site : (s : Settings) (w : World) (i : ℕ) (t : ModelSite) (m : Message) → IsGood s w → slice_get w.sites i ≡ Some t →
    Steps.IsSent w.messages m → Trusts (reply_to s t (Receive m))
trusts_site s w i t m g at sent = by_room (is_full s t)
  where
    by_message : (m : Message) → Steps.IsSent w.messages m → Trusts (reply_of s t.ops (outcome_of s t (Receive m)))
    by_message (ShadowMessage v) h = trusts_shadow s t v (outcome_of s t (Receive (ShadowMessage v))) (site_receives s w i t v g at h)
    by_message (TokenOnItsWay m) h = let q = g.tokens m h in trusts_token s t m q.0 q.1

    by_room : (c : Bool) → Trusts (cond c (Refused HistoryFull) (reply_of s t.ops (outcome_of s t (Receive m))))
    by_room true = trusts_full
    by_room false = by_message m sent

-- in a good world no delivery is refused as a bad message or as a conflict
pub trusts_its_own : (s : Settings) (w : World) → IsGood s w → TrustsItsOwn s w
trusts_its_own s w g i k = by_site (slice_get w.sites i) refl
  where
    by_message : (t : ModelSite) → slice_get w.sites i ≡ Some t → (o : Option Message) → message_at w.messages k ≡ o →
        Trusts (reply_at s (Some t) (option_map Receive o))
    by_message t at None h = (λ e. cc, λ why e. cc)
    by_message t at (Some m) h = trusts_site s w i t m g at (Steps.sent_message w.messages k m h)

    by_site : (o : Option ModelSite) → slice_get w.sites i ≡ o → Trusts (reply_at s o (option_map Receive (message_at w.messages k)))
    by_site None h = (λ e. cc, λ why e. cc)
    by_site (Some t) h = by_message t h (message_at w.messages k) refl
