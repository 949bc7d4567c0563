-- A site can be brought to all that was made.
use Rattle.std.proofs.Common.{◌≡◌, ℕ, suc, ◌+◌, ◌<◌, ◌≤◌, Bool, true, false, cond, ◌||◌, List, [], ◌∷◌, ◌++◌, length, refl, ap, sym, ◌∙◌}
use Rattle.std.proofs.Common.{arith, ◌⊎◌, inl, inr, subst, Some, append_assoc, length-append}
use Rattle.std.specs.Prelude.{slice_get}
use Rattle.std.proofs.lemmas.Bool.Decides.{nat_tests}
use Rattle.std.proofs.lemmas.List.{append-nil}
use Rattle.rb_money.specs.Settings.{Settings}
use Rattle.rb_shadow.specs.declared.shadow.Shadow.{Shadow}
use Rattle.rb_shadow.specs.Operations.{Among, IsWithin, names, past, same_name}
use Rattle.rb_shadow.proofs.Public.Members
use Rattle.rb_shadow.proofs.Public.Eligible
use Rattle.rb_site.specs.declared.message.Message.{Message}
use Rattle.rb_site.specs.declared.message.Message.TheVariants.{Shadow as ShadowMessage, Token as TokenOnItsWay}
use Rattle.rb_site.specs.declared.event.Event.{Event}
use Rattle.rb_site.specs.declared.event.Event.TheVariants.{Apply, Receive}
use Rattle.rb_site.specs.declared.reply.Reply.TheVariants.{Already}
use Rattle.rb_site.specs.declared.world_event.WorldEvent.{WorldEvent}
use Rattle.rb_site.specs.declared.world_event.WorldEvent.TheVariants.{At, Deliver}
use Rattle.rb_site.specs.Events.{Answers, Applies, Holds, Makes, MakesAll, ModelSite, Outcome}
use Rattle.rb_site.specs.Events.{after_event, changed, is_full, outcome_of, sent_at}
use Rattle.rb_inbox.specs.Held.{comes_before, with_held}
use Rattle.rb_site.specs.Worlds.{AreOwn, World, made_in, message_at, shadows_in, world_after, world_after_all, world_at}
use Rattle.rb_world.specs.Laws.{CanCatchUp, catching_up}
use Rattle.rb_world.proofs.Steps
use Rattle.rb_site.proofs.Public.Places.{get_set_same}
use Rattle.rb_site.proofs.Public.Outcomes.{with_history}
use Rattle.rb_site.proofs.Public.Runs
use Rattle.rb_world.proofs.Token
use Rattle.rb_world.proofs.Good
use Rattle.rb_world.proofs.Good.{IsGood}
use Rattle.rb_world.proofs.Places
use Rattle.rb_world.proofs.Ready

-- ---- a list of applied operations only grows

names-left : (us vs : List Shadow) → IsWithin (names us) (names (us ++ vs))
names-left us vs x h = Members.names-append us vs x ∙ ap (λ b. b || names vs x) h

changed_grows : (t : ModelSite) (o : Outcome) → IsWithin (names t.ops) (names (changed t o).ops)
changed_grows t (Makes v) x h = names-left t.ops (v ∷ []) x h
changed_grows t (MakesAll vs) x h = names-left t.ops vs x h
changed_grows t (Applies v) x h = names-left t.ops (v ∷ []) x h
changed_grows t _ x h = h

-- the site after an event, if its history wasn't full
pub after_roomy : (s : Settings) (t : ModelSite) (e : Event) → is_full s t ≡ false → after_event s t e ≡ Runs.noted s t e
after_roomy s t e h = ap (λ b. cond b t (Runs.noted s t e)) h

-- if a site's history wasn't full, it has one entry more after an event
pub history_after : (s : Settings) (t : ModelSite) (e : Event) → is_full s t ≡ false →
    length (after_event s t e).history ≡ length t.history + 1
history_after s t e h =
    ap (λ (u : ModelSite). length u.history) (after_roomy s t e h) ∙ length-append t.history (e ∷ [])

-- ---- what holds while a site catches up

-- a site that catches up in a good world: it applied the operations it knew and those of the messages that are done
-- with; others are to come, after which are those sent meanwhile
pub record IsStage (s : Settings) (w : World) (i : ℕ) (t : ModelSite) (known : List Shadow) (front rest extra : List Message) : Type 0 where
  pub good : IsGood s w
  pub at : slice_get w.sites i ≡ Some t
  pub messages : w.messages ≡ front ++ rest ++ extra
  pub knows : IsWithin (names known) (names t.ops)
  pub has : IsWithin (names (shadows_in front)) (names t.ops)

deliver_is : (s : Settings) (w : World) (i k : ℕ) (t : ModelSite) (m : Message) → slice_get w.sites i ≡ Some t →
    message_at w.messages k ≡ Some m → world_after s w (Deliver i k) ≡ world_at s w i (Some (Receive m)) (Some t)
deliver_is s w i k t m at h = cc

-- an event at the site keeps the stage, but for what was sent meanwhile
stage_after : (s : Settings) (w : World) (i : ℕ) (t : ModelSite) (known : List Shadow) (front rest extra : List Message) (e : WorldEvent)
    (x : Event)
    → AreOwn (e ∷ []) → world_after s w e ≡ world_at s w i (Some x) (Some t) → is_full s t ≡ false → IsStage s w i t known front rest extra
    → IsStage s (world_after s w e) i (after_event s t x) known front rest (extra ++ sent_at s t x)
stage_after s w i t known front rest extra e x own is room g =
    record {
      good = Steps.after_all s (IsGood s) (Good.keeps_good s) (e ∷ []) w own g.good;
      at = ap (λ (v : World). slice_get v.sites i) is ∙ get_set_same w.sites i t (after_event s t x) g.at;
      messages = ap (λ (v : World). v.messages) is ∙ ap (λ ms. ms ++ sent_at s t x) g.messages
          ∙ append_assoc (front ++ rest) extra (sent_at s t x);
      knows = λ y h. grows y (g.knows y h);
      has = λ y h. grows y (g.has y h);
    }
  where
    grows : IsWithin (names t.ops) (names (after_event s t x).ops)
    grows y h = ap (λ (u : ModelSite). names u.ops y) (after_roomy s t x room) ∙ changed_grows t (outcome_of s t x) y h

-- a history that may have at least one entry more isn't full
pub roomy : (s : Settings) (t : ModelSite) (n : ℕ) → length t.history + suc n ≤ s.limits.history → is_full s t ≡ false
roomy s t n h = let less : length t.history < s.limits.history = omega arith in grind (arith, nat_tests)

-- ---- one operation that is missing

held_there : (v : Shadow) (us : List Shadow) → Among v (with_held v us)
held_there v [] = inl refl
held_there v (u ∷ us) =
    let rest = held_there v us in
    elim (comes_before v.name u.name) as (λ b. Among v (cond b (v ∷ u ∷ us) (u ∷ with_held v us))) [ true ↦ inl refl | false ↦ inr rest ]

-- after the delivery the operation was applied, or is held
delivered_there : (s : Settings) (w : World) (i : ℕ) (t : ModelSite) (v : Shadow) → IsGood s w → slice_get w.sites i ≡ Some t →
    is_full s t ≡ false → Among v (made_in w) → IsWithin (past v) (names t.ops)
    → (names (after_event s t (Receive (ShadowMessage v))).ops v.name ≡ true) ⊎ Among v (after_event s t (Receive (ShadowMessage v))).held
delivered_there s w i t v g at room made within = elim (Ready.site_receives s w i t v g at made) [
  | inl e ↦ elim e.1 [
    | inl h ↦ inl (ap (λ (u : ModelSite). names u.ops v.name) (is (Answers (Already v.name)) e.0) ∙ h)
    | inr h ↦ inr (subst (λ (u : ModelSite). Among v u.held) (sym (is (Answers (Already v.name)) e.0)) h)
  ]
  | inr q ↦ elim q [
    | inl e ↦ inr (subst (λ (u : ModelSite). Among v u.held) (sym (is (Holds v) e)) (held_there v t.held))
    | inr e ↦ absurd (Members.true≢false (sym (Eligible.eligible_from t.ops v within) ∙ e.1))
  ]
]
  where
    is : (o : Outcome) → outcome_of s t (Receive (ShadowMessage v)) ≡ o →
        after_event s t (Receive (ShadowMessage v)) ≡ record (changed t o) { history = t.history ++ Receive (ShadowMessage v) ∷ [] }
    is o e = after_roomy s t (Receive (ShadowMessage v)) room ∙ ap (λ o. with_history (changed t o) (t.history ++ Receive (ShadowMessage v)
        ∷ [])) e

-- after the event Apply it was applied
applied_there : (s : Settings) (w : World) (i : ℕ) (t : ModelSite) (v : Shadow) → IsGood s w → slice_get w.sites i ≡ Some t →
    is_full s t ≡ false → IsWithin (past v) (names t.ops) → (names t.ops v.name ≡ true) ⊎ Among v t.held →
    names (after_event s t (Apply v.name)).ops v.name ≡ true
applied_there s w i t v g at room within (inl h) = ap (λ (u : ModelSite). names u.ops v.name) (after_roomy s t (Apply v.name) room)
    ∙ changed_grows t (outcome_of s t (Apply v.name)) v.name h
applied_there s w i t v g at room within (inr h) =
    ap (λ (u : ModelSite). names u.ops v.name) (after_roomy s t (Apply v.name) room)
    ∙ ap (λ o. names (changed t o).ops v.name) (Ready.site_applies s w i t v g at h within)
    ∙ Members.names-append t.ops (v ∷ []) v.name ∙ Members.or-right (names t.ops v.name) (names (v ∷ []) v.name) (ap (λ b. b
    || false) (Members.same_name-refl v.name))

-- ---- all of them

shadows_split : (front rest extra : List Message) (v : Shadow) → shadows_in ((front ++ ShadowMessage v ∷ rest) ++ extra) ≡ shadows_in front
    ++ v ∷ shadows_in (rest ++ extra)
shadows_split front rest extra v = ap shadows_in (append_assoc front (ShadowMessage v ∷ rest) extra)
    ∙ Token.shadows_in-append front (ShadowMessage v ∷ (rest ++ extra))

-- the next message comes to those that are done with
step_on : (s : Settings) (w : World) (i : ℕ) (t : ModelSite) (known : List Shadow) (front rest extra : List Message) (m : Message) →
    IsStage s w i t known front (m ∷ rest) extra → IsWithin (names (shadows_in (front ++ m ∷ []))) (names t.ops) →
    IsStage s w i t known (front ++ m ∷ []) rest extra
step_on s w i t known front rest extra m g has = record {
  good = g.good;
  at = g.at;
  messages = g.messages ∙ ap (λ ms. ms ++ extra) (sym (append_assoc front (m ∷ []) rest));
  knows = g.knows;
  has = has;
}

next_place : (front : List Message) (m : Message) (k : ℕ) → k ≡ suc (length front) → k + 1 ≡ suc (length (front ++ m ∷ []))
next_place front m k e = let h : length (front ++ m ∷ []) ≡ length front + 1 = length-append front (m ∷ []) in omega arith

regrouped : (front rest : List Message) (m : Message) (us : List Shadow) →
    IsWithin (names (shadows_in ((front ++ m ∷ []) ++ rest))) (names us) → IsWithin (names (shadows_in (front ++ m ∷ rest))) (names us)
regrouped front rest m us h x k = h x (ap (λ ms. names (shadows_in ms) x) (append_assoc front (m ∷ []) rest) ∙ k)

with_last : (s : Settings) (w : World) (i : ℕ) (t : ModelSite) (known : List Shadow) (front rest extra : List Message) (v : Shadow) →
    IsStage s w i t known front (ShadowMessage v ∷ rest) extra → names t.ops v.name ≡ true →
    IsWithin (names (shadows_in (front ++ ShadowMessage v ∷ []))) (names t.ops)
with_last s w i t known front rest extra v g there x h = elim (Members.or-true (names (shadows_in front) x) (names (v
    ∷ []) x) (sym (ap (λ us. names us x) (Token.made_more front v) ∙ Members.names-append (shadows_in front) (v ∷ []) x) ∙ h)) [
      | inl k ↦ g.has x k
      | inr k ↦ elim (Members.or-true (same_name v.name x) false k) [
        | inl e ↦ ap (names t.ops) (sym (Members.same_name-true v.name x e)) ∙ there
        | inr e ↦ absurd (Members.true≢false (sym e))
      ]
    ]

past_there : (s : Settings) (w : World) (i : ℕ) (t : ModelSite) (known : List Shadow) (front rest extra : List Message) (v : Shadow) →
    IsStage s w i t known front (ShadowMessage v ∷ rest) extra → IsWithin (past v) (names t.ops)
past_there s w i t known front rest extra v g x h = g.has x (g.good.order.in_turn (shadows_in front) v (shadows_in (rest
    ++ extra)) (ap shadows_in g.messages ∙ shadows_split front rest extra v) x h)

made_there : (s : Settings) (w : World) (i : ℕ) (t : ModelSite) (known : List Shadow) (front rest extra : List Message) (v : Shadow) →
    IsStage s w i t known front (ShadowMessage v ∷ rest) extra → Among v (made_in w)
made_there s w i t known front rest extra v g = subst (Among v) (sym (ap shadows_in g.messages
    ∙ shadows_split front rest extra v)) (Members.Among-right (shadows_in front) (v ∷ shadows_in (rest ++ extra)) v (inl refl))

placed_there : (s : Settings) (w : World) (i k : ℕ) (t : ModelSite) (known : List Shadow) (front rest extra : List Message) (m : Message) →
    k ≡ suc (length front) → IsStage s w i t known front (m ∷ rest) extra → message_at w.messages k ≡ Some m
placed_there s w i k t known front rest extra m e g = ap (message_at w.messages) e
    ∙ ap (λ ms. slice_get ms (length front)) (g.messages ∙ append_assoc front (m ∷ rest) extra) ∙ Places.get_after front (rest ++ extra) m

caught_up : (s : Settings) (rest : List Message) (w : World) (i k : ℕ) (t : ModelSite) (known : List Shadow) (front extra : List Message) →
    k ≡ suc (length front) → IsStage s w i t known front rest extra
    → length t.history + length (catching_up i known k rest) ≤ s.limits.history
    → (u : ModelSite) → slice_get (world_after_all s w (catching_up i known k rest)).sites i ≡ Some u →
    IsWithin (names (shadows_in (front ++ rest))) (names u.ops)
caught_up s [] w i k t known front extra e g room u there = λ x h.
    let same : u ≡ t = cc (there, g.at) in rw same (g.has x (rw append-nil at h))
caught_up s (TokenOnItsWay m ∷ rest) w i k t known front extra e g room u there =
    regrouped front rest (TokenOnItsWay m) u.ops
    (caught_up s rest w i (k + 1) t known (front ++ TokenOnItsWay m ∷ []) extra (next_place front (TokenOnItsWay m) k e)
    (step_on s w i t known front rest extra (TokenOnItsWay m) g (λ x h. g.has x (ap (λ us. names us x) (sym (Token.made_same front m))
    ∙ h)))
    room u there)
caught_up s (ShadowMessage v ∷ rest) w i k t known front extra e g room u there =
    regrouped front rest (ShadowMessage v) u.ops
    (by (names known v.name) refl room there (λ w' t' extra' g' room' there'. caught_up s rest w' i (k + 1) t' known (front
    ++ ShadowMessage v ∷ []) extra' (next_place front (ShadowMessage v) k e) g' room' u there'))
  where
    later : List WorldEvent
    later = catching_up i known (k + 1) rest

    Done : Type 0
    Done = IsWithin (names (shadows_in ((front ++ ShadowMessage v ∷ []) ++ rest))) (names u.ops)

    Rest : Type 0
    Rest = (w' : World) (t' : ModelSite) (extra' : List Message) → IsStage s w' i t' known (front ++ ShadowMessage v ∷ []) rest extra' →
        length t'.history + length later ≤ s.limits.history → slice_get (world_after_all s w' later).sites i ≡ Some u → Done

    by : (b : Bool) → names known v.name ≡ b → length t.history + length (cond b later (Deliver i k ∷ At i (Apply v.name) ∷ later))
        ≤ s.limits.history → slice_get (world_after_all s w (cond b later (Deliver i k ∷ At i (Apply v.name) ∷ later))).sites i ≡ Some u →
        Rest → Done
    by true q room' there' go = go w t extra (step_on s w i t known front rest extra (ShadowMessage v) g
        (with_last s w i t known front rest extra v g (g.knows v.name q))) room' there'
    by false q room' there' go =
        let m = ShadowMessage v in
        let full = roomy s t (suc (length later)) (omega arith) in
        let at1 = deliver_is s w i k t m g.at (placed_there s w i k t known front rest extra m e g) in
        let g1 = stage_after s w i t known front (m ∷ rest) extra (Deliver i k) (Receive m) tt at1 full g in
        let h1 = history_after s t (Receive m) full in
        let w1 = world_after s w (Deliver i k) in
        let t1 = after_event s t (Receive m) in
        let extra1 = extra ++ sent_at s t (Receive m) in
        let full1 = roomy s t1 (length later) (omega arith) in
        let held1 = delivered_there s w i t v g.good g.at full (made_there s w i t known front rest extra v g)
        (past_there s w i t known front rest extra v g) in
        let at2 = ap (world_at s w1 i (Some (Apply v.name))) g1.at in
        let g2 = stage_after s w1 i t1 known front (m ∷ rest) extra1 (At i (Apply v.name)) (Apply v.name) (tt, tt) at2 full1 g1 in
        let h2 = history_after s t1 (Apply v.name) full1 in
        let there2 = applied_there s w1 i t1 v g1.good g1.at full1 (past_there s w1 i t1 known front rest extra1 v g1) held1 in
        let w2 = world_after s w1 (At i (Apply v.name)) in
        let t2 = after_event s t1 (Apply v.name) in
        let extra2 = extra1 ++ sent_at s t1 (Apply v.name) in
        go w2 t2 extra2 (step_on s w2 i t2 known front rest extra2 m g2 (with_last s w2 i t2 known front rest extra2 v g2 there2))
        (omega arith) there'

-- in a good world a site whose history may have the entries for it can be brought to all that was made
pub can_catch_up : (s : Settings) (w : World) → IsGood s w → CanCatchUp s w
can_catch_up s w g i t at room u there =
    caught_up s w.messages w i 1 t t.ops [] [] refl
    (record { good = g; at = at; messages = sym (append-nil w.messages); knows = λ x h. h; has = λ x h. cc })
    room u there
