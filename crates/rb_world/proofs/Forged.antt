-- A site's replies and its state but for the history don't hang on refused messages.
use Rattle.rb_token.specs.declared.message.TokenMessage.{TokenMessage}
use Rattle.rb_shadow.specs.declared.shadow.Shadow.{Shadow}
use Rattle.std.proofs.lemmas.Bool.{and_parts}
use Rattle.std.proofs.Common.{◌≡◌, ℕ, ◌+◌, ◌≤◌, Bool, true, false, cond, List, [], ◌∷◌, ◌++◌, length, refl, ap, sym, ◌∙◌, arith}
use Rattle.std.proofs.Common.{subst, length-append}
use Rattle.rb_money.specs.Settings.{Settings}
use Rattle.rb_site.specs.declared.message.Message.TheVariants.{Shadow as ShadowMessage, Token as TokenOnItsWay}
use Rattle.rb_site.specs.declared.event.Event.{Event}
use Rattle.rb_site.specs.declared.event.Event.TheVariants.{Receive}
use Rattle.rb_site.specs.declared.reply.Reply.{Reply}
use Rattle.rb_site.proofs.Public.Outcomes.{same_outcome, with_history, changed-with_history}
use Rattle.rb_site.specs.Events.{ModelSite, after_event, after_events, changed, first_site}
use Rattle.rb_site.specs.Events.{is_full, outcome_of, replies_to_events, reply_of, reply_to}
use Rattle.rb_world.specs.Laws.{AreAlike, is_receive, is_refused, is_refused_receive, other_replies, without_refused}
use Rattle.rb_world.proofs.CaughtUp
use Rattle.rb_world.proofs.Ready

-- ---- a refused Receive changes nothing

refused_shadow : (s : Settings) (t : ModelSite) (v : Shadow) →
    is_refused (reply_of s t.ops (outcome_of s t (Receive (ShadowMessage v)))) ≡ true →
    changed t (outcome_of s t (Receive (ShadowMessage v))) ≡ t
unfolding outcome_of
refused_shadow s t v k = grind arith

refused_token : (s : Settings) (t : ModelSite) (m : TokenMessage) →
    is_refused (reply_of s t.ops (outcome_of s t (Receive (TokenOnItsWay m)))) ≡ true →
    changed t (outcome_of s t (Receive (TokenOnItsWay m))) ≡ t
unfolding outcome_of
refused_token s t m k = grind arith

refused_changes_nothing : (s : Settings) (t : ModelSite) (e : Event) → is_receive e ≡ true →
    is_refused (reply_of s t.ops (outcome_of s t e)) ≡ true → changed t (outcome_of s t e) ≡ t
refused_changes_nothing s t (Receive (ShadowMessage v)) h k = refused_shadow s t v k
refused_changes_nothing s t (Receive (TokenOnItsWay m)) h k = refused_token s t m k
refused_changes_nothing s t _ h k = cc

-- ---- one event

-- the site with another history goes on alike
goes_alike : (s : Settings) (t : ModelSite) (h : List Event) (e : Event) → is_full s t ≡ false → is_full s (with_history t h) ≡ false
    → (k : List Event) × (after_event s (with_history t h) e ≡ with_history (after_event s t e) k) × (length k ≡ length h + 1)
goes_alike s t h e room room' = (k, is, length-append h _)
  where
    k : List Event
    k = h ++ e ∷ []

    is : after_event s (with_history t h) e ≡ with_history (after_event s t e) k
    is =
        CaughtUp.after_roomy s (with_history t h) e room'
        ∙ ap (λ o. with_history (changed (with_history t h) o) k) (same_outcome s t h e)
        ∙ ap (λ u. with_history u k) (changed-with_history t h (outcome_of s t e))
        ∙ sym (ap (λ u. with_history u k) (CaughtUp.after_roomy s t e room))

-- a refused Receive leaves the site but for the history
stays_alike : (s : Settings) (t : ModelSite) (h : List Event) (e : Event) → is_full s t ≡ false → is_refused_receive s t e ≡ true →
    with_history (after_event s t e) h ≡ with_history t h
stays_alike s t h e room b =
    let both = and_parts (is_receive e) (is_refused (reply_to s t e)) b in
    ap (λ u. with_history u h) (CaughtUp.after_roomy s t e room) ∙ ap (λ u. with_history u h)
    (refused_changes_nothing s t e both.0 (ap is_refused (sym (Ready.reply_roomy s t e room)) ∙ both.1))

-- ---- a list of events

no_trace_from : (s : Settings) (es : List Event) (t : ModelSite) (h : List Event) → length t.history + length es ≤ s.limits.history →
    length h + length es ≤ s.limits.history
    → AreAlike (after_events s (with_history t h) (without_refused s t es)) (after_events s t es)
    × (replies_to_events s (with_history t h) (without_refused s t es) ≡ other_replies s t es)
no_trace_from s [] t h room room' = (record { me = refl; ops = refl; held = refl; token = refl }, refl)
no_trace_from s (e ∷ es) t h room room' = by (is_refused_receive s t e) refl (λ k r r'. no_trace_from s es (after_event s t e) k r r')
  where
    t2 : ModelSite
    t2 = after_event s t e

    full : is_full s t ≡ false
    full = CaughtUp.roomy s t (length es) (omega arith)

    full' : is_full s (with_history t h) ≡ false
    full' = CaughtUp.roomy s (with_history t h) (length es) (omega arith)

    longer : length t2.history ≡ length t.history + 1
    longer = CaughtUp.history_after s t e full

    Says : ModelSite → List Event → List Reply → Type 0
    Says u fs rs = AreAlike (after_events s u fs) (after_events s t2 es) × (replies_to_events s u fs ≡ rs)

    Rest : Type 0
    Rest = (k : List Event) → length t2.history + length es ≤ s.limits.history → length k + length es ≤ s.limits.history →
        Says (with_history t2 k) (without_refused s t2 es) (other_replies s t2 es)

    by : (b : Bool) → is_refused_receive s t e ≡ b → Rest → Says (with_history t h) (cond b (without_refused s t2 es) (e
        ∷ without_refused s t2 es)) (cond b (other_replies s t2 es) (reply_to s t e ∷ other_replies s t2 es))
    by true q go = subst (λ u. Says u (without_refused s t2 es) (other_replies s t2 es)) (stays_alike s t h e full q)
        (go h (omega (arith, longer)) (omega arith))
    by false q go =
        let (k, is, more) = goes_alike s t h e full full' in
        let r : Says (with_history t2 k) (without_refused s t2 es) (other_replies s t2 es) = go k (omega (arith, longer)) (omega arith) in
        let r' : Says (after_event s (with_history t h) e) (without_refused s t2 es) (other_replies s t2 es) =
        subst (λ u. Says u (without_refused s t2 es) (other_replies s t2 es)) (sym is) r in
        let first : reply_to s (with_history t h) e ≡ reply_to s t e =
        Ready.reply_roomy s (with_history t h) e full' ∙ ap (reply_of s t.ops) (same_outcome s t h e)
        ∙ sym (Ready.reply_roomy s t e full) in (
          r'.0,
          ap (λ x. x ∷ replies_to_events s (after_event s (with_history t h) e) (without_refused s t2 es)) first
              ∙ ap (λ rs. reply_to s t e ∷ rs) r'.1,
        )

-- over no more events than its history may have, a site comes from its start to the same state but for the history,
-- and to the same other replies, without the messages that it refuses
pub no_trace : (s : Settings) (me : ℕ) (es : List Event) → length es ≤ s.limits.history
    → AreAlike (after_events s (first_site me) (without_refused s (first_site me) es)) (after_events s (first_site me) es)
    × (replies_to_events s (first_site me) (without_refused s (first_site me) es) ≡ other_replies s (first_site me) es)
no_trace s me es room = no_trace_from s es (first_site me) [] (omega arith) (omega arith)
