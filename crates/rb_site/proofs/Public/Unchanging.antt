-- Events that change nothing but the history.
use Rattle.std.proofs.Common.{◌≡◌, ◌+◌, ◌≤◌, Bool, true, false, cond, List, [], ◌∷◌, ◌++◌, length, refl, ap, sym, ◌∙◌, arith}
use Rattle.std.proofs.Common.{subst, length-append}
use Rattle.std.proofs.lemmas.Bool.Decides.{nat_tests}
use Rattle.rb_money.specs.Settings.{Settings}
use Rattle.rb_money.specs.declared.refusal.Refusal.TheVariants.{HistoryFull}
use Rattle.rb_site.specs.declared.event.Event.{Event}
use Rattle.rb_site.specs.declared.message.Message.{Message}
use Rattle.rb_site.specs.declared.reply.Reply.{Reply}
use Rattle.rb_site.specs.declared.reply.Reply.TheVariants.{Refused}
use Rattle.rb_site.specs.Events.{Answers, Applies, Drops, Holds, Makes, MakesAll, ModelSite, Outcome, Passes, Refuses, Shows, Takes}
use Rattle.rb_site.specs.Events.{after_event, after_events, changed, changes, first_site, is_full, outcome_of, replies_to_events}
use Rattle.rb_site.specs.Events.{reply_of, reply_to, sent_at, sent_by}
use Rattle.rb_site.specs.Histories.{sends_of}
use Rattle.rb_site.specs.States.{without_history}
use Rattle.rb_site.specs.Unchanging.{UnchangingEventsLeftOut, changes_site, changing_events, replies_to_changing}
use Rattle.rb_site.proofs.Public.Outcomes.{same_outcome, with_history, changed-with_history}
use Rattle.rb_site.proofs.Public.Recorded.{noted_history}
use Rattle.rb_site.proofs.Public.Runs

-- ---- one outcome

-- what changes no more than the history leaves the rest
pub changed_nothing : (t : ModelSite) (o : Outcome) → changes o ≡ false → changed t o ≡ t
changed_nothing t (Refuses why) h = refl
changed_nothing t (Answers r) h = refl
changed_nothing t (Shows a) h = refl
changed_nothing t (Drops x why) h = cc
changed_nothing t (Makes v) h = cc
changed_nothing t (MakesAll vs) h = cc
changed_nothing t (Holds v) h = cc
changed_nothing t (Applies v) h = cc
changed_nothing t (Takes m) h = cc
changed_nothing t (Passes m) h = cc

-- and sends nothing
pub sent_nothing : (o : Outcome) → changes o ≡ false → sent_by o ≡ []
sent_nothing (Refuses why) h = refl
sent_nothing (Answers r) h = refl
sent_nothing (Shows a) h = refl
sent_nothing (Drops x why) h = cc
sent_nothing (Makes v) h = cc
sent_nothing (MakesAll vs) h = cc
sent_nothing (Holds v) h = cc
sent_nothing (Applies v) h = cc
sent_nothing (Takes m) h = cc
sent_nothing (Passes m) h = cc

-- ---- one event

-- an event that changes nothing sends nothing, even if the history is full
pub sent_at_nothing : (s : Settings) (t : ModelSite) (e : Event) → changes_site s t e ≡ false → sent_at s t e ≡ []
sent_at_nothing s t e h = by (is_full s t)
  where
    by : (b : Bool) → cond b [] (sent_by (outcome_of s t e)) ≡ []
    by true = refl
    by false = sent_nothing (outcome_of s t e) h

-- the site with another history replies alike
pub replies_alike : (s : Settings) (t : ModelSite) (h : List Event) (e : Event) → is_full s t ≡ false → is_full s (with_history t h) ≡ false
    → reply_to s (with_history t h) e ≡ reply_to s t e
replies_alike s t h e room room' =
    ap (λ b. cond b (Refused HistoryFull) (reply_of s t.ops (outcome_of s (with_history t h) e))) room'
    ∙ ap (reply_of s t.ops) (same_outcome s t h e)
    ∙ sym (ap (λ b. cond b (Refused HistoryFull) (reply_of s t.ops (outcome_of s t e))) room)

-- and sends alike
pub sends_alike : (s : Settings) (t : ModelSite) (h : List Event) (e : Event) → is_full s t ≡ false → is_full s (with_history t h) ≡ false
    → sent_at s (with_history t h) e ≡ sent_at s t e
sends_alike s t h e room room' =
    ap (λ b. cond b [] (sent_by (outcome_of s (with_history t h) e))) room'
    ∙ ap sent_by (same_outcome s t h e)
    ∙ sym (ap (λ b. cond b [] (sent_by (outcome_of s t e))) room)

-- and goes on alike, with the event in its history
pub goes_alike : (s : Settings) (t : ModelSite) (h : List Event) (e : Event) → is_full s t ≡ false → is_full s (with_history t h) ≡ false
    → after_event s (with_history t h) e ≡ with_history (after_event s t e) (h ++ e ∷ [])
goes_alike s t h e room room' =
    ap (λ b. cond b (with_history t h) (Runs.noted s (with_history t h) e)) room'
    ∙ ap (λ o. with_history (changed (with_history t h) o) (h ++ e ∷ [])) (same_outcome s t h e)
    ∙ ap (λ u. with_history u (h ++ e ∷ [])) (changed-with_history t h (outcome_of s t e))
    ∙ sym (ap (λ b. with_history (cond b t (Runs.noted s t e)) (h ++ e ∷ [])) room)

-- an event that changes nothing leaves the site but for the history
pub stays_alike : (s : Settings) (t : ModelSite) (h : List Event) (e : Event) → is_full s t ≡ false → changes_site s t e ≡ false
    → with_history (after_event s t e) h ≡ with_history t h
stays_alike s t h e room none =
    ap (λ b. with_history (cond b t (Runs.noted s t e)) h) room
    ∙ ap (λ u. with_history u h) (changed_nothing t (outcome_of s t e) none)

-- ---- a list of events

-- without the events that change nothing, and with another history, a site comes to the same
left_out_from : (s : Settings) (es : List Event) (t : ModelSite) (h : List Event) → length t.history + length es ≤ s.limits.history →
    length h + length es ≤ s.limits.history
    → (without_history (after_events s (with_history t h) (changing_events s t es)) ≡ without_history (after_events s t es))
    × (replies_to_events s (with_history t h) (changing_events s t es) ≡ replies_to_changing s t es)
    × (sends_of s (with_history t h) (changing_events s t es) ≡ sends_of s t es)
left_out_from s [] t h room room' = (refl, refl, refl)
left_out_from s (e ∷ es) t h room room' = by (changes_site s t e) refl (λ k r r'. left_out_from s es (after_event s t e) k r r')
  where
    t2 : ModelSite
    t2 = after_event s t e

    full : is_full s t ≡ false
    full = grind (arith, nat_tests)

    full' : is_full s (with_history t h) ≡ false
    full' = grind (arith, nat_tests)

    longer : length t2.history ≡ length t.history + 1
    longer = ap length (noted_history s t e full) ∙ length-append t.history (e ∷ [])

    Says : ModelSite → List Event → List Reply → List Message → Type 0
    Says u fs rs ms = (without_history (after_events s u fs) ≡ without_history (after_events s t2 es))
        × (replies_to_events s u fs ≡ rs) × (sends_of s u fs ≡ ms)

    fs : List Event
    fs = changing_events s t2 es

    rs : List Reply
    rs = replies_to_changing s t2 es

    ms : List Message
    ms = sends_of s t2 es

    Rest : Type 0
    Rest = (k : List Event) → length t2.history + length es ≤ s.limits.history → length k + length es ≤ s.limits.history →
        Says (with_history t2 k) fs rs ms

    by : (b : Bool) → changes_site s t e ≡ b → Rest →
        Says (with_history t h) (cond b (e ∷ fs) fs) (cond b (reply_to s t e ∷ rs) rs) (sent_at s t e ++ ms)
    by false q go =
        subst (Says (with_history t h) fs rs) (sym (ap (λ xs. xs ++ ms) (sent_at_nothing s t e q)))
        (subst (λ u. Says u fs rs ms) (stays_alike s t h e full q) (go h (omega (arith, longer)) (omega arith)))
    by true q go =
        let more : length (h ++ e ∷ []) ≡ length h + 1 = length-append h (e ∷ []) in
        let r : Says (after_event s (with_history t h) e) fs rs ms =
        subst (λ u. Says u fs rs ms) (sym (goes_alike s t h e full full'))
        (go (h ++ e ∷ []) (omega (arith, longer)) (omega (arith, more))) in (
          r.0,
          ap (λ x. x ∷ replies_to_events s (after_event s (with_history t h) e) fs) (replies_alike s t h e full full')
              ∙ ap (λ xs. reply_to s t e ∷ xs) r.1,
          ap (λ xs. xs ++ sends_of s (after_event s (with_history t h) e) fs) (sends_alike s t h e full full')
              ∙ ap (λ xs. sent_at s t e ++ xs) r.2,
        )

-- over no more events than its history may have, a site comes from its start to the same state but for the history, to
-- the same other replies and the same messages, without the events that change nothing
pub left_out : UnchangingEventsLeftOut
left_out s me es room = left_out_from s es (first_site me) [] (omega arith) (omega arith)
