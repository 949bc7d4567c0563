-- The messages that entries receive and send.
use Rattle.std.proofs.Common.{◌≡◌, ℕ, ◌+◌, ◌-◌, ◌<◌, ◌≤◌, Bool, true, false, cond, List, [], ◌∷◌, ◌++◌}
use Rattle.rb_token.specs.declared.message.TokenMessage.{TokenMessage}
use Rattle.std.proofs.Common.{length, take, drop, refl, ap, sym, subst, ◌∙◌, inl, inr, arith}
use Rattle.std.proofs.Common.{Some, None, length-append, length-drop}
use Rattle.std.specs.Prelude.{slice_get}
use Rattle.std.proofs.Math.Seq.{drop-append_seam}
use Rattle.std.proofs.lemmas.List.{drop-append-le, take-append-le, take_all, nil_from_length}
use Rattle.std.proofs.lemmas.Option.{slice_get_within}
use Rattle.rb_money.specs.Settings.{Settings}
use Rattle.rb_shadow.specs.declared.shadow.Shadow.{Shadow}
use Rattle.rb_site.specs.declared.entry.Entry.{Entry}
use Rattle.rb_site.specs.declared.event.Event.{Event}
use Rattle.rb_site.specs.declared.event.Event.TheVariants.{Receive}
use Rattle.rb_site.specs.declared.message.Message.{Message}
use Rattle.rb_site.specs.declared.message.Message.TheVariants.{Shadow as ShadowMessage, Token as TokenOnItsWay}
use Rattle.rb_site.specs.Events.{ModelSite, is_full, outcome_of, sent_at, sent_by}
use Rattle.rb_site.proofs.Public.Lists.{get_front}
use Rattle.rb_site.proofs.Public.Outcomes
use Rattle.rb_scratch.specs.declared.request.TheConstants.{MOST_REQUESTS}
use Rattle.rb_auditor.specs.declared.step.Step.{Step}
use Rattle.rb_auditor.specs.declared.step.Step.TheVariants.{Alone, Receives, Sends}
use Rattle.rb_auditor.specs.Kept.{HaveSteps, IsPlaced, IsStep}
use Rattle.rb_auditor.specs.Progress.{site_after}
use Rattle.rb_auditor.proofs.Lists.{before_or_last, item_at}

-- ---- receipts send nothing

quiet_shadow : (s : Settings) (t : ModelSite) (v : Shadow) → sent_by (outcome_of s t (Receive (ShadowMessage v))) ≡ []
unfolding outcome_of
quiet_shadow s t v = grind arith

quiet_token : (s : Settings) (t : ModelSite) (m : TokenMessage) → sent_by (outcome_of s t (Receive (TokenOnItsWay m))) ≡ []
unfolding outcome_of
quiet_token s t m = grind arith

-- a receipt sends nothing
pub receipt_sends_nothing : (s : Settings) (t : ModelSite) (e : Event) (m : Message) → e ≡ Receive m → sent_at s t e ≡ []
receipt_sends_nothing s t e m is = rw is (by m (is_full s t))
  where
    by : (m : Message) (b : Bool) → cond b [] (sent_by (outcome_of s t (Receive m))) ≡ []
    by m true = refl
    by (ShadowMessage v) false = quiet_shadow s t v
    by (TokenOnItsWay m) false = quiet_token s t m

-- ---- one list

-- a part of a list is the same part of a longer one
part_more : {A : Type 0} (ms more : List A) (at count : ℕ) → at + count ≤ length ms
    → take count (drop at ms) ≡ take count (drop at (ms ++ more))
part_more ms more at count fits =
    let left : length (drop at ms) ≡ length ms - at = length-drop at ms in
    sym (ap (take count) (drop-append-le at ms more (omega arith)) ∙ take-append-le count (drop at ms) more (omega arith))

-- ---- steps

-- a step stays with more messages after those that it speaks of
pub step_more : (ms more : List Message) (e : Event) (sent : List Message) (step : Step) → IsStep ms e sent step
    → IsStep (ms ++ more) e sent step
step_more ms more e sent Alone h = h
step_more ms more e sent (Receives at) ((m, is, there), none) = ((m, is, get_front ms more at m there), none)
step_more ms more e sent (Sends count at) (own, fits, is) =
    let longer : length (ms ++ more) ≡ length ms + length more = length-append ms more in
    (own, omega arith, is ∙ part_more ms more at count fits)

-- the steps of a history stay
pub steps_more : (s : Settings) (i : ℕ) (h : List Entry) (ms more : List Message) (steps : List Step) → HaveSteps s i h ms steps
    → HaveSteps s i h (ms ++ more) steps
steps_more s i h ms more steps all k x step at is = step_more ms more x.event _ step (all k x step at is)

-- entries without steps may come after those that have one
pub steps_longer : (s : Settings) (i : ℕ) (h rest : List Entry) (ms : List Message) (steps : List Step) → length steps ≤ length h
    → HaveSteps s i h ms steps → HaveSteps s i (h ++ rest) ms steps
steps_longer s i h rest ms steps fits all k x step at is =
    let less : k < length steps = slice_get_within steps k step is in
    let (y, there) = item_at h k (omega arith) in
    rw (take-append-le k h rest (omega arith)) (all k x step (cc (there, get_front h rest k y there)) is)

-- one entry more with its step
pub steps_next : (s : Settings) (i : ℕ) (h : List Entry) (ms : List Message) (steps : List Step) (x : Entry) (step : Step)
    → length steps ≡ length h → HaveSteps s i h ms steps → IsStep ms x.event (sent_at s (site_after s i h) x.event) step
    → HaveSteps s i (h ++ x ∷ []) ms (steps ++ step ∷ [])
steps_next s i h ms steps x step many all new k y st at is = elim (before_or_last steps step st k is) [
  | inl g ↦ steps_longer s i h (x ∷ []) ms steps (omega arith) all k y st at g
  | inr (e, same) ↦ elim (before_or_last h x y k at) [
    | inl g ↦ (let less : k < length h = slice_get_within h k y g in absurd (omega arith))
    | inr (f, is_x) ↦
        let front : take k (h ++ x ∷ []) ≡ h = take-append-le k h (x ∷ []) (omega arith) ∙ take_all k h (omega arith) in
        rw (front, is_x, same) new
  ]
]

-- ---- the step of an entry

-- one entry sends at most as many messages as a batch may have requests
pub few_more : (s : Settings) (t : ModelSite) (e : Event) (before after : List Message) → after ≡ before ++ sent_at s t e
    → length after ≤ length before + MOST_REQUESTS
few_more s t e before after grown =
    omega (arith, Outcomes.sent_few s t e, ap length grown, length-append before (sent_at s t e))

-- where what is sent comes into an empty list, and then after the messages before
pub sent_after : (before room none posted sent after : List Message) → room ≡ before → none ≡ [] → posted ≡ none ++ sent
    → after ≡ room ++ posted → after ≡ before ++ sent
sent_after before room none posted sent after same empty sends grown = cc

-- where the messages that are sent are after the others
sent_behind : (before sent : List Message) (count : ℕ) → count ≡ length sent → sent ≡ take count (drop (length before) (before ++ sent))
sent_behind before sent count e = sym (ap (take count) (drop-append_seam before sent) ∙ take_all count sent (omega arith))

-- the step of a receipt
pub receives : (s : Settings) (t : ModelSite) (before after : List Message) (e : Event) (at : ℕ) → after ≡ before ++ sent_at s t e
    → IsPlaced before e (Some at) → IsStep after e (sent_at s t e) (Receives at)
receives s t before after e at grown (m, is, there) =
    ((m, is, ap (λ ms. slice_get ms at) grown ∙ get_front before (sent_at s t e) at m there), receipt_sends_nothing s t e m is)

-- how many messages there are once some are sent
count_sent : (before sent after : List Message) (first all : ℕ) → after ≡ before ++ sent → first ≡ length before → all ≡ length after
    → all ≡ first + length sent
count_sent before sent after first all grown at many = omega (arith, ap length grown, length-append before sent)

-- there are no fewer than before
pub no_fewer : (before sent after : List Message) (first all : ℕ) → after ≡ before ++ sent → first ≡ length before → all ≡ length after
    → first ≤ all
no_fewer before sent after first all grown at many =
    let sum : all ≡ first + length sent = count_sent before sent after first all grown at many in omega arith

-- the step of an entry that sends nothing and is no receipt
pub alone : (before sent after : List Message) (e : Event) (first all : ℕ) → after ≡ before ++ sent → IsPlaced before e None
    → first ≡ length before → all ≡ length after → all - first ≡ 0 → IsStep after e sent Alone
alone before sent after e first all grown own at many none =
    (own, nil_from_length sent (omega (arith, count_sent before sent after first all grown at many)))

-- the step of an entry that sends
pub sends : (before sent after : List Message) (e : Event) (first all : ℕ) → after ≡ before ++ sent → IsPlaced before e None
    → first ≡ length before → all ≡ length after → IsStep after e sent (Sends (all - first) first)
sends before sent after e first all grown own at many =
    let sum : all ≡ first + length sent = count_sent before sent after first all grown at many in (
      own,
      omega arith,
      subst (λ k. sent ≡ take (all - first) (drop k after)) (sym at)
          (rw grown (sent_behind before sent (all - first) (omega arith))),
    )
