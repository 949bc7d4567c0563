-- Messages can be had where they were noted: sites only add operations at the end, and those that an event makes are
-- what it sends.
use Rattle.rb_site.proofs.Public.Lists.{get_front}
use Rattle.rb_world.proofs.Places
use Rattle.std.proofs.Common.{◌≡◌, ◌≢◌, ℕ, zero, suc, ◌+◌, ◌-◌, ◌<◌, Bool, true, false, cond, All, List, []}
use Rattle.std.proofs.Common.{◌∷◌, ◌++◌, get_or, length, Some, None, refl, sym, ap, subst, ◌∙◌, arith}
use Rattle.std.proofs.Common.{append_assoc, append-nil, length-append, inl, inr}
use Rattle.std.specs.Prelude.{map, option_map, slice_get, slice_set, ◌==◌}
use Rattle.std.proofs.lemmas.Bool.Decides.{nat_tests}
use Rattle.std.proofs.lemmas.List.{map-set}
use Rattle.std.proofs.lemmas.Option.{slice_get-map}
use Rattle.rb_money.specs.Settings.{Settings}
use Rattle.rb_shadow.specs.declared.shadow.Shadow.{Shadow}
use Rattle.rb_ledger.specs.Valid.{operation_at}
use Rattle.rb_site.specs.declared.event.Event.{Event}
use Rattle.rb_site.specs.declared.message.Message.{Message}
use Rattle.rb_site.specs.declared.message.Message.TheVariants.{Shadow as ShadowMessage}
use Rattle.rb_site.specs.Events.{ModelSite, Outcome, Applies, Makes, MakesAll, Passes, after_event, changed, is_full}
use Rattle.rb_site.specs.Events.{outcome_of, sent_at, sent_by}
use Rattle.rb_site.specs.Seen.{SeenSite, next_site, state_of}
use Rattle.rb_site.specs.Worlds.{message_at}
use Rattle.rb_site.proofs.Public.Seen
use Rattle.rb_site.proofs.Public.Places.{get_set_other, get_set_same, same_number}
use Rattle.rb_world.specs.Sent.{AreLonger, AreMadeFrom, IsMadeAt}

-- ---- lists

-- positions are counted from 1
at_position : (us : List Shadow) (n m : ℕ) → m ≡ n + 1 → operation_at us m ≡ slice_get us n
at_position us n m e =
    ap (λ b. cond b None (slice_get us (m - 1))) (let some : (m == 0) ≡ false = grind (arith, nat_tests) in some)
    ∙ ap (slice_get us) (let less : m - 1 ≡ n = omega arith in less)

operation_stays : (us more : List Shadow) (n : ℕ) (v : Shadow) → operation_at us n ≡ Some v → operation_at (us ++ more) n ≡ Some v
operation_stays us more zero v h = cc
operation_stays us more (suc n) v h =
    let one : suc n ≡ n + 1 = omega arith in
    at_position (us ++ more) n (suc n) one ∙ get_front us more n v (sym (at_position us n (suc n) one) ∙ h)

-- ---- an event

-- an event only adds operations at the end
grows : (s : Settings) (t : ModelSite) (e : Event) → (more : List Shadow) × ((after_event s t e).ops ≡ t.ops ++ more)
grows s t e = by (is_full s t)
  where
    of_outcome : (o : Outcome) → (more : List Shadow) × ((changed t o).ops ≡ t.ops ++ more)
    of_outcome (Makes v) = (v ∷ [], refl)
    of_outcome (MakesAll vs) = (vs, refl)
    of_outcome (Applies v) = (v ∷ [], refl)
    of_outcome _ = ([], sym (append-nil t.ops))

    by : (b : Bool) → (more : List Shadow) × ((cond b t (record (changed t (outcome_of s t e)) { history = t.history ++ e ∷ [] })).ops
        ≡ t.ops ++ more)
    by true = ([], sym (append-nil t.ops))
    by false = of_outcome (outcome_of s t e)

-- so each operation of a world stays where it is
pub all_longer : (s : Settings) (ts : List ModelSite) (i : ℕ) (t : ModelSite) (e : Event) → slice_get ts i ≡ Some t →
    AreLonger ts (slice_set ts i (after_event s t e))
all_longer s ts i t e at j n v (u, there, is) = elim (same_number i j) [
  | inl q ↦
      let (more, grown) = grows s t e in
      let same : u ≡ t = cc (sym there ∙ ap (slice_get ts) q ∙ at) in (
        after_event s t e,
        ap (slice_get (slice_set ts i (after_event s t e))) q ∙ get_set_same ts i t (after_event s t e) at,
        ap (λ us. operation_at us n) grown
            ∙ operation_stays t.ops more n v (ap (λ (w : ModelSite). operation_at w.ops n) (sym same) ∙ is),
      )
  | inr ne ↦ (u, get_set_other ts i j (after_event s t e) ne ∙ there, is)
]

-- operations after others are at the positions after theirs
made_from : (ts : List ModelSite) (i : ℕ) (t : ModelSite) (us vs : List Shadow) → slice_get ts i ≡ Some t → t.ops ≡ us ++ vs →
    AreMadeFrom ts i (length us + 1) (map ShadowMessage vs)
made_from ts i t us [] at is = tt
made_from ts i t us (v ∷ vs) at is = (
  (t, at, at_position t.ops (length us) (length us + 1) refl ∙ ap (λ ws. slice_get ws (length us)) is ∙ Places.get_after us vs v),
  subst (λ n. AreMadeFrom ts i n (map ShadowMessage vs)) next
      (made_from ts i t (us ++ v ∷ []) vs at (is ∙ sym (append_assoc us (v ∷ []) vs))),
)
  where
    next : length (us ++ v ∷ []) + 1 ≡ length us + 1 + 1
    next = omega (arith, length-append us (v ∷ []))

-- what an event sends are the operations that it makes, or a token
pub sent_made : (s : Settings) (ts : List ModelSite) (i : ℕ) (t : ModelSite) (e : Event) → slice_get ts i ≡ Some t →
    AreMadeFrom (slice_set ts i (after_event s t e)) i (length t.ops + 1) (sent_at s t e)
sent_made s ts i t e at = by (is_full s t) refl
  where
    later : List ModelSite
    later = slice_set ts i (after_event s t e)

    there : slice_get later i ≡ Some (after_event s t e)
    there = get_set_same ts i t (after_event s t e) at

    of_outcome : (o : Outcome) → (after_event s t e).ops ≡ (changed t o).ops → AreMadeFrom later i (length t.ops + 1) (sent_by o)
    of_outcome (Makes v) is = made_from later i (after_event s t e) t.ops (v ∷ []) there is
    of_outcome (MakesAll vs) is = made_from later i (after_event s t e) t.ops vs there is
    of_outcome (Passes m) is = (tt, tt)
    of_outcome _ is = tt

    by : (b : Bool) → is_full s t ≡ b → AreMadeFrom later i (length t.ops + 1) (cond b [] (sent_by (outcome_of s t e)))
    by true q = tt
    by false q = of_outcome (outcome_of s t e) (ap (λ b. (cond b t (record (changed t (outcome_of s t e)) {
      history = t.history
          ++ e ∷ [];
    })).ops) q)

-- ---- a list of messages

-- the k-th of messages made from a position on
pub made_at : (ts : List ModelSite) (i n : ℕ) (ms : List Message) (k : ℕ) (d : Message) → AreMadeFrom ts i n ms → k < length ms →
    IsMadeAt ts i (n + k) (get_or ms k d)
made_at ts i n [] k d all within = absurd (omega (arith, within))
made_at ts i n (m ∷ ms) zero d all within =
    let here : n ≡ n + 0 = omega arith in
    subst (λ j. IsMadeAt ts i j m) here all.0
made_at ts i n (m ∷ ms) (suc k) d all within =
    let next : n + 1 + k ≡ n + suc k = omega arith in
    subst (λ j. IsMadeAt ts i j (get_or ms k d)) next (made_at ts i (n + 1) ms k d all.1 (omega (arith, within)))

-- after a step of a site all that was noted can still be had, and so can what it sends, if that is noted
pub all_there : {X : Type 0} (IsThere : List ModelSite → X → Type 0)
    → ((old new : List ModelSite) → AreLonger old new → (kept : X) → IsThere old kept → IsThere new kept)
    → (xs : List SeenSite) (i : ℕ) (x : SeenSite) (e : Event) (y : SeenSite) → slice_get xs i ≡ Some x → y ≡ next_site x e
    → (n : ℕ) → n ≡ length (state_of x).ops + 1 → (ms : List Message) → ms ≡ sent_at x.settings (state_of x) e
    → (old new : List X) → All (IsThere (map state_of xs)) old
    → ((ts : List ModelSite) → AreMadeFrom ts i n ms → All (IsThere ts) old → All (IsThere ts) new)
    → All (IsThere (map state_of (slice_set xs i y))) new
all_there IsThere kept xs i x e y at is n first ms sent old new all add =
    let before = map state_of xs in
    let later = slice_set before i (after_event x.settings (state_of x) e) in
    let there : slice_get before i ≡ Some (state_of x) = slice_get-map state_of xs i ∙ ap (option_map state_of) at in
    let states : map state_of (slice_set xs i y) ≡ later = ap (λ z. map state_of (slice_set xs i z)) is
    ∙ map-set state_of xs i (next_site x e) ∙ ap (slice_set before i) (Seen.state-next x e) in
    let made : AreMadeFrom later i n ms = rw (first, sent) (sent_made x.settings before i (state_of x) e there) in
    subst (λ ts. All (IsThere ts) new) (sym states) (add later made (λ k d below.
    kept before later (all_longer x.settings before i (state_of x) e there) (get_or old k d) (all k d below)))

-- messages are numbered from 1
pub message_read : (ms : List Message) (n : ℕ) → n ≢ 0 → message_at ms n ≡ slice_get ms (n - 1)
message_read ms zero h = absurd (h refl)
message_read ms (suc n) h = ap (slice_get ms) (let less : n ≡ suc n - 1 = omega arith in less)
