-- The operations that the sites of one world have applied, by their histories.
use Rattle.rb_runs.proofs.Words.{◌≡◌, ℕ, ◌+◌, Bool, true, false, cond, List, [], ◌∷◌, ◌++◌, Option, Some, None, refl, sym, ap, ◌∙◌, subst}
use Rattle.rb_runs.proofs.Words.{inl, inr, arith, map, suc, ◌⊎◌, option_map, slice_get, slice_set, same_Some, slice_get-map, Settings}
use Rattle.rb_runs.proofs.Words.{Shadow, Among, Entry, Event, Receive, Message, ShadowMessage, TokenOnItsWay, WorldEvent, At, Deliver}
use Rattle.rb_runs.proofs.Words.{Applies, Makes, MakesAll, ModelSite, Outcome, after_event, after_events, changed, first_site, is_full}
use Rattle.rb_runs.proofs.Words.{outcome_of, sent_at, sent_by, AreOneWorlds, history_of, state_of, World, first_world, made_in, message_at}
use Rattle.rb_runs.proofs.Words.{shadows_in, world_after, world_after_all, world_at, world_of_run, get_set_other, get_set_same}
use Rattle.rb_runs.proofs.Words.{same_number, me_after, IsRunOfItsHistory, noted, run_goes_on, first_sites, applied_from}
use Rattle.std.proofs.lemmas.Bool.{cond_both}
use Rattle.rb_site.proofs.Public.Seen.{events_from}
use Rattle.rb_shadow.proofs.Public.Members

-- the site has this number and is the run of its history
pub record IsRunAt (s : Settings) (i : ℕ) (t : ModelSite) : Type 0 where
  pub me : t.me ≡ i
  pub run : IsRunOfItsHistory s t

-- some site of the world has applied it
abbrev pub IsApplied : World → Shadow → Type 0
IsApplied w v = (i : ℕ) × (t : ModelSite) × (slice_get w.sites i ≡ Some t) × Among v t.ops

-- each site is the run of its history, and what was made is applied at some site
pub record AreRuns (s : Settings) (w : World) : Type 0 where
  pub sites : (i : ℕ) (t : ModelSite) → slice_get w.sites i ≡ Some t → IsRunAt s i t
  pub made : (v : Shadow) → Among v (made_in w) → IsApplied w v

-- ---- one event at a site

-- no outcome takes back what is applied
grows : (t : ModelSite) (o : Outcome) (v : Shadow) → Among v t.ops → Among v (changed t o).ops
grows t (Makes u) v h = Members.Among-left t.ops (u ∷ []) v h
grows t (MakesAll us) v h = Members.Among-left t.ops us v h
grows t (Applies u) v h = Members.Among-left t.ops (u ∷ []) v h
grows t _ v h = h

-- the operations in the messages of a list of operations are these
shadows_of : (us : List Shadow) → shadows_in (map ShadowMessage us) ≡ us
shadows_of [] = refl
shadows_of (u ∷ us) = ap (λ vs. u ∷ vs) (shadows_of us)

-- a sent operation is applied at its own site
sent_here : (t : ModelSite) (o : Outcome) (v : Shadow) → Among v (shadows_in (sent_by o)) → Among v (changed t o).ops
sent_here t (Makes u) v h = Members.Among-right t.ops (u ∷ []) v h
sent_here t (MakesAll us) v h = Members.Among-right t.ops us v (subst (Among v) (shadows_of us) h)
sent_here t _ v h = absurd h

-- the same of an event
grows_event : (s : Settings) (t : ModelSite) (e : Event) (v : Shadow) → Among v t.ops → Among v (after_event s t e).ops
grows_event s t e v h =
    cond_both (is_full s t) t (noted s t e) (λ (u : ModelSite). Among v u.ops) (λ _. h) (λ _. grows t (outcome_of s t e) v h)

sent_event : (s : Settings) (t : ModelSite) (e : Event) (v : Shadow) → Among v (shadows_in (sent_at s t e)) →
    Among v (after_event s t e).ops
sent_event s t e v h = by (is_full s t) h
  where
    by : (b : Bool) → Among v (shadows_in (cond b [] (sent_by (outcome_of s t e)))) → Among v (cond b t (noted s t e)).ops
    by true k = absurd k
    by false k = sent_here t (outcome_of s t e) v k

-- the operations in two lists of messages are those of either
shadows_cases : (ms ns : List Message) (v : Shadow) → Among v (shadows_in (ms ++ ns)) → Among v (shadows_in ms) ⊎ Among v (shadows_in ns)
shadows_cases [] ns v h = inr h
shadows_cases (ShadowMessage u ∷ ms) ns v (inl e) = inl (inl e)
shadows_cases (ShadowMessage u ∷ ms) ns v (inr h) = elim (shadows_cases ms ns v h) [ inl k ↦ inl (inr k) | inr k ↦ inr k ]
shadows_cases (TokenOnItsWay m ∷ ms) ns v h = shadows_cases ms ns v h

run_event : (s : Settings) (i : ℕ) (t : ModelSite) (e : Event) → IsRunAt s i t → IsRunAt s i (after_event s t e)
run_event s i t e h = record { me = me_after s t e ∙ h.me; run = run_goes_on s t e h.run }

-- what was applied at some site still is
still : (s : Settings) (w : World) (i : ℕ) (e : Event) (t : ModelSite) → slice_get w.sites i ≡ Some t → (v : Shadow) → IsApplied w v →
    IsApplied (world_at s w i (Some e) (Some t)) v
still s w i e t at v (j, u, there, h) = elim (same_number i j) [
  | inl same ↦
      (let is : u ≡ t = same_Some u t (sym there ∙ ap (slice_get w.sites) same ∙ at) in (
        i,
        after_event s t e,
        get_set_same w.sites i t (after_event s t e) at,
        grows_event s t e v (subst (λ (x : ModelSite). Among v x.ops) is h),
      ))
  | inr other ↦ (j, u, get_set_other w.sites i j (after_event s t e) other ∙ there, h)
]

-- what holds of each site still does, if it holds of the one that took an event
pub all_still : (P : ℕ → ModelSite → Type 0) (ts : List ModelSite) (i : ℕ) (t n : ModelSite) → slice_get ts i ≡ Some t → P i n
    → ((j : ℕ) (u : ModelSite) → slice_get ts j ≡ Some u → P j u) → (j : ℕ) (u : ModelSite) → slice_get (slice_set ts i n) j ≡ Some u
    → P j u
all_still P ts i t n at new old j u there = elim (same_number i j) [
  | inl same ↦
      (let is : u ≡ n = same_Some u n (sym there ∙ (ap (slice_get (slice_set ts i n)) same ∙ get_set_same ts i t n at)) in
      subst (λ k. P k u) (sym same) (subst (P i) (sym is) new))
  | inr other ↦ old j u (sym (get_set_other ts i j n other) ∙ there)
]

at_site : (s : Settings) (w : World) (i : ℕ) (e : Event) (t : ModelSite) → slice_get w.sites i ≡ Some t → AreRuns s w →
    AreRuns s (world_at s w i (Some e) (Some t))
at_site s w i e t at h = record {
  sites = all_still (IsRunAt s) w.sites i t (after_event s t e) at (run_event s i t e (h.sites i t at)) h.sites;
  made = λ v k. elim (shadows_cases w.messages (sent_at s t e) v k) [
    | inl old ↦ still s w i e t at v (h.made v old)
    | inr new ↦ (i, after_event s t e, get_set_same w.sites i t (after_event s t e) at, sent_event s t e v new)
  ];
}

-- what holds of a world still does, if it holds once a site that is there took the event, if there is one
pub brought : (P : World → Type 0) (s : Settings) (w : World) (i : ℕ) (o : Option Event) → P w
    → ((e : Event) (t : ModelSite) → o ≡ Some e → slice_get w.sites i ≡ Some t → P (world_at s w i (Some e) (Some t)))
    → P (world_at s w i o (slice_get w.sites i))
brought P s w i None h each = h
brought P s w i (Some e) h each = by (slice_get w.sites i) refl
  where
    by : (t : Option ModelSite) → slice_get w.sites i ≡ t → P (world_at s w i (Some e) t)
    by None at = h
    by (Some t) at = each e t refl at

-- ---- a whole run

next_runs : (s : Settings) (w : World) (e : WorldEvent) → AreRuns s w → AreRuns s (world_after s w e)
next_runs s w (At i e) h = brought (AreRuns s) s w i (Some e) h (λ e t _ at. at_site s w i e t at h)
next_runs s w (Deliver i k) h =
    brought (AreRuns s) s w i (option_map Receive (message_at w.messages k)) h (λ e t _ at. at_site s w i e t at h)

all_run : (s : Settings) (es : List WorldEvent) (w : World) → AreRuns s w → AreRuns s (world_after_all s w es)
all_run s [] w h = h
all_run s (e ∷ es) w h = all_run s es (world_after s w e) (next_runs s w e h)

first_runs : (s : Settings) → AreRuns s (first_world s)
first_runs s = record {
  sites = λ i t at.
      let e : t ≡ first_site i = first_sites 0 s.sites i t at ∙ ap first_site (let q : 0 + i ≡ i = omega arith in q) in
      subst (IsRunAt s i) (sym e) (record { me = refl; run = refl });
  made = λ v among. absurd among;
}

-- in the world of a run each site is the run of its history, and what was made is applied at some site
pub run_of : (s : Settings) (es : List WorldEvent) → AreRuns s (world_of_run s es)
run_of s es = all_run s es (first_world s) (first_runs s)

-- ---- what the sites have applied

-- the site whose history it is has applied what its history says
state_is : (s : Settings) (i : ℕ) (t : ModelSite) → IsRunAt s i t →
    state_of (record { settings = s; me = i; entries = history_of s t }) ≡ t
state_is s i t h =
    ap (after_events s (first_site i)) (events_from s (first_site t.me) t.history)
    ∙ ap (λ n. after_events s (first_site n) t.history) (sym h.me) ∙ h.run

applied_there : (s : Settings) (k : ℕ) (ts : List ModelSite) → ((i : ℕ) (t : ModelSite) → slice_get ts i ≡ Some t → IsRunAt s (k + i) t) →
    applied_from s k (map (history_of s) ts) ≡ map (λ (t : ModelSite). t.ops) ts
applied_there s k [] h = refl
applied_there s k (t ∷ ts) h =
    let here : IsRunAt s k t = subst (λ n. IsRunAt s n t) (let q : k + 0 ≡ k = omega arith in q) (h 0 t refl) in
    ap (λ (u : ModelSite). u.ops ∷ applied_from s (k + 1) (map (history_of s) ts)) (state_is s k t here)
    ∙ ap (λ uss. t.ops ∷ uss) (applied_there s (k + 1) ts
    (λ i u at. subst (λ n. IsRunAt s n u) (let q : k + suc i ≡ (k + 1) + i = omega arith in q) (h (suc i) u at)))

-- what the histories say is what the sites of the world have applied
pub applied_are : (s : Settings) (hs : List (List Entry)) (one : AreOneWorlds s hs) →
    applied_from s 0 hs ≡ map (λ (t : ModelSite). t.ops) (world_of_run s one.events).sites
applied_are s hs one =
    ap (applied_from s 0) (sym one.gives)
    ∙ applied_there s 0 (world_of_run s one.events).sites
    (λ i t at. subst (λ n. IsRunAt s n t) (let q : i ≡ 0 + i = omega arith in q) ((run_of s one.events).sites i t at))

-- a site of the world that has applied these operations
pub record IsSiteWith (w : World) (i : ℕ) (us : List Shadow) : Type 0 where
  pub site : ModelSite
  pub at : slice_get w.sites i ≡ Some site
  pub ops : site.ops ≡ us

-- what is applied by a history is applied by a site of the world
pub site_with : (s : Settings) (hs : List (List Entry)) (one : AreOneWorlds s hs) (i : ℕ) (us : List Shadow) →
    slice_get (applied_from s 0 hs) i ≡ Some us → IsSiteWith (world_of_run s one.events) i us
site_with s hs one i us h = by (slice_get sites i) refl
    (sym (slice_get-map (λ (t : ModelSite). t.ops) sites i) ∙ ap (λ uss. slice_get uss i) (sym (applied_are s hs one)) ∙ h)
  where
    sites : List ModelSite
    sites = (world_of_run s one.events).sites

    by : (o : Option ModelSite) → slice_get sites i ≡ o → option_map (λ (t : ModelSite). t.ops) o ≡ Some us →
        IsSiteWith (world_of_run s one.events) i us
    by None at e = cc
    by (Some t) at e = record { site = t; at = at; ops = same_Some t.ops us e }

-- and what a site of the world has applied is applied by its history
pub list_of : (s : Settings) (hs : List (List Entry)) (one : AreOneWorlds s hs) (i : ℕ) (t : ModelSite) →
    slice_get (world_of_run s one.events).sites i ≡ Some t → slice_get (applied_from s 0 hs) i ≡ Some t.ops
list_of s hs one i t at =
    ap (λ uss. slice_get uss i) (applied_are s hs one)
    ∙ slice_get-map (λ (t : ModelSite). t.ops) (world_of_run s one.events).sites i
    ∙ ap (option_map (λ (t : ModelSite). t.ops)) at
