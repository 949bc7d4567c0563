-- The entries that the sites of a world record fit their lines if the world's commands do.
use Rattle.rb_runs.proofs.Words.{◌≡◌, ℕ, ◌+◌, ◌<◌, List, [], ◌∷◌, ◌++◌, length, Option, Some, None, refl, sym, ap}
use Rattle.rb_runs.proofs.Words.{◌∙◌, subst, inl, inr, arith, append-nil, option_map, slice_get, length-map-range_with_len}
use Rattle.rb_runs.proofs.Words.{slice_get_within, Settings, Event, Receive, Message, WorldEvent, At, Deliver, ModelSite, after_event}
use Rattle.rb_runs.proofs.Words.{after_events, first_site, is_full, sent_at, IsAmong, sends_of, World, first_world, message_at}
use Rattle.rb_runs.proofs.Words.{world_after, world_after_all, world_at, world_of_run, me_after, placed, IsRunOfItsHistory, noted}
use Rattle.rb_runs.proofs.Words.{run_goes_on, among-cases, among-right, first_sites, sends-append, Each, IsEvent, IsFittingCommand}
use Rattle.rb_runs.proofs.Words.{each_both}
use Rattle.std.proofs.lemmas.Bool.{cond_both}
use Rattle.rb_runs.proofs.OneWorlds.{all_still, brought}

-- a site of the configuration sent the message
pub record IsSentBySite (s : Settings) (m : Message) : Type 0 where
  pub me : ℕ
  pub is_site : me < s.sites
  pub events : List Event
  pub among : IsAmong m (sends_of s (first_site me) events)

-- each message that a site sent fits as what another receives
abbrev pub ReceiptsFit : Settings → Type 0
ReceiptsFit s = (m : Message) → IsSentBySite s m → IsEvent s (Receive m)

-- the site has this number, which is one of the configuration's, and is the run of its history, whose events fit
pub record HasFitting (s : Settings) (i : ℕ) (t : ModelSite) : Type 0 where
  pub here : i < s.sites
  pub me : t.me ≡ i
  pub run : IsRunOfItsHistory s t
  pub events : Each (IsEvent s) t.history

pub record IsFittingWorld (s : Settings) (w : World) : Type 0 where
  pub sites : (i : ℕ) (t : ModelSite) → slice_get w.sites i ≡ Some t → HasFitting s i t
  pub messages : (m : Message) → IsAmong m w.messages → IsSentBySite s m

-- ---- one event at a site

noted_fits : (s : Settings) (t : ModelSite) (e : Event) → IsEvent s e → Each (IsEvent s) t.history
    → Each (IsEvent s) (after_event s t e).history
noted_fits s t e fits old =
    cond_both (is_full s t) t (noted s t e) (λ (u : ModelSite). Each (IsEvent s) u.history) (λ _. old)
    (λ _. each_both (IsEvent s) t.history (e ∷ []) old (fits, tt))

site_fits : (s : Settings) (i : ℕ) (t : ModelSite) (e : Event) → IsEvent s e → HasFitting s i t → HasFitting s i (after_event s t e)
site_fits s i t e fits h = record {
  here = h.here;
  me = me_after s t e ∙ h.me;
  run = run_goes_on s t e h.run;
  events = noted_fits s t e fits h.events;
}

-- what a site sends at an event it sends through its history and that event
sent_here : (s : Settings) (i : ℕ) (t : ModelSite) (e : Event) (m : Message) → HasFitting s i t → IsAmong m (sent_at s t e)
    → IsSentBySite s m
sent_here s i t e m h among =
    let state : after_events s (first_site i) t.history ≡ t = ap (λ n. after_events s (first_site n) t.history) (sym h.me) ∙ h.run in
    let sends : sends_of s (first_site i) (t.history ++ e ∷ []) ≡ sends_of s (first_site i) t.history ++ sent_at s t e =
    sends-append s t.history (e ∷ []) (first_site i)
    ∙ ap (λ u. sends_of s (first_site i) t.history ++ sends_of s u (e ∷ [])) state
    ∙ ap (λ ms. sends_of s (first_site i) t.history ++ ms) (append-nil (sent_at s t e)) in
    record {
      me = i;
      is_site = h.here;
      events = t.history ++ e ∷ [];
      among = subst (IsAmong m) (sym sends) (among-right m (sends_of s (first_site i) t.history) (sent_at s t e) among);
    }

at_site : (s : Settings) (w : World) (i : ℕ) (e : Event) (t : ModelSite) → slice_get w.sites i ≡ Some t → IsEvent s e → IsFittingWorld s w
    → IsFittingWorld s (world_at s w i (Some e) (Some t))
at_site s w i e t at fits h = record {
  sites = all_still (HasFitting s) w.sites i t (after_event s t e) at (site_fits s i t e fits (h.sites i t at)) h.sites;
  messages = λ m among. elim (among-cases m w.messages (sent_at s t e) among) [
    | inl old ↦ h.messages m old
    | inr new ↦ sent_here s i t e m (h.sites i t at) new
  ];
}

-- ---- a world's commands

received : (s : Settings) (w : World) (k : ℕ) (e : Event) → ReceiptsFit s → IsFittingWorld s w
    → option_map Receive (message_at w.messages k) ≡ Some e → IsEvent s e
received s w k e receipts h = by (message_at w.messages k) refl
  where
    by : (o : Option Message) → message_at w.messages k ≡ o → option_map Receive o ≡ Some e → IsEvent s e
    by None is some = cc
    by (Some m) is some =
        let same : Receive m ≡ e = cc in subst (IsEvent s) same (receipts m (h.messages m (placed w.messages k m is)))

next_fits : (s : Settings) (w : World) (c : WorldEvent) → ReceiptsFit s → IsFittingCommand s c → IsFittingWorld s w
    → IsFittingWorld s (world_after s w c)
next_fits s w (At i e) receipts fits h = brought (IsFittingWorld s) s w i (Some e) h
    (λ f t some at. at_site s w i f t at (let same : e ≡ f = cc some in subst (IsEvent s) same fits.1) h)
next_fits s w (Deliver i k) receipts fits h = brought (IsFittingWorld s) s w i (option_map Receive (message_at w.messages k)) h
    (λ e t some at. at_site s w i e t at (received s w k e receipts h some) h)

all_fit : (s : Settings) (cs : List WorldEvent) (w : World) → ReceiptsFit s → Each (IsFittingCommand s) cs → IsFittingWorld s w
    → IsFittingWorld s (world_after_all s w cs)
all_fit s [] w receipts fits h = h
all_fit s (c ∷ cs) w receipts fits h = all_fit s cs (world_after s w c) receipts fits.1 (next_fits s w c receipts fits.0 h)

first_fits : (s : Settings) → IsFittingWorld s (first_world s)
first_fits s = record {
  sites = λ i t at.
      let e : t ≡ first_site i = first_sites 0 s.sites i t at ∙ ap first_site (let q : 0 + i ≡ i = omega arith in q) in
      let many : length (first_world s).sites ≡ s.sites = length-map-range_with_len first_site 0 s.sites in
      let here : i < s.sites = (let q : i < length (first_world s).sites = slice_get_within (first_world s).sites i t at in omega arith) in
      subst (HasFitting s i) (sym e) (record { here = here; me = refl; run = refl; events = tt });
  messages = λ m among. absurd among;
}

-- the world of a run of such commands
pub run_fits : (s : Settings) (cs : List WorldEvent) → ReceiptsFit s → Each (IsFittingCommand s) cs → IsFittingWorld s (world_of_run s cs)
run_fits s cs receipts fits = all_fit s cs (first_world s) receipts fits (first_fits s)
