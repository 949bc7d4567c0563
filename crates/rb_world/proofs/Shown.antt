-- A crash below what was reported can show.
use Rattle.std.proofs.Common.{◌≡◌, ◌≢◌, ℕ, zero, suc, ◌+◌, ◌≤◌, List, [], ◌∷◌, ◌++◌, refl, ap, sym, subst, ◌∙◌}
use Rattle.std.proofs.Common.{arith, ◌⊎◌, inl, inr, length, Some, add-zero}
use Rattle.std.specs.Prelude.{map, slice_get, slice_set}
use Rattle.std.proofs.lemmas.Bool.Decides.{nat_tests}
use Rattle.std.proofs.lemmas.Option.{slice_get_within}
use Rattle.rb_money.specs.Settings.{Settings}
use Rattle.rb_site.specs.declared.entry.Entry.{Entry}
use Rattle.rb_site.specs.declared.event.Event.TheVariants.{Pass, Receive}
use Rattle.rb_site.specs.declared.message.Message.{Message}
use Rattle.rb_site.specs.declared.message.Message.TheVariants.{Token as TokenOnItsWay}
use Rattle.rb_site.specs.Events.{first_site, outcome_of, sent_at}
use Rattle.rb_site.specs.Histories.{IsAmong, IsBlocked, IsCut, IsUnsent, events_of, sends_of, with_replies}
use Rattle.rb_site.proofs.Public.Lists
use Rattle.rb_site.proofs.Public.Places as Sets
use Rattle.rb_site.proofs.Public.Places.{same_number}
use Rattle.rb_site.proofs.Public.Stuck
use Rattle.rb_token.specs.Token.{first_token, pass_message}
use Rattle.rb_world.specs.Crashes.{DiskSite, Receives, WasReported, first_disks, histories_from}
use Rattle.rb_world.specs.CrashLaws.{HidesCrashes, DeeperCrashesShow}
use Rattle.rb_world.proofs.Places
use Rattle.rb_world.proofs.DiskStepping
use Rattle.rb_world.proofs.DiskStepping.{IsReached, disk}

-- ---- histories of one receipt

history_at : (s : Settings) (i k : ℕ) (w : List DiskSite) (d : DiskSite) → slice_get w k ≡ Some d →
    slice_get (histories_from s i w) k ≡ Some (with_replies s (first_site (i + k)) d.events)
history_at s i k [] d at = cc
history_at s i zero (x ∷ w) d at = cc (add-zero i)
history_at s i (suc k) (x ∷ w) d at = let q : i + suc k ≡ i + 1 + k = omega arith in rw q (history_at s (i + 1) k w d at)

length-histories : (s : Settings) (i : ℕ) (w : List DiskSite) → length (histories_from s i w) ≡ length w
length-histories s i [] = refl
length-histories s i (d ∷ w) = ap suc (length-histories s (i + 1) w)

-- the site of a history
history_back : (s : Settings) (k : ℕ) (w : List DiskSite) (h : List Entry) → slice_get (histories_from s 0 w) k ≡ Some h →
    (d : DiskSite) × (slice_get w k ≡ Some d) × (h ≡ with_replies s (first_site (0 + k)) d.events)
history_back s k w h at =
    let (d, there) = Places.item_at w k (omega (arith, length-histories s 0 w, slice_get_within (histories_from s 0 w) k h at)) in
    (d, there, cc (at, history_at s 0 k w d there))

-- the site has no event, or the receipt of this message alone
abbrev HasAtMost : Message → DiskSite → Type 0
HasAtMost m d = (d.events ≡ []) ⊎ (d.events ≡ Receive m ∷ [])

-- if sites have nothing but the receipt of one message, which so none of them sent, the histories are no world's
never_sent : (s : Settings) (w : List DiskSite) (m : Message) (k : ℕ) (b : DiskSite) →
    ((i : ℕ) (d : DiskSite) → slice_get w i ≡ Some d → HasAtMost m d) →
    slice_get w k ≡ Some b → b.events ≡ Receive m ∷ [] → ¬ HidesCrashes s w
never_sent s w m k b few at one = Stuck.stuck_final s hs fronts (record {
  cut = cut;
  site = k;
  history = with_replies s (first_site (0 + k)) b.events;
  at = history_at s 0 k w b at;
  left = left;
})
  where
    hs : List (List Entry)
    hs = histories_from s 0 w

    none : List Entry → List Entry
    none h = []

    fronts : List (List Entry)
    fronts = map none hs

    unsent : IsUnsent s fronts m
    unsent j f there among =
        let (h, here, is) = Lists.map_back none hs j f there in
        elim (subst (λ f. IsAmong m (sends_of s (first_site j) (events_of f))) is among) [ ]

    blocked : (i : ℕ) (d : DiskSite) → slice_get w i ≡ Some d → IsBlocked s fronts (with_replies s (first_site (0 + i)) d.events)
    blocked i d there = elim (few i d there) [
      | inl q ↦ subst (λ es. IsBlocked s fronts (with_replies s (first_site (0 + i)) es)) (sym q) tt
      | inr q ↦ subst (λ es. IsBlocked s fronts (with_replies s (first_site (0 + i)) es)) (sym q) (m, refl, unsent)
    ]

    cut : (i : ℕ) (h : List Entry) → slice_get hs i ≡ Some h → IsCut s fronts i h
    cut i h there =
        let (d, at, is) = history_back s i w h there in
        record {
          front = [];
          there = Lists.map_at none hs i h there;
          rest = h;
          goes_on = refl;
          blocked = subst (IsBlocked s fronts) (sym is) (blocked i d at);
        }

    left : ¬ (slice_get fronts k ≡ Some (with_replies s (first_site (0 + k)) b.events))
    left h =
        let empty : with_replies s (first_site (0 + k)) b.events ≡ [] = Places.same_item (slice_get fronts k) _ _ h
        (Lists.map_at none hs k _ (history_at s 0 k w b at)) in
        let some : with_replies s (first_site (0 + k)) (Receive m ∷ []) ≡ [] = ap (with_replies s (first_site (0 + k))) (sym one) ∙ empty in
        cc

-- ---- a message that is forgotten by its sender

-- the token's first message, to site 1
abbrev token_to_1 : Message
token_to_1 = TokenOnItsWay (pass_message (first_token 0) 1 0)

-- it is what site 0 sends as it passes the token
pass_sends : (s : Settings) → 2 ≤ s.sites → 1 ≤ s.limits.history → 1 ≤ s.limits.epoch →
    sent_at s (first_site 0) (Pass 1) ≡ token_to_1 ∷ []
unfolding outcome_of
pass_sends s two some epochs = grind (arith, nat_tests)

-- site 0 reports that it passed the token, site 1 receives it, and site 0 restarts as if it hadn't
pub deeper_show : DeeperCrashesShow
deeper_show s two some epochs =
    let passed = disk 1 1 (Pass 1 ∷ []) in
    let r = disk 0 0 (Receive token_to_1 ∷ []) in
    let forgotten = disk 0 1 [] in
    let first = DiskStepping.acted s 0 (disk 0 0 []) (Pass 1) tt (omega arith) (DiskStepping.first_reached s 0 (omega arith)) in
    let o : IsReached s 0 passed = DiskStepping.first_reported s 0 (Pass 1) [] first in
    let w4 = slice_set o.world 1 r in
    let at4 : slice_get w4 0 ≡ Some passed = Sets.get_set_other o.world 1 0 r (λ e. cc) ∙ o.at in
    let at1 : slice_get o.world 1 ≡ Some (disk 0 0 []) = o.others 1 (λ e. cc) ∙ DiskStepping.first_at s 1 (omega arith) in
    let reported : WasReported s o.world (Receives token_to_1) =
    (0, passed, o.at, subst (λ ms. IsAmong token_to_1 (ms ++ [])) (sym (pass_sends s two some epochs)) (inl refl)) in
    -- but for the receipt at site 1 no site has an event
    let few : (i : ℕ) (d : DiskSite) → slice_get (slice_set w4 0 forgotten) i ≡ Some d → HasAtMost token_to_1 d =
    Places.each_set w4 0 passed forgotten (λ i d. HasAtMost token_to_1 d) at4 (inl refl) (λ i d ne at.
    Places.each_set o.world 1 (disk 0 0 []) r (λ i d. i ≢ 0 → HasAtMost token_to_1 d) at1 (λ ne. inr refl) (λ i d nor at ne.
    inl (ap (λ (y : DiskSite). y.events) (Places.get_replicate s.sites i (disk 0 0 []) d (sym (o.others i ne) ∙ at)))) i d at ne) in
    record {
      world = w4;
      led = DiskStepping.goes_on s (first_disks s) o.world w4 o.led
          (DiskStepping.receives s o.world 1 (disk 0 0 []) token_to_1 at1 reported (omega arith));
      number = 0;
      site = passed;
      at = at4;
      kept = 0;
      fewer = omega arith;
      shows = never_sent s (slice_set w4 0 forgotten) token_to_1 1 r few
          (Sets.get_set_other w4 0 1 forgotten (λ e. cc) ∙ Sets.get_set_same o.world 1 (disk 0 0 []) r at1) refl;
    }
