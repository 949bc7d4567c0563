-- Claims that hold of the world after every run.
use Rattle.std.proofs.Common.{◌≡◌, ◌≢◌, ℕ, ◌+◌, ◌<◌, ◌≤◌, Bool, true, false, cond, not, List, [], ◌∷◌, ◌++◌, refl, ap, sym, ◌∙◌, arith}
use Rattle.std.proofs.Common.{inl, inr, subst, Some}
use Rattle.std.specs.Prelude.{slice_get, ◌==◌}
use Rattle.std.proofs.lemmas.Bool.Decides.{nat_tests}
use Rattle.std.proofs.lemmas.List.FromFn.{length-map-range_with_len}
use Rattle.std.proofs.lemmas.Option.{slice_get_within}
use Rattle.rb_money.specs.Settings.{Settings}
use Rattle.rb_money.specs.declared.limits.TheConstants.{MOST_SITES}
use Rattle.rb_shadow.specs.declared.op_name.OpName.{OpName}
use Rattle.rb_shadow.specs.declared.op_name.OpName.TheVariants.{Blue, Red}
use Rattle.rb_shadow.specs.declared.colour.Colour.{Colour}
use Rattle.rb_shadow.specs.declared.colour.Colour.TheVariants.{Blue as BlueColour, Red as RedColour}
use Rattle.rb_shadow.specs.declared.shadow.Shadow.{Shadow}
use Rattle.rb_shadow.specs.Operations.{Among, AreSame, EachEntry, blue_count, is_red, names, number_of, past, red_count}
use Rattle.rb_shadow.specs.Operations.{same_name, colour_in}
use Rattle.rb_shadow.specs.Laws.{IsPart}
use Rattle.rb_shadow.specs.Sound.{IsSound, is_foreign}
use Rattle.rb_shadow.proofs.Public.Members
use Rattle.rb_shadow.proofs.Public.Clocks
use Rattle.rb_shadow.proofs.Public.Clocks.{IsCounted}
use Rattle.rb_shadow.proofs.Public.SoundFacts
use Rattle.rb_ledger.specs.Valid.{IsValid}
use Rattle.rb_ledger.proofs.Public.Legal
use Rattle.rb_ledger.proofs.Public.Pasts
use Rattle.rb_ledger.proofs.Public.ValidClocks
use Rattle.rb_token.specs.declared.message.TokenMessage.{TokenMessage}
use Rattle.rb_token.specs.Token.{Token}
use Rattle.rb_inbox.specs.Held.{with_held, without}
use Rattle.rb_inbox.proofs.Public.{kept_among, held_cases}
use Rattle.rb_scratch.specs.Requests.{next_name}
use Rattle.rb_scratch.proofs.Public.Made.{IsAllowed, IsMadeAt}
use Rattle.rb_scratch.proofs.Public.Fits
use Rattle.rb_scratch.proofs.Public.Makes
use Rattle.rb_site.specs.declared.message.Message.{Message}
use Rattle.rb_site.specs.declared.message.Message.TheVariants.{Shadow as ShadowMessage, Token as TokenOnItsWay}
use Rattle.rb_site.specs.declared.event.Event.{Event}
use Rattle.rb_site.specs.declared.world_event.WorldEvent.{WorldEvent}
use Rattle.rb_site.specs.Events.{ModelSite, first_site}
use Rattle.rb_site.specs.Worlds.{AreOwn, World, first_world, made_in, shadows_in, tokens_in, world_of_run}
use Rattle.rb_world.specs.Laws.{EachSite}
use Rattle.rb_world.proofs.Steps
use Rattle.rb_world.proofs.Steps.{AmongTokens, Keeps, MayApply, MayHold, MayPass, each_moved, moved}
use Rattle.rb_world.proofs.Token
use Rattle.rb_world.proofs.Token.{IsInOnePlace, red_number}
use Rattle.rb_world.proofs.Order
use Rattle.rb_world.proofs.Order.{IsNew, IsOrderedSet, last_cases, part-last, part-more}

-- what is known of a site: its list is valid, and what it holds it hasn't applied
pub record IsInOrder (s : Settings) (all : List Shadow) (i : ℕ) (t : ModelSite) : Type 0 where
  pub low : i < s.sites
  pub valid : IsValid s t.ops
  pub own_past : EachEntry t.ops (λ before v. v.home ≡ i → AreSame (past v) (names before))
  pub part : IsPart t.ops all
  pub own : (v : Shadow) → Among v all → v.home ≡ i → Among v t.ops
  pub held : IsPart t.held all
  pub inbox : (u : Shadow) → Among u t.held → names t.ops u.name ≡ false
  pub needed : t.token.needed ≤ s.limits.red

-- the token messages are within the limits
abbrev pub AreWithin : Settings → List TokenMessage → Type 0
AreWithin s ns = (m : TokenMessage) → AmongTokens m ns → (m.epoch ≤ s.limits.epoch) × (m.red ≤ s.limits.red)

-- what is known of a world, which is good then: its sites are few and in order, the token is in one place, the
-- operations made are ordered, and the token messages are within the limits
pub record IsGood (s : Settings) (w : World) : Type 0 where
  pub few : s.sites ≤ MOST_SITES
  pub place : IsInOnePlace w
  pub order : IsOrderedSet s (made_in w)
  pub sites : EachSite w (IsInOrder s (made_in w))
  pub tokens : AreWithin s (tokens_in w.messages)

-- what was made is sound
pub sound_in : (s : Settings) (w : World) (v : Shadow) → IsGood s w → Among v (made_in w) → IsSound s v
sound_in s w v g h = Pasts.is_sound s (made_in w) v (g.order.pasts v h)

-- ---- what a site makes is new

-- what a site makes is what its plan says
made_as : (s : Settings) (t : ModelSite) (v : Shadow) (made : IsMadeAt s t.me t.ops t.token v) → v ≡ Fits.shadow_of t.me t.ops made.plan
made_as s t v made = made.is ∙ Fits.operation_is t.me t.ops made.plan

-- who makes a red operation knows every red one
knows_reds : (w : World) (i : ℕ) (t : ModelSite) → IsInOnePlace w → slice_get w.sites i ≡ Some t → t.token.held ≡ true →
    t.token.needed ≤ red_count t.ops → Token.RedsUpTo (made_in w) (red_count t.ops)
knows_reds w i t p at held enough v h = omega (arith, (Token.held_here w i t p at held).reds v h)

-- a red operation that the list counts is in it
red_there : (us : List Shadow) (x : OpName) → IsCounted us → is_red x ≡ true → 1 ≤ number_of x → red_number x ≤ red_count us →
    names us x ≡ true
red_there us (Blue i n) counted red positive most = cc
red_there us (Red n) counted red positive most = counted (Red n) ∙ Clocks.in_range n (red_count us) positive most

new_made : (s : Settings) (w : World) (i : ℕ) (t : ModelSite) (v : Shadow) → IsGood s w → slice_get w.sites i ≡ Some t →
    IsMadeAt s t.me t.ops t.token v → IsNew s (made_in w) t.ops v
new_made s w i t v g at made = record {
  part = here.part;
  valid = Legal.IsValid-push s t.ops v here.valid (Makes.made_follows s t.me t.ops t.token v g.few low here.valid made);
  is_past = λ x. sym (ValidClocks.clock_past s t.ops v g.few here.valid (ap (λ (x : Shadow). x.deps) (made_as s t v made)) x);
  fresh = elim (Members.bool_cases (names all v.name)) [
    | inl e ↦ absurd (fresh (colour_in t.ops made.plan.kind) v.name (ap (λ (x : Shadow). x.name) (made_as s t v made)) made.fair e)
    | inr e ↦ e
  ];
  reds = λ e u h k. by v.name e made.fair u h k;
  homes = λ u h e. Members.named t.ops u (here.own u h (e ∙ ap (λ (x : Shadow). x.home) (made_as s t v made) ∙ me));
}
  where
    all : List Shadow
    all = made_in w

    here : IsInOrder s all i t
    here = g.sites i t at

    me : t.me ≡ i
    me = g.place.numbered i t at

    low : t.me < s.sites
    low = subst (λ k. k < s.sites) (sym me) here.low

    by : (x : OpName) → is_red x ≡ true → IsAllowed s t.ops t.token v x → (u : Shadow) → Among u all → is_red u.name ≡ true →
        names t.ops u.name ≡ true
    by (Blue j n) e fair u h k = cc
    by (Red n) e fair u h k = red_there t.ops u.name (ValidClocks.valid_counted s t.ops here.valid) k
        (SoundFacts.is_next s u (sound_in s w u g h)).positive (knows_reds w i t g.place at fair.0 fair.1 u h)

    at_home : (x : OpName) (home n : ℕ) → is_foreign x home ≡ false → x ≡ Blue t.me n → home ≡ t.me
    at_home x home n f e = let k : not (t.me == home) ≡ false = ap (λ y. is_foreign y home) (sym e) ∙ f in grind (arith, nat_tests)

    fresh : (c : Colour) (x : OpName) → x ≡ next_name t.me t.ops c → IsAllowed s t.ops t.token v x → names all x ≡ true → ⊥
    fresh BlueColour x e fair h =
        let (u, there, named) = Members.find_named all x h in
        let home : u.home ≡ t.me = at_home u.name u.home (blue_count t.ops t.me
        + 1) (SoundFacts.sound_facts s u (sound_in s w u g there)).own (named ∙ e) in
        Members.true≢false (sym (Members.named t.ops u (here.own u there (home ∙ me))) ∙ ap (names t.ops) (named ∙ e)
        ∙ Fits.fresh_name s t.me t.ops BlueColour here.valid)
    fresh RedColour x e fair h =
        let (u, there, named) = Members.find_named all x h in
        let fair' : IsAllowed s t.ops t.token v (Red (red_count t.ops + 1)) = subst (IsAllowed s t.ops t.token v) e fair in
        let most : red_number u.name ≤ red_count t.ops = knows_reds w i t g.place at fair'.0 fair'.1 u there in
        let is : red_number u.name ≡ red_count t.ops + 1 = ap red_number (named ∙ e) in
        omega arith

-- ---- a site after a step

-- a site at which nothing was made
older_site : (s : Settings) (all : List Shadow) (v : Shadow) (i : ℕ) (t : ModelSite) → v.home ≢ i → IsInOrder s all i t →
    IsInOrder s (all ++ v ∷ []) i t
older_site s all v i t away o =
    let part : IsPart t.ops (all ++ v ∷ []) = λ u h. part-more all v u (o.part u h) in
    let own : (u : Shadow) → Among u (all ++ v ∷ []) → u.home ≡ i → Among u t.ops = λ u h e. elim (last_cases all v u h) [
      | inl k ↦ o.own u k e
      | inr k ↦ absurd (away (ap (λ (x : Shadow). x.home) (sym k) ∙ e))
    ] in
    let held : IsPart t.held (all ++ v ∷ []) = λ u h. part-more all v u (o.held u h) in
    assumption

-- the names of a list with one more
pass_name : (us : List Shadow) (v : Shadow) (x : OpName) → names us x ≡ false → same_name v.name x ≡ false → names (us ++ v ∷ []) x ≡ false
pass_name us v x h k = Members.names-append us (v ∷ []) x ∙ Members.false-or _ _ h (Members.false-or _ _ k refl)

made_site : (s : Settings) (all : List Shadow) (i : ℕ) (t : ModelSite) (v : Shadow) → IsInOrder s all i t → IsNew s all t.ops v →
    IsInOrder s (all ++ v ∷ []) i (record t { ops = t.ops ++ v ∷ [] })
made_site s all i t v o n = record {
  low = o.low;
  valid = n.valid;
  own_past = Legal.each_push (λ before u. u.home ≡ i → AreSame (past u) (names before)) t.ops v o.own_past (λ e x. sym (n.is_past x));
  part = part-last (all ++ v ∷ []) t.ops v (λ u h. part-more all v u (o.part u h)) (Members.Among-right all (v ∷ []) v (inl refl));
  own = λ u h e. elim (last_cases all v u h) [
    | inl k ↦ part-more t.ops v u (o.own u k e)
    | inr k ↦ subst (λ x. Among x (t.ops ++ v ∷ [])) (sym k) (Members.Among-right t.ops (v ∷ []) v (inl refl))
  ];
  held = λ u h. part-more all v u (o.held u h);
  inbox = λ u h. pass_name t.ops v u.name (o.inbox u h) (Members.not_same v.name u.name
      (λ e. Members.true≢false (sym (Members.named all u (o.held u h)) ∙ ap (names all) (sym e) ∙ n.fresh)));
  needed = o.needed;
}

-- a site whose list is the same
same_list : (s : Settings) (all : List Shadow) (i : ℕ) (t : ModelSite) (hs : List Shadow) (k : Token) (h : List Event) → IsInOrder s all i t
    → IsPart hs all → ((u : Shadow) → Among u hs → names t.ops u.name ≡ false) → k.needed ≤ s.limits.red
    → IsInOrder s all i (record { me = t.me; ops = t.ops; held = hs; token = k; history = h })
same_list s all i t hs k h o part inbox needed = assumption

in_without : (x : OpName) (us : List Shadow) (u : Shadow) → Among u (without x us) → Among u us
in_without x us u h = kept_among (λ y. not (same_name y.name x)) us u h

-- what stays without a name has another
without_name : (x : OpName) (us : List Shadow) (u : Shadow) → Among u (without x us) → same_name u.name x ≡ false
without_name x [] u h = elim h [ ]
without_name x (v ∷ us) u h = at (same_name v.name x) refl h (without_name x us u)
  where
    at : (b : Bool) → same_name v.name x ≡ b → Among u (cond (not b) (v ∷ without x us) (without x us)) →
        (Among u (without x us) → same_name u.name x ≡ false) → same_name u.name x ≡ false
    at true e k rest = rest k
    at false e (inl k) rest = ap (λ (y : Shadow). same_name y.name x) k ∙ e
    at false e (inr k) rest = rest k

held_site : (s : Settings) (ms : List Message) (i : ℕ) (t : ModelSite) (v : Shadow) → IsInOrder s (shadows_in ms) i t → MayHold ms t v →
    IsInOrder s (shadows_in ms) i (record t { held = with_held v t.held })
held_site s ms i t v o may =
    same_list s (shadows_in ms) i t (with_held v t.held) t.token t.history o
    (λ u h. elim (held_cases v t.held u h) [ inl e ↦ subst (λ x. Among x (shadows_in ms)) (sym e) may.sent | inr k ↦ o.held u k ])
    (λ u h. elim (held_cases v t.held u h) [ inl e ↦ ap (λ (y : Shadow). names t.ops y.name) e ∙ may.fresh | inr k ↦ o.inbox u k ])
    o.needed

applied_site : (s : Settings) (all : List Shadow) (i : ℕ) (t : ModelSite) (v : Shadow) → IsInOrder s all i t → IsSound s v → MayApply s t v
    → IsInOrder s all i (record t { ops = t.ops ++ v ∷ []; held = without v.name t.held })
applied_site s all i t v o sound may = record {
  low = o.low;
  valid = Legal.taken_rightly s t.ops v o.valid sound (sym may.right);
  own_past = Legal.each_push (λ before u. u.home ≡ i → AreSame (past u) (names before)) t.ops v o.own_past
      (λ e. absurd (Members.true≢false (sym (Members.named t.ops v (o.own v (o.held v may.held) e)) ∙ o.inbox v may.held)));
  part = part-last all t.ops v o.part (o.held v may.held);
  own = λ u h e. part-more t.ops v u (o.own u h e);
  held = λ u h. o.held u (in_without v.name t.held u h);
  inbox = λ u h. pass_name t.ops v u.name (o.inbox u (in_without v.name t.held u h)) (Members.same_name-comm v.name u.name
      ∙ without_name v.name t.held u h);
  needed = o.needed;
}

-- ---- each kind of step

-- nothing is made
stays : (s : Settings) (w : World) (i : ℕ) (t n : ModelSite) (ms : List Message) → IsGood s w → slice_get w.sites i ≡ Some t →
    IsInOnePlace (moved w i n ms) → shadows_in ms ≡ made_in w → AreWithin s (tokens_in ms) → IsInOrder s (made_in w) i n →
    IsGood s (moved w i n ms)
stays s w i t n ms g at place same tokens here = record {
  few = g.few;
  place = place;
  order = subst (IsOrderedSet s) (sym same) g.order;
  sites = subst (λ all. EachSite (moved w i n ms) (IsInOrder s all)) (sym same)
      (each_moved w i t n ms (IsInOrder s (made_in w)) at (λ j u h ne. g.sites j u h) here);
  tokens = tokens;
}

makes : (s : Settings) (w : World) (i : ℕ) (t : ModelSite) (v : Shadow) → IsGood s w → slice_get w.sites i ≡ Some t →
    IsMadeAt s t.me t.ops t.token v → IsGood s (moved w i (record t { ops = t.ops ++ v ∷ [] }) (w.messages ++ ShadowMessage v ∷ []))
makes s w i t v g at made =
    let all = made_in w in
    let n = record t { ops = t.ops ++ v ∷ [] } in
    let ms = w.messages ++ ShadowMessage v ∷ [] in
    let same : shadows_in ms ≡ all ++ v ∷ [] = Token.made_more w.messages v in
    let new = new_made s w i t v g at made in
    let home : v.home ≡ i = ap (λ (x : Shadow). x.home) (made_as s t v made) ∙ g.place.numbered i t at in
    record {
      few = g.few;
      place = (Token.keeps_place s).makes w i t v g.place at made;
      order = subst (IsOrderedSet s) (sym same) (Order.set_more s all t.ops v g.order new);
      sites = subst (λ all. EachSite (moved w i n ms) (IsInOrder s all)) (sym same)
          (each_moved w i t n ms (IsInOrder s (all ++ v ∷ [])) at
          (λ j u h ne. older_site s all v j u (λ e. ne (sym e ∙ home)) (g.sites j u h))
          (made_site s all i t v (g.sites i t at) new));
      tokens = subst (AreWithin s) (sym (Token.tokens_same w.messages v)) g.tokens;
    }

-- the message of a token that is passed is within the limits
passed_within : (s : Settings) (w : World) (i : ℕ) (t : ModelSite) (m : TokenMessage) → IsGood s w → slice_get w.sites i ≡ Some t →
    MayPass s t m → AreWithin s (tokens_in (w.messages ++ TokenOnItsWay m ∷ []))
passed_within s w i t m g at may k h = elim (Token.tokens_cases (tokens_in w.messages) (m ∷ []) k
    (rw Token.tokens_more at h)) [
      | inl old ↦ g.tokens k old
      | inr (inl e) ↦ rw e (may.within, red)
      | inr (inr q) ↦ elim q [ ]
    ]
  where
    red : m.red ≤ s.limits.red
    red = omega (
      arith,
      (g.sites i t at).needed,
      ValidClocks.within_limit s t.ops (Red (red_count t.ops)) (g.sites i t at).valid refl,
      may.red,
    )

-- each kind of step keeps a world good
pub keeps_good : (s : Settings) → Keeps s (IsGood s)
keeps_good s = record {
  notes = λ w i t h g at. let o = g.sites i t at in stays s w i t _ w.messages g at (place.notes w i t h g.place at) refl g.tokens
      (same_list s _ i t t.held t.token h o o.held o.inbox o.needed);
  makes = makes s;
  drops = λ w i t x g at. let o = g.sites i t at in stays s w i t _ w.messages g at (place.drops w i t x g.place at) refl g.tokens
      (same_list s _ i t (without x t.held) t.token t.history o (λ u h. o.held u (in_without x t.held u h))
      (λ u h. o.inbox u (in_without x t.held u h)) o.needed);
  holds = λ w i t v g at may. let o = g.sites i t at in stays s w i t _ w.messages g at (place.holds w i t v g.place at may) refl g.tokens
      (held_site s w.messages i t v o may);
  applies = λ w i t v g at may. let o = g.sites i t at in stays s w i t _ w.messages g at (place.applies w i t v g.place at may) refl
      g.tokens (applied_site s _ i t v o (sound_in s w v g (o.held v may.held)) may);
  takes = λ w i t m g at may. let o = g.sites i t at in stays s w i t _ w.messages g at (place.takes w i t m g.place at may) refl g.tokens
      (same_list s _ i t t.held _ t.history o o.held o.inbox (g.tokens m may.sent).1);
  passes = λ w i t m g at may. let o = g.sites i t at in stays s w i t _ _ g at (place.passes w i t m g.place at may)
      (Token.made_same w.messages m) (passed_within s w i t m g at may) (same_list s _ i t t.held _ t.history o o.held o.inbox o.needed);
}
  where
    place : Keeps s IsInOnePlace
    place = Token.keeps_place s

-- an empty list has no entry
no_entry : (P : List Shadow → Shadow → Type 0) → EachEntry [] P
no_entry P before v after e = absurd (Members.never_empty before after v (sym e))

-- a world of 1 to MOST_SITES sites is good before any event
pub first_good : (s : Settings) → 1 ≤ s.sites → s.sites ≤ MOST_SITES → IsGood s (first_world s)
first_good s some few = record {
  few = few;
  place = Token.first_place s some;
  order = record { unique = tt; in_turn = no_entry _; pasts = λ v h. elim h [ ]; reds = λ u v h. elim h [ ]; homes = λ u v h. elim h [ ] };
  sites = λ i t h. subst (IsInOrder s [] i) (sym (Token.first_is s i t h)) (record {
    low = subst (λ n. i < n) (length-map-range_with_len first_site 0 s.sites) (slice_get_within (first_world s).sites i t h);
    valid = Legal.IsValid-none s;
    own_past = no_entry _;
    part = λ v k. elim k [ ];
    own = λ v k. elim k [ ];
    held = λ v k. elim k [ ];
    inbox = λ v k. elim k [ ];
    needed = omega arith;
  });
  tokens = λ m h. elim h [ ];
}

-- a world of 1 to MOST_SITES sites is good after every run in which messages come by deliveries alone
pub good_run : (s : Settings) (es : List WorldEvent) → 1 ≤ s.sites → s.sites ≤ MOST_SITES → AreOwn es → IsGood s (world_of_run s es)
good_run s es some few own = Steps.after_all s (IsGood s) (keeps_good s) es (first_world s) own (first_good s some few)
