-- The place of the red token, and the red operations that its holder knows of.
use Rattle.std.proofs.Common.{◌≡◌, ◌≢◌, ℕ, ◌+◌, ◌<◌, ◌≤◌, true, false, cond, List, [], ◌∷◌, ◌++◌, refl, ap, sym, ◌∙◌}
use Rattle.std.proofs.Common.{arith, ◌⊎◌, inl, inr, subst, Some}
use Rattle.std.specs.Prelude.{slice_get, max}
use Rattle.std.proofs.lemmas.List.FromFn.{length-map-range_with_len}
use Rattle.std.proofs.lemmas.List.{append-nil}
use Rattle.rb_money.specs.Settings.{Settings}
use Rattle.rb_scratch.proofs.Public.Made.{IsAllowed, IsMadeAt}
use Rattle.rb_shadow.specs.declared.op_name.OpName.{OpName}
use Rattle.rb_shadow.specs.declared.op_name.OpName.TheVariants.{Blue, Red}
use Rattle.rb_shadow.specs.declared.colour.Colour.{Colour}
use Rattle.rb_shadow.specs.declared.colour.Colour.TheVariants.{Blue as BlueColour, Red as RedColour}
use Rattle.rb_shadow.specs.declared.shadow.Shadow.{Shadow}
use Rattle.rb_shadow.specs.Operations.{Among, red_count, is_red, colour_in}
use Rattle.rb_shadow.proofs.Public.Members
use Rattle.rb_shadow.proofs.Public.Clocks
use Rattle.rb_token.specs.declared.message.TokenMessage.{TokenMessage}
use Rattle.rb_site.specs.declared.message.Message.{Message}
use Rattle.rb_site.specs.declared.message.Message.TheVariants.{Shadow as ShadowMessage, Token as TokenOnItsWay}
use Rattle.rb_site.specs.declared.event.Event.{Event}
use Rattle.rb_scratch.specs.Requests.{operation_of, next_name}
use Rattle.rb_site.specs.Events.{ModelSite, first_site}
use Rattle.rb_inbox.specs.Held.{with_held, without}
use Rattle.rb_site.specs.Worlds.{World, shadows_in, tokens_in, made_in, first_world}
use Rattle.rb_world.specs.Laws.{EachSite, OneToken}
use Rattle.rb_world.proofs.Places
use Rattle.rb_world.proofs.Steps.{AmongTokens, MayTake, MayPass, Keeps, moved, each_moved}
use Rattle.rb_money.proofs.Public.Tests
use Rattle.rb_site.proofs.Public.Places.{get_set_other, get_set_same, same_number}
use Rattle.rb_site.proofs.Public.Stuck

-- ---- messages

-- the operations in two lists of messages together
pub shadows_in-append : (ms ns : List Message) → shadows_in (ms ++ ns) ≡ shadows_in ms ++ shadows_in ns
shadows_in-append [] ns = refl
shadows_in-append (ShadowMessage v ∷ ms) ns = ap (λ vs. v ∷ vs) (shadows_in-append ms ns)
shadows_in-append (TokenOnItsWay m ∷ ms) ns = shadows_in-append ms ns

-- the token messages in two lists of messages together
pub tokens_in-append : (ms ns : List Message) → tokens_in (ms ++ ns) ≡ tokens_in ms ++ tokens_in ns
tokens_in-append [] ns = refl
tokens_in-append (ShadowMessage v ∷ ms) ns = tokens_in-append ms ns
tokens_in-append (TokenOnItsWay m ∷ ms) ns = ap (λ vs. m ∷ vs) (tokens_in-append ms ns)

-- one more shadow is sent
pub made_more : (ms : List Message) (v : Shadow) → shadows_in (ms ++ ShadowMessage v ∷ []) ≡ shadows_in ms ++ v ∷ []
made_more ms v = shadows_in-append ms (ShadowMessage v ∷ [])

-- one more shadow that is sent leaves the token messages as they are
pub tokens_same : (ms : List Message) (v : Shadow) → tokens_in (ms ++ ShadowMessage v ∷ []) ≡ tokens_in ms
tokens_same ms v = tokens_in-append ms (ShadowMessage v ∷ []) ∙ append-nil (tokens_in ms)

-- one more token message that is sent leaves the operations as they are
pub made_same : (ms : List Message) (m : TokenMessage) → shadows_in (ms ++ TokenOnItsWay m ∷ []) ≡ shadows_in ms
made_same ms m = shadows_in-append ms (TokenOnItsWay m ∷ []) ∙ append-nil (shadows_in ms)

-- one more token message is sent
pub tokens_more : (ms : List Message) (m : TokenMessage) → tokens_in (ms ++ TokenOnItsWay m ∷ []) ≡ tokens_in ms ++ m ∷ []
tokens_more ms m = tokens_in-append ms (TokenOnItsWay m ∷ [])

-- a token message of two lists together is in the first or in the second
pub tokens_cases : (ms ns : List TokenMessage) (m : TokenMessage) → AmongTokens m (ms ++ ns) → AmongTokens m ms ⊎ AmongTokens m ns
tokens_cases [] ns m h = inr h
tokens_cases (n ∷ ms) ns m (inl e) = inl (inl e)
tokens_cases (n ∷ ms) ns m (inr h) = elim (tokens_cases ms ns m h) [ inl k ↦ inl (inr k) | inr k ↦ inr k ]

tokens_right : (ms ns : List TokenMessage) (m : TokenMessage) → AmongTokens m ns → AmongTokens m (ms ++ ns)
tokens_right [] ns m h = h
tokens_right (n ∷ ms) ns m h = inr (tokens_right ms ns m h)

-- ---- where the token is

-- the number in a red operation's name, or 0 if the operation is blue
abbrev pub red_number : OpName → ℕ
red_number (Blue i n) = 0
red_number (Red n) = n

-- the red operations have numbers up to n
abbrev pub RedsUpTo : List Shadow → ℕ → Type 0
RedsUpTo vs n = (v : Shadow) → Among v vs → red_number v.name ≤ n

-- the site that the message goes to has its epoch already, or a later one
abbrev pub IsStale : World → TokenMessage → Type 0
IsStale w m = EachSite w (λ j u. m.to ≡ j → m.epoch ≤ u.token.epoch)

-- site k, which is t, has it: no other has it, no message can be taken, and the site needs or has applied every red
-- operation
pub record IsHeldAt (w : World) (k : ℕ) (t : ModelSite) : Type 0 where
  pub at : slice_get w.sites k ≡ Some t
  pub held : t.token.held ≡ true
  pub alone : EachSite w (λ j u. j ≢ k → u.token.held ≡ false)
  pub latest : EachSite w (λ j u. u.token.epoch ≤ t.token.epoch)
  pub stale : (m : TokenMessage) → AmongTokens m (tokens_in w.messages) → IsStale w m
  pub reds : RedsUpTo (made_in w) (max t.token.needed (red_count t.ops))

-- it is on its way by the message m: no site has it, no other message can be taken, and the message counts every red
-- operation
pub record IsOnItsWay (w : World) (m : TokenMessage) : Type 0 where
  pub sent : AmongTokens m (tokens_in w.messages)
  pub unheld : EachSite w (λ j u. u.token.held ≡ false)
  pub latest : EachSite w (λ j u. u.token.epoch ≤ m.epoch)
  pub stale : (n : TokenMessage) → AmongTokens n (tokens_in w.messages) → (n ≡ m) ⊎ IsStale w n
  pub reds : RedsUpTo (made_in w) m.red

-- each site has its place as its number, and the token is at a site or on its way by a message
pub record IsInOnePlace (w : World) : Type 0 where
  pub numbered : EachSite w (λ i t. t.me ≡ i)
  pub place : ((k : ℕ) × (t : ModelSite) × IsHeldAt w k t) ⊎ ((m : TokenMessage) × IsOnItsWay w m)

-- the place of a token that a site has is that site
pub held_here : (w : World) (i : ℕ) (t : ModelSite) → IsInOnePlace w → slice_get w.sites i ≡ Some t → t.token.held ≡ true →
    IsHeldAt w i t
held_here w i t p at held = by p.place
  where
    by : ((k : ℕ) × (u : ModelSite) × IsHeldAt w k u) ⊎ ((m : TokenMessage) × IsOnItsWay w m) → IsHeldAt w i t
    by (inl (k, u, o)) = elim (same_number i k) [
      | inl e ↦
          let o' : IsHeldAt w i u = subst (λ k. IsHeldAt w k u) e o in
          subst (IsHeldAt w i) (Places.same_item (slice_get w.sites i) u t o'.at at) o'
      | inr ne ↦ absurd (Members.true≢false (sym held ∙ o.alone i t at (λ e. ne (sym e))))
    ]
    by (inr (m, on)) = absurd (Members.true≢false (sym held ∙ on.unheld i t at))

-- the site changes, but for its number and its token
abbrev pub quietly : ModelSite → List Shadow → List Shadow → List Event → ModelSite
quietly t os hs h = record { me = t.me; ops = os; held = hs; token = t.token; history = h }

-- what may have been sent: a red one only by who has the token
abbrev pub SendsFew : World → ModelSite → List Shadow → List Message → Type 0
SendsFew w t os ms = (v : Shadow) → Among v (shadows_in ms) → Among v (made_in w)
    ⊎ ((red_number v.name ≡ 0) ⊎ ((t.token.held ≡ true) × (red_number v.name ≤ red_count os)))

numbered_quietly : (w : World) (i : ℕ) (t n : ModelSite) (ms : List Message) → EachSite w (λ i t. t.me ≡ i) → slice_get w.sites i ≡ Some t →
    n.me ≡ t.me → EachSite (moved w i n ms) (λ i t. t.me ≡ i)
numbered_quietly w i t n ms numbered at same = each_moved w i t n ms (λ j u. u.me ≡ j) at (λ j u g ne. numbered j u g) (same
    ∙ numbered i t at)

reds_here : (w : World) (t : ModelSite) (os : List Shadow) (ms : List Message) → SendsFew w t os ms → red_count t.ops ≤ red_count os →
    RedsUpTo (made_in w) (max t.token.needed (red_count t.ops)) → RedsUpTo (shadows_in ms) (max t.token.needed (red_count os))
reds_here w t os ms few more reds v h = elim (few v h) [
  | inl k ↦ let a : red_number v.name ≤ max t.token.needed (red_count t.ops) = reds v k in omega arith
  | inr k ↦ elim k [ inl e ↦ omega arith | inr e ↦ let a : red_number v.name ≤ red_count os = e.1 in omega arith ]
]

reds_there : (w : World) (t : ModelSite) (os : List Shadow) (ms : List Message) (r : ℕ) → SendsFew w t os ms → t.token.held ≡ false →
    RedsUpTo (made_in w) r → RedsUpTo (shadows_in ms) r
reds_there w t os ms r few unheld reds v h = elim (few v h) [
  | inl k ↦ reds v k
  | inr k ↦ elim k [ inl e ↦ omega arith | inr e ↦ absurd (Members.true≢false (sym e.0 ∙ unheld)) ]
]

quiet : (w : World) (i : ℕ) (t : ModelSite) (os hs : List Shadow) (h : List Event) (ms : List Message) → IsInOnePlace w →
    slice_get w.sites i ≡ Some t → tokens_in ms ≡ tokens_in w.messages → red_count t.ops ≤ red_count os → SendsFew w t os ms →
    IsInOnePlace (moved w i (quietly t os hs h) ms)
quiet w i t os hs h ms p at toks more few = record { numbered = numbered_quietly w i t n ms p.numbered at refl; place = by p.place }
  where
    n : ModelSite
    n = quietly t os hs h

    was : (m : TokenMessage) → AmongTokens m (tokens_in ms) → AmongTokens m (tokens_in w.messages)
    was m k = subst (AmongTokens m) toks k

    still : (m : TokenMessage) → IsStale w m → IsStale (moved w i n ms) m
    still m old = each_moved w i t n ms (λ j u. m.to ≡ j → m.epoch ≤ u.token.epoch) at (λ j u g ne. old j u g) (old i t at)

    here : IsHeldAt w i t → IsHeldAt (moved w i n ms) i n
    here o = record {
      at = get_set_same w.sites i t n at;
      held = o.held;
      alone = each_moved w i t n ms (λ j u. j ≢ i → u.token.held ≡ false) at (λ j u g ne. o.alone j u g) (λ ne. absurd (ne refl));
      latest = each_moved w i t n ms (λ j u. u.token.epoch ≤ t.token.epoch) at (λ j u g ne. o.latest j u g) (o.latest i t at);
      stale = λ m k. still m (o.stale m (was m k));
      reds = reds_here w t os ms few more o.reds;
    }

    there : (k : ℕ) (u : ModelSite) → k ≢ i → IsHeldAt w k u → IsHeldAt (moved w i n ms) k u
    there k u ne o = record {
      at = get_set_other w.sites i k n ne ∙ o.at;
      held = o.held;
      alone = each_moved w i t n ms (λ j v. j ≢ k → v.token.held ≡ false) at (λ j v g e. o.alone j v g) (o.alone i t at);
      latest = each_moved w i t n ms (λ j v. v.token.epoch ≤ u.token.epoch) at (λ j v g e. o.latest j v g) (o.latest i t at);
      stale = λ m q. still m (o.stale m (was m q));
      reds = reds_there w t os ms (max u.token.needed (red_count u.ops)) few (o.alone i t at (λ e. ne (sym e))) o.reds;
    }

    by : ((k : ℕ) × (u : ModelSite) × IsHeldAt w k u) ⊎ ((m : TokenMessage) × IsOnItsWay w m) →
        ((k : ℕ) × (u : ModelSite) × IsHeldAt (moved w i n ms) k u) ⊎ ((m : TokenMessage) × IsOnItsWay (moved w i n ms) m)
    by (inl (k, u, o)) = elim (same_number i k) [
      | inl e ↦
          let o' : IsHeldAt w i u = subst (λ k. IsHeldAt w k u) e o in
          inl (i, n, here (subst (IsHeldAt w i) (Places.same_item (slice_get w.sites i) u t o'.at at) o'))
      | inr ne ↦ inl (k, u, there k u ne o)
    ]
    by (inr (m, o)) = inr (
      m,
      record {
        sent = subst (AmongTokens m) (sym toks) o.sent;
        unheld = each_moved w i t n ms (λ j u. u.token.held ≡ false) at (λ j u g e. o.unheld j u g) (o.unheld i t at);
        latest = each_moved w i t n ms (λ j u. u.token.epoch ≤ m.epoch) at (λ j u g e. o.latest j u g) (o.latest i t at);
        stale = λ k q. elim (o.stale k (was k q)) [ inl e ↦ inl e | inr e ↦ inr (still k e) ];
        reds = reds_there w t os ms m.red few (o.unheld i t at) o.reds;
      },
    )

red_count-push : (us : List Shadow) (v : Shadow) → red_count us ≤ red_count (us ++ v ∷ [])
red_count-push us v = omega (arith, Clocks.red_count-append us (v ∷ []))

-- ---- what a site makes

sends_made : (s : Settings) (w : World) (t : ModelSite) (v : Shadow) → IsMadeAt s t.me t.ops t.token v →
    SendsFew w t (t.ops ++ v ∷ []) (w.messages ++ ShadowMessage v ∷ [])
unfolding operation_of
sends_made s w t v made u h = elim (Members.Among-cases (made_in w) (v ∷ []) u (subst (Among u) (made_more w.messages v) h)) [
  | inl k ↦ inl k
  | inr k ↦ elim k [
    | inl e ↦ inr (subst (λ (x : Shadow). (red_number x.name ≡ 0)
        ⊎ ((t.token.held ≡ true) × (red_number x.name ≤ red_count (t.ops ++ v ∷ [])))) (sym e)
        (by v.name refl (colour_in t.ops made.plan.kind) (ap (λ (x : Shadow). x.name) made.is) made.fair (Clocks.red_count-append t.ops (v
        ∷ []))))
    | inr e ↦ elim e [ ]
  ]
]
  where
    by : (x : OpName) → v.name ≡ x → (c : Colour) → x ≡ next_name t.me t.ops c → IsAllowed s t.ops t.token v x →
        red_count (t.ops ++ v ∷ []) ≡ red_count t.ops + (0 + cond (is_red v.name) 1 0) →
        (red_number x ≡ 0) ⊎ ((t.token.held ≡ true) × (red_number x ≤ red_count (t.ops ++ v ∷ [])))
    by (Blue i n) e c is fair more = inl refl
    by (Red n) e BlueColour is fair more = cc
    by (Red n) e RedColour is fair more = inr (
      fair.0,
      let a : n ≡ red_count t.ops + 1 = cc in
          let b : red_count (t.ops ++ v ∷ []) ≡ red_count t.ops + (0 + 1) = more ∙ ap (λ y. red_count t.ops + (0 + cond (is_red y) 1 0)) e
          in
          omega arith,
    )

-- ---- the token goes on

taken : (s : Settings) (w : World) (i : ℕ) (t : ModelSite) (m : TokenMessage) → IsInOnePlace w → slice_get w.sites i ≡ Some t →
    MayTake w.messages t m → IsInOnePlace (moved w i (record t { token = record { epoch = m.epoch; held = true; needed = m.red } })
    w.messages)
taken s w i t m p at may = record { numbered = numbered_quietly w i t n w.messages p.numbered at refl; place = inl (i, n, by p.place) }
  where
    n : ModelSite
    n = record t { token = record { epoch = m.epoch; held = true; needed = m.red } }

    mine : m.to ≡ i
    mine = may.mine ∙ p.numbered i t at

    not_stale : IsStale w m → ⊥
    not_stale old = let a : m.epoch ≤ t.token.epoch = old i t at mine in let b : t.token.epoch < m.epoch = may.later in omega arith

    stale : (o : TokenMessage) → IsOnItsWay w o → m ≡ o → (k : TokenMessage) → AmongTokens k (tokens_in w.messages) →
        IsStale (moved w i n w.messages) k
    stale o on e k h = elim (on.stale k h) [
      | inl q ↦
          let same : k ≡ m = q ∙ sym e in
          each_moved w i t n w.messages (λ j u. k.to ≡ j → k.epoch ≤ u.token.epoch) at
          (λ j u g ne to. absurd (ne (sym to ∙ ap (λ (x : TokenMessage). x.to) same ∙ mine)))
          (λ to. let a : k.epoch ≡ m.epoch = ap (λ (x : TokenMessage). x.epoch) same in omega arith)
      | inr old ↦
          each_moved w i t n w.messages (λ j u. k.to ≡ j → k.epoch ≤ u.token.epoch) at
          (λ j u g ne. old j u g)
          (λ to. let a : k.epoch ≤ t.token.epoch = old i t at to in let b : t.token.epoch < m.epoch = may.later in omega arith)
    ]

    found : (o : TokenMessage) → IsOnItsWay w o → m ≡ o → IsHeldAt (moved w i n w.messages) i n
    found o on e = record {
      at = get_set_same w.sites i t n at;
      held = refl;
      alone = each_moved w i t n w.messages (λ j u. j ≢ i → u.token.held
          ≡ false) at (λ j u g ne h. on.unheld j u g) (λ ne. absurd (ne refl));
      latest = each_moved w i t n w.messages (λ j u. u.token.epoch ≤ m.epoch) at (λ j u g ne. subst (λ (x : TokenMessage). u.token.epoch
          ≤ x.epoch) (sym e) (on.latest j u g)) (let a : m.epoch ≤ m.epoch = omega arith in a);
      stale = stale o on e;
      reds = λ v h. let a : red_number v.name ≤ o.red = on.reds v h in let b : m.red ≡ o.red = ap (λ (x : TokenMessage). x.red) e in
          omega arith;
    }

    by : ((k : ℕ) × (u : ModelSite) × IsHeldAt w k u) ⊎ ((m : TokenMessage) × IsOnItsWay w m) → IsHeldAt (moved w i n w.messages) i n
    by (inl (k, u, o)) = absurd (not_stale (o.stale m may.sent))
    by (inr (o, on)) = elim (on.stale m may.sent) [ inl e ↦ found o on e | inr old ↦ absurd (not_stale old) ]

passed : (s : Settings) (w : World) (i : ℕ) (t : ModelSite) (m : TokenMessage) → IsInOnePlace w → slice_get w.sites i ≡ Some t →
    MayPass s t m → IsInOnePlace (moved w i (record t { token = record { epoch = m.epoch; held = false; needed = t.token.needed } })
    (w.messages ++ TokenOnItsWay m ∷ []))
passed s w i t m p at may = record {
  numbered = numbered_quietly w i t n ms p.numbered at refl;
  place = inr (m, goes (held_here w i t p at may.held));
}
  where
    n : ModelSite
    n = record t { token = record { epoch = m.epoch; held = false; needed = t.token.needed } }

    ms : List Message
    ms = w.messages ++ TokenOnItsWay m ∷ []

    goes : IsHeldAt w i t → IsOnItsWay (moved w i n ms) m
    goes o = record {
      sent = subst (AmongTokens m) (sym (tokens_more w.messages m)) (tokens_right (tokens_in w.messages) (m ∷ []) m (inl refl));
      unheld = each_moved w i t n ms (λ j u. u.token.held ≡ false) at (λ j u g ne. o.alone j u g ne) refl;
      latest = each_moved w i t n ms (λ j u. u.token.epoch ≤ m.epoch) at
          (λ j u g ne. let a : u.token.epoch ≤ t.token.epoch = o.latest j u g in let b : m.epoch ≡ t.token.epoch + 1 = may.epoch in
          omega arith)
          (let a : m.epoch ≤ m.epoch = omega arith in a);
      stale = λ k h. elim (tokens_cases (tokens_in w.messages) (m ∷ []) k (subst (AmongTokens k) (tokens_more w.messages m) h)) [
        | inl old ↦ inr (each_moved w i t n ms (λ j u. k.to ≡ j → k.epoch ≤ u.token.epoch) at
            (λ j u g ne. o.stale k old j u g)
            (λ to. let a : k.epoch ≤ t.token.epoch = o.stale k old i t at to in let b : m.epoch ≡ t.token.epoch + 1 = may.epoch in
            omega arith))
        | inr new ↦ elim new [ inl e ↦ inl e | inr q ↦ elim q [ ] ]
      ];
      reds = λ v h. let a : red_number v.name ≤ max t.token.needed (red_count t.ops) = o.reds v (subst (Among v) (made_same w.messages m) h)
          in let b : m.red ≡ max t.token.needed (red_count t.ops) = may.red in omega arith;
    }

-- each kind of step keeps the token in one place
pub keeps_place : (s : Settings) → Keeps s IsInOnePlace
keeps_place s = record {
  notes = λ w i t h p at. quiet w i t t.ops t.held h w.messages p at refl (omega arith) (λ v k. inl k);
  makes = λ w i t v p at made. quiet w i t (t.ops ++ v ∷ []) t.held t.history (w.messages ++ ShadowMessage v
      ∷ []) p at (tokens_same w.messages v) (red_count-push t.ops v) (sends_made s w t v made);
  drops = λ w i t x p at. quiet w i t t.ops (without x t.held) t.history w.messages p at refl (omega arith) (λ v k. inl k);
  holds = λ w i t v p at may. quiet w i t t.ops (with_held v t.held) t.history w.messages p at refl (omega arith) (λ v k. inl k);
  applies = λ w i t v p at may. quiet w i t (t.ops ++ v ∷ []) (without v.name t.held) t.history w.messages p at refl
      (red_count-push t.ops v) (λ v k. inl k);
  takes = λ w i t m p at may. taken s w i t m p at may;
  passes = λ w i t m p at may. passed s w i t m p at may;
}

-- ---- before any event

-- in the world before any event, what is at a place is the site of that number before any event
pub first_is : (s : Settings) (i : ℕ) (t : ModelSite) → slice_get (first_world s).sites i ≡ Some t → t ≡ first_site i
first_is s i t h = Stuck.first_sites 0 s.sites i t h ∙ ap first_site (let q : 0 + i ≡ i = omega arith in q)

-- before any event the token is in one place, if there is a site
pub first_place : (s : Settings) → 1 ≤ s.sites → IsInOnePlace (first_world s)
first_place s some = record {
  numbered = λ i t h. ap (λ (u : ModelSite). u.me) (first_is s i t h);
  place = inl (
    0,
    first_site 0,
    record {
      at = (let (t, there) = Places.item_at (first_world s).sites 0 (omega (arith, length-map-range_with_len first_site 0 s.sites)) in
          cc (there, first_is s 0 t there));
      held = refl;
      alone = λ j u h ne. ap (λ (v : ModelSite). v.token.held) (first_is s j u h) ∙ Tests.unequal j 0 ne;
      latest = λ j u h. let e : u.token.epoch ≡ 0 = ap (λ (v : ModelSite). v.token.epoch) (first_is s j u h) in omega arith;
      stale = λ m h. elim h [ ];
      reds = λ v h. elim h [ ];
    },
  );
}

-- ---- the law

-- if the token is in one place, at most one site has it
pub one_holder : (s : Settings) (w : World) → IsInOnePlace w → OneToken s w
one_holder s w p i t at held j u at' held' = elim (same_number i j) [
  | inl e ↦ sym e
  | inr ne ↦ absurd (Members.true≢false (sym held' ∙ (held_here w i t p at held).alone j u at' ne))
]
