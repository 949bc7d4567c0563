use Rattle.std.proofs.Common.{◌≡◌, ℕ, zero, suc, ◌+◌, ◌-◌, ◌≤◌, List, [], ◌∷◌, ◌++◌, take, drop, refl, sym, ap, ◌∙◌, arith}
use Rattle.std.proofs.Common.{append_assoc, add-one}
use Rattle.std.specs.Prelude.{map, slice_get, Some, None}
use Rattle.std.proofs.lemmas.List.{map-append}
use Rattle.rb_shadow.specs.declared.shadow.Shadow.{Shadow}
use Rattle.rb_site.specs.declared.message.Message.{Message}
use Rattle.rb_site.specs.declared.message.Message.TheVariants.{Shadow as ShadowMessage}
use Rattle.rb_ledger.proofs.Public.Fronts.{get_dropped, one_more}
use Rattle.rb_node.proofs.resend.push_operations.Goals as goal
use Rattle.rb_node.proofs.resend.push_operations.Goals.{in-Some+in_ok-push, in_default}

-- an operation more
more : (us : List Shadow) (old new all : List Message) (first k : ℕ) (v : Shadow) → slice_get us (first + k) ≡ Some v
    → new ≡ all ++ ShadowMessage v ∷ [] → all ≡ old ++ map ShadowMessage (take k (drop first us))
    → new ≡ old ++ map ShadowMessage (take (k + 1) (drop first us))
more us old new all first k v at is so =
    let front = take k (drop first us) in
    is ∙ ap (λ l. l ++ ShadowMessage v ∷ []) so ∙ append_assoc old (map ShadowMessage front) (ShadowMessage v ∷ [])
    ∙ ap (λ l. old ++ l) (sym (map-append ShadowMessage front (v ∷ [])))
    ∙ ap (λ l. old ++ map ShadowMessage l) (sym (one_more (drop first us) k v (get_dropped first us k ∙ at)))

-- after the last one there is none
take_past : (us : List Shadow) (k : ℕ) → slice_get us k ≡ None → take (suc k) us ≡ take k us
take_past [] zero none = refl
take_past [] (suc k) none = refl
take_past (u ∷ us) zero none = absurd (cc)
take_past (u ∷ us) (suc k) none = ap (λ l. u ∷ l) (take_past us k none)

no_more : (us : List Shadow) (old new all : List Message) (first k : ℕ) → slice_get us (first + k) ≡ None
    → new ≡ all → all ≡ old ++ map ShadowMessage (take k (drop first us))
    → new ≡ old ++ map ShadowMessage (take (k + 1) (drop first us))
no_more us old new all first k none is so =
    is ∙ so ∙ ap (λ l. old ++ map ShadowMessage l) (sym (rw add-one (take_past (drop first us) k (get_dropped first us k ∙ none))))

pub loop-k-preserved : goal.loop-k-preserved
loop-k-preserved c =
    let us = c.args.operations.now.items in
    let old = c.args.messages.now.items in
    elim c.match-get.branch [
      | in-Some+in_ok-push w ↦ more us old c.match-get.messages.items c.loop-k.messages.items c.args.first c.loop-k.k w.in-Some.shadow
          (sym c.get.ensures ∙ w.in-Some.is) (ap (λ v. v.items) w.messages-is ∙ w.in_ok-push.ensures.items) c.loop-k.invariant
      | in_default w ↦ no_more us old c.match-get.messages.items c.loop-k.messages.items c.args.first c.loop-k.k
          (sym c.get.ensures ∙ w.in_default.is) (ap (λ v. v.items) w.messages-is) c.loop-k.invariant
    ]

pub returns : goal.returns
returns c = c.loop-k.invariant
    ∙ ap (λ n. c.args.messages.now.items ++ map ShadowMessage (take n (drop c.args.first c.args.operations.now.items)))
    (let e : c.saturating_sub-count.result ≡ c.args.end - c.args.first = c.saturating_sub-count.ensures in
    let low : c.saturating_sub-count.result ≤ c.loop-k.k = c.loop-k-test.false in
    let high : c.loop-k.k ≤ c.saturating_sub-count.result = c.loop-k.auto.k-end in
    omega arith)
