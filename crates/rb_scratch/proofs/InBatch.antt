-- The operation that a request of a batch makes, by the one that it makes by itself.
use Rattle.std.proofs.Common.{◌≡◌, ℕ, Bool, true, false, cond, List, refl, ap, ◌∙◌}
use Rattle.std.specs.Prelude.{Result, Ok, Err}
use Rattle.rb_money.specs.Refusals.{and_then}
use Rattle.rb_money.specs.Settings.{Settings}
use Rattle.rb_money.specs.declared.refusal.Refusal.{Refusal}
use Rattle.rb_shadow.specs.declared.shadow.Shadow.{Shadow}
use Rattle.rb_shadow.specs.Operations.{same_kind}
use Rattle.rb_shadow.specs.declared.kind.Kind.{Kind}
use Rattle.rb_shadow.specs.declared.kind.Kind.TheVariants.{Declined}
use Rattle.rb_scratch.specs.Requests.{Plan, plan_of, allowed, operation_of}
use Rattle.rb_scratch.specs.Batches.{made_in_batch}
use Rattle.rb_scratch.specs.declared.request.Request.{Request}
use Rattle.rb_scratch.specs.declared.run_fault.RunFault.{RunFault}
use Rattle.rb_scratch.specs.declared.run_fault.RunFault.TheVariants.{Declined as DeclinedFault, Refused as RefusedFault}
use Rattle.rb_token.specs.Token.{Token}
use Rattle.rb_scratch.proofs.Public.Made.{stopped_by}

-- the operation, or what its refusal stops
abbrev pub stopped : Result Shadow Refusal → Result Shadow RunFault
stopped q = and_then stopped_by q Ok

-- what comes of a plan
abbrev of_plan : Settings → ℕ → List Shadow → Token → Result Plan Refusal → Result Shadow RunFault
of_plan s me us token q = and_then stopped_by q (λ p. cond (same_kind p.kind Declined) (Err DeclinedFault)
    (stopped (allowed s us token (operation_of me us p))))

-- a request without a plan stops the batch
pub refused_in_batch : (s : Settings) (me : ℕ) (us : List Shadow) (token : Token) (r : Request) (why : Refusal) → plan_of s us r ≡ Err why →
    made_in_batch s me us token r ≡ Err (RefusedFault why)
unfolding made_in_batch
refused_in_batch s me us token r why e = ap (of_plan s me us token) e

planned_test : (s : Settings) (me : ℕ) (us : List Shadow) (token : Token) (r : Request) (p : Plan) (b : Bool) → plan_of s us r ≡ Ok p →
    same_kind p.kind Declined ≡ b → made_in_batch s me us token r ≡ cond b (Err DeclinedFault)
    (stopped (allowed s us token (operation_of me us p)))
unfolding made_in_batch
planned_test s me us token r p b e test = ap (of_plan s me us token) e
    ∙ ap (λ c. cond c (Err DeclinedFault) (stopped (allowed s us token (operation_of me us p)))) test

-- so does a withdrawal that would be declined
pub declined_in_batch : (s : Settings) (me : ℕ) (us : List Shadow) (token : Token) (r : Request) (p : Plan) → plan_of s us r ≡ Ok p →
    p.kind ≡ Declined → made_in_batch s me us token r ≡ Err DeclinedFault
declined_in_batch s me us token r p e kind = planned_test s me us token r p true e (ap (λ k. same_kind k Declined) kind)

-- anything else makes what it makes by itself
pub plain_in_batch : (s : Settings) (me : ℕ) (us : List Shadow) (token : Token) (r : Request) (p : Plan) → plan_of s us r ≡ Ok p →
    (p.kind ≡ Declined → ⊥) → made_in_batch s me us token r ≡ stopped (allowed s us token (operation_of me us p))
plain_in_batch s me us token r p e other = planned_test s me us token r p false e (by p.kind other)
  where
    by : (k : Kind) → (k ≡ Declined → ⊥) → same_kind k Declined ≡ false
    by Declined h = absurd (h refl)
    by _ h = refl
