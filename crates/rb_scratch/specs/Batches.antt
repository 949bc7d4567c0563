-- The operations that the requests of a batch make.
use Rattle.std.specs.Prelude.{ℕ, ◌+◌, if◌then◌else◌, List, [], ◌∷◌, ◌++◌, map, Result, Ok, Err}
use Rattle.rb_money.specs.Refusals.{and_then, number_of_refusal}
use Rattle.rb_money.specs.Settings.{Settings}
use Rattle.rb_money.specs.declared.refusal.Cause.{Cause}
use Rattle.rb_money.specs.declared.refusal.Cause.TheVariants.{Declined as DeclinedCause, Refused as RefusedCause}
use Rattle.rb_money.specs.declared.refusal.Refusal.{Refusal}
use Rattle.rb_money.specs.declared.refusal.Refusal.TheVariants.{BatchRefused}
use Rattle.rb_shadow.specs.declared.kind.Kind.TheVariants.{Declined}
use Rattle.rb_shadow.specs.declared.op_name.OpName.{OpName}
use Rattle.rb_shadow.specs.declared.shadow.Shadow.{Shadow}
use Rattle.rb_shadow.specs.Operations.{same_kind}
use Rattle.rb_scratch.specs.Requests.{plan_of, operation_of, allowed}
use Rattle.rb_scratch.specs.declared.request.Request.{Request}
use Rattle.rb_scratch.specs.declared.run_fault.RunFault.{RunFault}
use Rattle.rb_scratch.specs.declared.run_fault.RunFault.TheVariants.{Declined as DeclinedFault, Refused as RefusedFault}
use Rattle.rb_token.specs.Token.{Token}

-- what a request of a batch makes, or what is wrong with it: a declined withdrawal or transfer stops a batch as a
-- refusal does, before its number is looked at, so if no number is left either, the cause is that it is declined
unfoldable pub made_in_batch : Settings → ℕ → List Shadow → Token → Request → Result Shadow RunFault
made_in_batch s me us token r =
    and_then (λ why. Err (RefusedFault why)) (plan_of s us r) (λ p.
    if same_kind p.kind Declined then Err DeclinedFault
    else and_then (λ why. Err (RefusedFault why)) (allowed s us token (operation_of me us p)) Ok)

-- how a reply reports it: a refusal by its number
abbrev pub cause_of : RunFault → Cause
cause_of DeclinedFault = DeclinedCause
cause_of (RefusedFault why) = RefusedCause (number_of_refusal why)

-- the operations of a batch, each made after those before it, or what stops it
unfoldable pub batch_of : Settings → ℕ → List Shadow → Token → ℕ → List Request → Result (List Shadow) Refusal
batch_of s me us token index [] = Ok []
batch_of s me us token index (r ∷ rs) =
    and_then (λ fault. Err (BatchRefused index (cause_of fault))) (made_in_batch s me us token r) (λ v.
    and_then Err (batch_of s me (us ++ v ∷ []) token (index + 1) rs) (λ vs.
    Ok (v ∷ vs)))

-- the names of a list of operations
abbrev pub names_of_all : List Shadow → List OpName
names_of_all vs = map (λ (v : Shadow). v.name) vs
