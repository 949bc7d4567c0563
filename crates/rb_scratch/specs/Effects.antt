-- Decisions of a generator on a request.
use Rattle.rb_shadow.specs.Operations.{colour_in}
use Rattle.std.specs.Prelude.{◌≡◌, List, Result, Ok, Err, MatchResult, IfOk}
use Rattle.rb_money.specs.Settings.{Settings}
use Rattle.rb_money.specs.declared.refusal.Refusal.{Refusal}
use Rattle.rb_shadow.specs.declared.shadow.Shadow.{Shadow}
use Rattle.rb_scratch.specs.declared.effect.Effect.{Effect}
use Rattle.rb_scratch.specs.declared.request.Request.{Request}
use Rattle.rb_scratch.specs.Requests.{Plan, plan_of}

-- the plan with the effect's account, amount and kind
abbrev pub plan_of_effect : Effect → Plan
plan_of_effect e = record { account = e.account; amount = e.amount.0; kind = e.kind }

-- what was decided on a request is its plan, or the reason to refuse it
abbrev pub IsDecision : Settings → List Shadow → Request → Result Effect Refusal → Type 0
IsDecision s us r decision = MatchResult decision (λ e. plan_of s us r ≡ Ok (plan_of_effect e)) (λ why. plan_of s us r ≡ Err why)

-- what was decided has its plan's colour
abbrev pub IsColoured : List Shadow → Result Effect Refusal → Type 0
IsColoured us decision = IfOk decision (λ e. e.colour ≡ colour_in us e.kind)
