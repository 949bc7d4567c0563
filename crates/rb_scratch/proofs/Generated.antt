-- The making of an operation, step by step.
use Rattle.std.proofs.Common.{◌≡◌, ℕ, ◌≤◌, ◌<◌, true, false, cond, List, ap, sym, ◌∙◌, Ok, Err}
use Rattle.std.specs.Prelude.{nat_lt}
use Rattle.rb_money.specs.Settings.{Settings}
use Rattle.rb_money.specs.Refusals.{and_then}
use Rattle.rb_money.specs.declared.refusal.Refusal.{Refusal}
use Rattle.rb_money.specs.declared.refusal.Refusal.TheVariants.{NumbersExhausted}
use Rattle.rb_money.proofs.Public.Tests.{is_below, not_below}
use Rattle.rb_shadow.specs.declared.colour.Colour.TheVariants.{Blue as BlueColour, Red as RedColour}
use Rattle.rb_shadow.specs.declared.shadow.Shadow.{Shadow}
use Rattle.rb_shadow.specs.Operations.{is_red, number_of, colour_in}
use Rattle.rb_shadow.specs.Sound.{limit_of}
use Rattle.rb_token.specs.Token.{Token}
use Rattle.rb_scratch.specs.declared.request.Request.{Request}
use Rattle.rb_scratch.specs.Requests.{Plan, plan_of, next_name, operation_of, allowed, allowed_red, made_of}

-- nothing is made if there is no plan
pub unplanned : (s : Settings) (me : ℕ) (us : List Shadow) (token : Token) (r : Request) (why : Refusal) → plan_of s us r ≡ Err why →
    made_of s me us token r ≡ Err why
unfolding made_of
unplanned s me us token r why e = ap (λ q. and_then Err q (λ p. allowed s us token (operation_of me us p))) e

-- if there is one, what it allows is made
pub planned : (s : Settings) (me : ℕ) (us : List Shadow) (token : Token) (r : Request) (p : Plan) → plan_of s us r ≡ Ok p →
    made_of s me us token r ≡ allowed s us token (operation_of me us p)
unfolding made_of
planned s me us token r p e = ap (λ q. and_then Err q (λ p. allowed s us token (operation_of me us p))) e

-- nor where the numbers are used up
pub exhausted : (s : Settings) (me : ℕ) (us : List Shadow) (token : Token) (r : Request) (p : Plan) → plan_of s us r ≡ Ok p
    → limit_of s.limits (operation_of me us p).name < number_of (operation_of me us p).name → made_of s me us token r ≡ Err NumbersExhausted
unfolding allowed
exhausted s me us token r p e over =
    let v = operation_of me us p in
    let past : nat_lt (limit_of s.limits v.name) (number_of v.name) ≡ true = is_below (limit_of s.limits v.name) (number_of v.name) over in
    planned s me us token r p e ∙ ap (λ b. cond b (Err NumbersExhausted) (cond (is_red v.name) (allowed_red s us token v) (Ok v))) past

within : (s : Settings) (me : ℕ) (us : List Shadow) (token : Token) (r : Request) (p : Plan) (v : Shadow) → plan_of s us r ≡ Ok p →
    v ≡ operation_of me us p
    → number_of v.name ≤ limit_of s.limits v.name → made_of s me us token r ≡ cond (is_red v.name) (allowed_red s us token v) (Ok v)
unfolding allowed
within s me us token r p v e is low =
    let fits : nat_lt (limit_of s.limits v.name) (number_of v.name) ≡ false = not_below (limit_of s.limits v.name) (number_of v.name) low in
    planned s me us token r p e ∙ ap (allowed s us token) (sym is) ∙ ap
    (λ b. cond b (Err NumbersExhausted) (cond (is_red v.name) (allowed_red s us token v) (Ok v))) fits

named : (me : ℕ) (us : List Shadow) (p : Plan) (v : Shadow) → v ≡ operation_of me us p → v.name ≡ next_name me us (colour_in us p.kind)
unfolding operation_of
named me us p v is = ap (λ (u : Shadow). u.name) is

-- a blue operation is made
pub blue_made : (s : Settings) (me : ℕ) (us : List Shadow) (token : Token) (r : Request) (p : Plan) (v : Shadow) → plan_of s us r ≡ Ok p →
    v ≡ operation_of me us p
    → number_of v.name ≤ limit_of s.limits v.name → colour_in us p.kind ≡ BlueColour → made_of s me us token r ≡ Ok v
blue_made s me us token r p v e is low blue = within s me us token r p v e is low
    ∙ ap (λ x. cond (is_red x) (allowed_red s us token v) (Ok v)) (named me us p v is ∙ ap (next_name me us) blue)

-- a red one is made if it is allowed
pub red_made : (s : Settings) (me : ℕ) (us : List Shadow) (token : Token) (r : Request) (p : Plan) (v : Shadow) → plan_of s us r ≡ Ok p →
    v ≡ operation_of me us p
    → number_of v.name ≤ limit_of s.limits v.name → colour_in us p.kind ≡ RedColour → made_of s me us token r ≡ allowed_red s us token v
red_made s me us token r p v e is low red = within s me us token r p v e is low
    ∙ ap (λ x. cond (is_red x) (allowed_red s us token v) (Ok v)) (named me us p v is ∙ ap (next_name me us) red)
