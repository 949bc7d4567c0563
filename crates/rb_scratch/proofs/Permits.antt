-- When a red operation is allowed.
use Rattle.std.proofs.Common.{◌≡◌, Bool, true, false, cond, ◌&&◌, List, refl, ap, sym, ◌∙◌, Some, None, Ok, Err}
use Rattle.rb_money.specs.Settings.{Settings}
use Rattle.rb_money.specs.Refusals.{unless}
use Rattle.rb_money.specs.declared.refusal.Refusal.{Refusal}
use Rattle.rb_money.specs.declared.refusal.Refusal.TheVariants.{WouldOverdraw}
use Rattle.rb_shadow.specs.declared.deps.Deps.{Deps}
use Rattle.std.specs.Prelude.{is_some}
use Rattle.rb_shadow.specs.declared.shadow.Shadow.{Shadow}
use Rattle.rb_shadow.specs.Operations.{clock_of, target_of}
use Rattle.rb_ledger.specs.Checks.{overdraws}
use Rattle.rb_token.specs.Token.{Token, refusal_of_red}
use Rattle.rb_scratch.specs.Requests.{allowed_red}
use Rattle.rb_scratch.proofs.Counts

-- what the token refuses isn't allowed
pub red_refused : (s : Settings) (us : List Shadow) (token : Token) (v : Shadow) (c : Deps) (why : Refusal) → c ≡ clock_of us →
    refusal_of_red token c.red ≡ Some why → allowed_red s us token v ≡ Err why
red_refused s us token v c why is e = ap (λ o. unless Err o (cond (is_some (target_of v.kind)
    && overdraws s us v) (Err WouldOverdraw) (Ok v))) (ap (refusal_of_red token) (sym (Counts.counts_red us c is)) ∙ e)

-- past the token only the money of a cancellation is looked at
past_token : (s : Settings) (us : List Shadow) (token : Token) (v : Shadow) (c : Deps) → c ≡ clock_of us → refusal_of_red token c.red ≡ None
    → allowed_red s us token v ≡ cond (is_some (target_of v.kind) && overdraws s us v) (Err WouldOverdraw) (Ok v)
past_token s us token v c is e = ap (λ o. unless Err o (cond (is_some (target_of v.kind) && overdraws s us v) (Err WouldOverdraw) (Ok v)))
    (ap (refusal_of_red token) (sym (Counts.counts_red us c is)) ∙ e)

-- with the token, and all red operations before it, what isn't a cancellation is allowed
pub red_plain : (s : Settings) (us : List Shadow) (token : Token) (v : Shadow) (c : Deps) → c ≡ clock_of us →
    refusal_of_red token c.red ≡ None → is_some (target_of v.kind) ≡ false → allowed_red s us token v ≡ Ok v
red_plain s us token v c is e plain = past_token s us token v c is e ∙
    ap (λ b. cond (b && overdraws s us v) (Err WouldOverdraw) (Ok v)) plain

-- nor does one that leaves enough money
pub red_covered : (s : Settings) (us : List Shadow) (token : Token) (v : Shadow) (c : Deps) → c ≡ clock_of us →
    refusal_of_red token c.red ≡ None → overdraws s us v ≡ false → allowed_red s us token v ≡ Ok v
red_covered s us token v c is e covered = past_token s us token v c is e ∙ at (is_some (target_of v.kind)) (overdraws s us v) covered
  where
    at : (k b : Bool) → b ≡ false → cond (k && b) (Err WouldOverdraw) (Ok v) ≡ Ok v
    at true true q = cc
    at true false q = refl
    at false b q = refl

-- a cancellation that would overdraw is refused
pub red_overdraws : (s : Settings) (us : List Shadow) (token : Token) (v : Shadow) (c : Deps) → c ≡ clock_of us →
    refusal_of_red token c.red ≡ None → is_some (target_of v.kind) ≡ true → overdraws s us v ≡ true →
    allowed_red s us token v ≡ Err WouldOverdraw
red_overdraws s us token v c is e cancel over = past_token s us token v c is e
    ∙ at (is_some (target_of v.kind)) (overdraws s us v) cancel over
  where
    at : (k b : Bool) → k ≡ true → b ≡ true → cond (k && b) (Err WouldOverdraw) (Ok v) ≡ Err WouldOverdraw
    at true true q h = refl
    at true false q h = cc
    at false b q h = cc
