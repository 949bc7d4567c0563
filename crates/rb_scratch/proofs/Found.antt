-- Operations that are found by their names.
use Rattle.rb_money.specs.Refusals.{unless}
use Rattle.std.proofs.Common.{◌≡◌, ℕ, Bool, true, false, cond, not, List, refl, ap, sym, ◌∙◌, Option, Some, None, Result, Ok, Err}
use Rattle.std.proofs.Common.{rules}
use Rattle.std.specs.Prelude.{option_map, option_and_then, IsSome}
use Rattle.rb_shadow.specs.declared.shadow.Shadow.{Shadow}
use Rattle.rb_shadow.specs.declared.op_name.OpName.{OpName}
use Rattle.rb_shadow.specs.Operations.{names, find_in, kind_in, may_be_cancelled, is_cancelled}
use Rattle.rb_shadow.specs.declared.kind.Kind.TheVariants.{Cancel}
use Rattle.rb_shadow.proofs.Public.Lookups
use Rattle.rb_money.specs.declared.place.Place.{Place}
use Rattle.rb_money.specs.declared.refusal.Refusal.{Refusal}
use Rattle.rb_money.specs.declared.refusal.Refusal.TheVariants.{UnknownOperation, NotCancellable, AlreadyCancelled}
use Rattle.rb_ledger.specs.Valid.{operation_at, find_position, first_cancel_in, position_from, first_cancel_from}
use Rattle.rb_scratch.specs.Requests.{Plan}
use Rattle.rb_scratch.proofs.Positions.{no_position, at_position}

-- at a position that was found there is an operation
pub found_there : (us : List Shadow) (x : OpName) (p : ℕ) → find_position us x ≡ Some p → (t : Shadow) × (find_in us x ≡ Some t)
found_there us x p h = at (names us x) refl h
  where
    at : (b : Bool) → names us x ≡ b → cond b (Some (position_from 1 us x)) None ≡ Some p → (t : Shadow) × (find_in us x ≡ Some t)
    at true e h = Lookups.found_named us x e
    at false e h = cc

-- ---- the plan of a request to cancel what is found

-- the plan to cancel an operation of the name
abbrev cancelling : OpName → Shadow → Plan
cancelling x t = record { account = t.account; amount = t.amount; kind = Cancel x }

-- what a request to cancel would make, by what was found under its target's name
abbrev pub plan_of_cancel : List Shadow → OpName → Option Shadow → Result Plan Refusal
plan_of_cancel us x o = unless (λ t. cond (not (may_be_cancelled t.kind)) (Err NotCancellable)
    (cond (is_cancelled us x) (Err (AlreadyCancelled (first_cancel_from 1 us x))) (Ok (cancelling x t)))) o (Err UnknownOperation)

-- an unknown name is refused
pub unknown : (us : List Shadow) (x : OpName) → find_position us x ≡ None → plan_of_cancel us x (find_in us x) ≡ Err UnknownOperation
unknown us x h = ap (plan_of_cancel us x) (no_position us x h)

-- a kind that may not be cancelled is refused
pub uncancellable : (us : List Shadow) (x : OpName) (t : Shadow) → find_in us x ≡ Some t → may_be_cancelled t.kind ≡ false →
    plan_of_cancel us x (find_in us x) ≡ Err NotCancellable
uncancellable us x t found h = ap (plan_of_cancel us x) found ∙ ap (λ b. cond (not b) (Err NotCancellable)
    (cond (is_cancelled us x) (Err (AlreadyCancelled (first_cancel_from 1 us x))) (Ok (cancelling x t)))) h

-- what is found is planned, unless it is cancelled
past_kind : (us : List Shadow) (x : OpName) (t : Shadow) → find_in us x ≡ Some t → may_be_cancelled t.kind ≡ true →
    plan_of_cancel us x (find_in us x) ≡ cond (is_cancelled us x) (Err (AlreadyCancelled (first_cancel_from 1 us x))) (Ok (cancelling x t))
past_kind us x t found h = ap (plan_of_cancel us x) found ∙ ap (λ b. cond (not b) (Err NotCancellable)
    (cond (is_cancelled us x) (Err (AlreadyCancelled (first_cancel_from 1 us x))) (Ok (cancelling x t)))) h

-- the operation of the name is at the position
pub record IsFound (us : List Shadow) (x : OpName) (p : ℕ) (t : Shadow) : Type 0 where
  pub entry : operation_at us p ≡ Some t
  pub found : find_in us x ≡ Some t

-- what was read at that position is that operation
pub is_found : (us : List Shadow) (x : OpName) (p : ℕ) (r : Option Shadow) (t : Shadow) → find_position us x ≡ Some p →
    r ≡ operation_at us p → r ≡ Some t → IsFound us x p t
is_found us x p r t at read some =
    let e : operation_at us p ≡ Some t = sym read ∙ some in
    record { entry = e; found = sym (at_position us x p at) ∙ e }

-- what is found is there to be read
pub readable : (us : List Shadow) (x : OpName) (p : ℕ) (r : Option Shadow) → find_position us x ≡ Some p →
    r ≡ operation_at us p → IsSome r
readable us x p r at read = let (t, found) = found_there us x p at in some r t (read ∙ at_position us x p at ∙ found)
  where
    some : (r : Option Shadow) (t : Shadow) → r ≡ Some t → IsSome r
    some None t h = cc
    some (Some b) t h = search rules

first_cancel : (us : List Shadow) (x : OpName) (p : ℕ) (t : Shadow) (o : Option ℕ) → IsFound us x p t →
    o ≡ option_and_then (λ (u : Shadow). first_cancel_in us u.name) (operation_at us p) → o ≡ first_cancel_in us x
first_cancel us x p t o is e = e ∙ ap (option_and_then (λ (u : Shadow). first_cancel_in us u.name)) is.entry
    ∙ ap (first_cancel_in us) (Lookups.found us x t is.found).1

-- what is cancelled already is refused, with the position
pub cancelled_at : (us : List Shadow) (x : OpName) (p : ℕ) (t : Shadow) (o : Option ℕ) (n : ℕ) → IsFound us x p t →
    may_be_cancelled t.kind ≡ true
    → o ≡ option_and_then (λ (u : Shadow). first_cancel_in us u.name) (operation_at us p) → o ≡ Some n →
    plan_of_cancel us x (find_in us x) ≡ Err (AlreadyCancelled n)
cancelled_at us x p t o n is kind e some = past_kind us x t is.found kind
    ∙ at (is_cancelled us x) (sym (first_cancel us x p t o is e) ∙ some)
  where
    refused : ℕ → Result Plan Refusal
    refused n = Err (AlreadyCancelled n)

    at : (b : Bool) → cond b (Some (first_cancel_from 1 us x)) None ≡ Some n →
        cond b (Err (AlreadyCancelled (first_cancel_from 1 us x))) (Ok (cancelling x t)) ≡ Err (AlreadyCancelled n)
    at true h = let same : first_cancel_from 1 us x ≡ n = cc in ap refused same
    at false h = cc

-- what may be cancelled, and is not yet, is planned, with its account and its amount
pub planned_to_cancel : (us : List Shadow) (x : OpName) (p : ℕ) (t : Shadow) (o : Option ℕ) (a : Place) (n : ℕ) → IsFound us x p t →
    may_be_cancelled t.kind ≡ true
    → o ≡ option_and_then (λ (u : Shadow). first_cancel_in us u.name) (operation_at us p) → o ≡ None →
    a ≡ t.account → n ≡ t.amount →
    plan_of_cancel us x (find_in us x) ≡ Ok (record { account = a; amount = n; kind = Cancel x })
planned_to_cancel us x p t o a n is kind e none account amount = past_kind us x t is.found kind
    ∙ at (is_cancelled us x) (sym (first_cancel us x p t o is e) ∙ none)
  where
    at : (b : Bool) → cond b (Some (first_cancel_from 1 us x)) None ≡ None →
        cond b (Err (AlreadyCancelled (first_cancel_from 1 us x))) (Ok (cancelling x t))
        ≡ Ok (record { account = a; amount = n; kind = Cancel x })
    at true h = cc
    at false h = cc

-- the kind of what is found
pub kind_is : (us : List Shadow) (x : OpName) (p : ℕ) (t : Shadow) → IsFound us x p t → kind_in us x ≡ Some t.kind
kind_is us x p t is = Lookups.kind_found us x ∙ ap (option_map (λ (u : Shadow). u.kind)) is.found
