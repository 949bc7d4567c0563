-- Facts of an operation that a site makes.
use Rattle.std.proofs.Common.{◌≡◌, ℕ, suc, ◌+◌, ◌≤◌, Bool, true, false, cond, not, ◌&&◌, List, [], ◌∷◌, ◌++◌, length, refl, ap, sym, ◌∙◌}
use Rattle.std.proofs.Common.{arith, subst, Option, Some, None, Result, Ok, Err}
use Rattle.std.specs.Prelude.{nat_lt, is_some}
use Rattle.std.proofs.lemmas.Bool.Decides.{nat_tests}
pub use Rattle.std.proofs.lemmas.Bool.{not-false as not_true}
use Rattle.rb_money.specs.Settings.{Settings}
use Rattle.rb_money.specs.declared.refusal.Refusal.{Refusal}
use Rattle.rb_money.specs.declared.refusal.Refusal.TheVariants.{BatchRefused}
use Rattle.rb_shadow.specs.declared.op_name.OpName.{OpName}
use Rattle.rb_shadow.specs.declared.op_name.OpName.TheVariants.{Blue, Red}
use Rattle.rb_shadow.specs.declared.shadow.Shadow.{Shadow}
use Rattle.rb_shadow.specs.declared.kind.Kind.TheVariants.{Declined}
use Rattle.rb_shadow.specs.Operations.{is_red, red_count, number_of, same_kind, target_of}
use Rattle.rb_shadow.specs.Sound.{limit_of}
use Rattle.rb_ledger.specs.Checks.{overdraws}
use Rattle.rb_scratch.specs.declared.request.Request.{Request}
use Rattle.rb_scratch.specs.declared.run_fault.RunFault.{RunFault}
use Rattle.rb_scratch.specs.declared.run_fault.RunFault.TheVariants.{Declined as DeclinedFault, Refused as RefusedFault}
use Rattle.rb_scratch.specs.Batches.{batch_of, cause_of, made_in_batch}
use Rattle.rb_token.specs.Token.{Token, refusal_of_red}
use Rattle.rb_scratch.specs.Requests.{Plan, plan_of, operation_of, allowed, allowed_red, made_of}
use Rattle.rb_money.specs.Refusals.{and_then, unless}

-- a red one needs the token, all red operations before it, and a cancellation the money
abbrev pub IsAllowed : Settings → List Shadow → Token → Shadow → OpName → Type 0
IsAllowed s us token v (Blue i n) = Unit {0}
IsAllowed s us token v (Red n) = (token.held ≡ true) × (token.needed ≤ red_count us)
    × ((is_some (target_of v.kind) && overdraws s us v) ≡ false)

-- an operation that a site made of a request: it is as planned, its number is within the limit, and it is allowed
pub record IsMadeAt (s : Settings) (me : ℕ) (us : List Shadow) (token : Token) (v : Shadow) : Type 0 where
  pub request : Request
  pub plan : Plan
  pub planned : plan_of s us request ≡ Ok plan
  pub is : v ≡ operation_of me us plan
  pub within : number_of v.name ≤ limit_of s.limits v.name
  pub fair : IsAllowed s us token v v.name

-- operations that were made one after another
abbrev pub AreMadeAt : Settings → ℕ → List Shadow → Token → List Shadow → Type 0
AreMadeAt s me us token [] = Unit {0}
AreMadeAt s me us token (v ∷ vs) = IsMadeAt s me us token v × AreMadeAt s me (us ++ v ∷ []) token vs

-- a test that didn't refuse
pub passed_by : {A : Type 0} (b : Bool) (why : Refusal) (next : Result A Refusal) (v : A) → cond b (Err why) next ≡ Ok v →
    (b ≡ false) × (next ≡ Ok v)
passed_by true why next v e = cc
passed_by false why next v e = (refl, e)

-- a condition that refuses doesn't hold if nothing is refused
pub past_first : (b : Bool) (why : Refusal) (next : Option Refusal) → cond b (Some why) next ≡ None → (b ≡ false) × (next ≡ None)
past_first true why next e = cc
past_first false why next e = (refl, e)

-- an option that didn't refuse
pub unrefused : {A : Type 0} (o : Option Refusal) (next : Result A Refusal) (v : A) → unless Err o next ≡ Ok v → (o ≡ None) × (next ≡ Ok v)
unrefused (Some why) next v e = cc
unrefused None next v e = (refl, e)

allowed_facts : (s : Settings) (us : List Shadow) (token : Token) (u v : Shadow) (x : OpName) →
    cond (is_red x) (allowed_red s us token u) (Ok u) ≡ Ok v → (v ≡ u) × IsAllowed s us token u x
allowed_facts s us token u v (Blue i n) e = (let h : v ≡ u = cc in h, tt)
allowed_facts s us token u v (Red n) e =
    let q : (refusal_of_red token (red_count us) ≡ None) × _ = unrefused (refusal_of_red token (red_count us)) _ v e in
    let a : (not token.held ≡ false) × _ = past_first (not token.held) _ _ q.0 in
    let b : (nat_lt (red_count us) token.needed ≡ false) × _ = past_first (nat_lt (red_count us) token.needed) _ _ a.1 in
    let c : ((is_some (target_of u.kind) && overdraws s us u) ≡ false) × _ =
    passed_by (is_some (target_of u.kind) && overdraws s us u) _ _ v q.1 in
    (let h : v ≡ u = let k = c.1 in cc in h, (not_true token.held a.0, let k = b.0 in grind (arith, nat_tests), c.0))

allowed_is : (s : Settings) (us : List Shadow) (token : Token) (u v : Shadow) → allowed s us token u ≡ Ok v →
    (v ≡ u) × (number_of u.name ≤ limit_of s.limits u.name) × IsAllowed s us token u u.name
unfolding allowed
allowed_is s us token u v e =
    let a : (nat_lt (limit_of s.limits u.name) (number_of u.name) ≡ false) × _ =
    passed_by (nat_lt (limit_of s.limits u.name) (number_of u.name)) _ _ v e in
    let b : (v ≡ u) × IsAllowed s us token u u.name = allowed_facts s us token u v u.name a.1 in
    (b.0, let k = a.0 in grind (arith, nat_tests), b.1)

made_if_allowed : (s : Settings) (me : ℕ) (us : List Shadow) (token : Token) (r : Request) (p : Plan) (v : Shadow) → plan_of s us r ≡ Ok p →
    allowed s us token (operation_of me us p) ≡ Ok v → IsMadeAt s me us token v
made_if_allowed s me us token r p v planned e =
    let a : (v ≡ operation_of me us p) × _ × _ = allowed_is s us token (operation_of me us p) v e in
    record {
      request = r;
      plan = p;
      planned = planned;
      is = a.0;
      within = subst (λ (u : Shadow). number_of u.name ≤ limit_of s.limits u.name) (sym a.0) a.1;
      fair = subst (λ (u : Shadow). IsAllowed s us token u u.name) (sym a.0) a.2;
    }

-- ---- Submit and Batch

-- what comes of a request that makes an operation
pub made_is : (s : Settings) (me : ℕ) (us : List Shadow) (token : Token) (r : Request) (v : Shadow) → made_of s me us token r ≡ Ok v →
    IsMadeAt s me us token v
unfolding made_of
made_is s me us token r v e = at (plan_of s us r) refl e
  where
    at : (q : Result Plan Refusal) → plan_of s us r ≡ q → and_then Err q (λ p. allowed s us token (operation_of me us p)) ≡ Ok v →
        IsMadeAt s me us token v
    at (Ok p) planned h = made_if_allowed s me us token r p v planned h
    at (Err why) planned h = cc

-- a refusal stops a batch
abbrev pub stopped_by : {A : Type 0} → Refusal → Result A RunFault
stopped_by why = Err (RefusedFault why)

-- what comes of a plan in a batch that makes an operation
planned_is : (s : Settings) (me : ℕ) (us : List Shadow) (token : Token) (r : Request) (v : Shadow) (q : Result Plan Refusal) →
    plan_of s us r ≡ q
    → and_then stopped_by q (λ p. cond (same_kind p.kind Declined) (Err DeclinedFault)
    (and_then stopped_by (allowed s us token (operation_of me us p)) Ok)) ≡ Ok v → IsMadeAt s me us token v
planned_is s me us token r v (Err why) planned h = cc
planned_is s me us token r v (Ok p) planned h = at (same_kind p.kind Declined) h
  where
    here : (q : Result Shadow Refusal) → allowed s us token (operation_of me us p) ≡ q → and_then stopped_by q Ok ≡ Ok v →
        IsMadeAt s me us token v
    here (Ok u) e k = made_if_allowed s me us token r p v planned (subst (λ w. allowed s us token (operation_of me us p) ≡ Ok w) (let a : u
        ≡ v = cc in a) e)
    here (Err why) e k = cc

    at : (b : Bool) → cond b (Err DeclinedFault) (and_then stopped_by (allowed s us token (operation_of me us p)) Ok) ≡ Ok v →
        IsMadeAt s me us token v
    at true k = cc
    at false k = here (allowed s us token (operation_of me us p)) refl k

-- the same of the request
made_in_batch_is : (s : Settings) (me : ℕ) (us : List Shadow) (token : Token) (r : Request) (v : Shadow) →
    made_in_batch s me us token r ≡ Ok v → IsMadeAt s me us token v
unfolding made_in_batch
made_in_batch_is s me us token r v e = planned_is s me us token r v (plan_of s us r) refl e

-- what comes of a batch that makes operations
pub batch_is : (s : Settings) (me : ℕ) (us : List Shadow) (token : Token) (index : ℕ) (rs : List Request) (vs : List Shadow) →
    batch_of s me us token index rs ≡ Ok vs → AreMadeAt s me us token vs
unfolding batch_of
batch_is s me us token index [] vs e = subst (AreMadeAt s me us token) (let a : [] ≡ vs = cc in a) tt
batch_is s me us token index (r ∷ rs) vs e = at (made_in_batch s me us token r) refl e (λ v ws k. batch_is s me (us ++ v ∷ []) token (index
    + 1) rs ws k)
  where
    Rest : Type 0
    Rest = (v : Shadow) (ws : List Shadow) → batch_of s me (us ++ v ∷ []) token (index + 1) rs ≡ Ok ws →
        AreMadeAt s me (us ++ v ∷ []) token ws

    first : (v : Shadow) → made_in_batch s me us token r ≡ Ok v → (q : Result (List Shadow) Refusal) →
        batch_of s me (us ++ v ∷ []) token (index + 1) rs ≡ q → and_then Err q (λ ws. Ok (v ∷ ws)) ≡ Ok vs → Rest →
        AreMadeAt s me us token vs
    first v made (Ok ws) k h rest = subst (AreMadeAt s me us token) (let a : v ∷ ws ≡ vs = cc in
        a) (made_in_batch_is s me us token r v made, rest v ws k)
    first v made (Err why) k h rest = cc

    at : (q : Result Shadow RunFault) → made_in_batch s me us token r ≡ q →
        and_then (λ fault. Err (BatchRefused index (cause_of fault))) q
        (λ v. and_then Err (batch_of s me (us ++ v ∷ []) token (index + 1) rs) (λ ws. Ok (v ∷ ws))) ≡ Ok vs → Rest →
        AreMadeAt s me us token vs
    at (Ok v) made h rest = first v made (batch_of s me (us ++ v ∷ []) token (index + 1) rs) refl h rest
    at (Err fault) made h rest = cc

-- a batch makes as many operations as it has requests
pub batch_length : (s : Settings) (me : ℕ) (us : List Shadow) (token : Token) (index : ℕ) (rs : List Request) (vs : List Shadow) →
    batch_of s me us token index rs ≡ Ok vs → length vs ≡ length rs
unfolding batch_of
batch_length s me us token index [] vs e = ap length (let a : vs ≡ [] = cc in a)
batch_length s me us token index (r ∷ rs) vs e = at (made_in_batch s me us token r) e (λ v ws k. batch_length s me (us ++ v
    ∷ []) token (index + 1) rs ws k)
  where
    Rest : Type 0
    Rest = (v : Shadow) (ws : List Shadow) → batch_of s me (us ++ v ∷ []) token (index + 1) rs ≡ Ok ws → length ws ≡ length rs

    first : (v : Shadow) (q : Result (List Shadow) Refusal) → batch_of s me (us ++ v ∷ []) token (index + 1) rs ≡ q →
        and_then Err q (λ ws. Ok (v ∷ ws)) ≡ Ok vs → Rest → length vs ≡ length (r ∷ rs)
    first v (Ok ws) k h rest = ap length (let a : vs ≡ v ∷ ws = cc in a) ∙ ap suc (rest v ws k)
    first v (Err why) k h rest = cc

    at : (q : Result Shadow RunFault) → and_then (λ fault. Err (BatchRefused index (cause_of fault))) q
        (λ v. and_then Err (batch_of s me (us ++ v ∷ []) token (index + 1) rs) (λ ws. Ok (v ∷ ws))) ≡ Ok vs → Rest →
        length vs ≡ length (r ∷ rs)
    at (Ok v) h rest = first v (batch_of s me (us ++ v ∷ []) token (index + 1) rs) refl h rest
    at (Err fault) h rest = cc
