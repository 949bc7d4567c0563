-- The refusals that the model gives fit a line.
use Rattle.rb_history.proofs.Words.{IsCause, IsRefusal, overdraws, refusal_of_sound, IsValid, first_cancel_from, and_then}
use Rattle.rb_history.proofs.Words.{number_of_refusal, unless, IsConfigured, Settings, Limits, Refusal, AlreadyCancelled, BatchRefused}
use Rattle.rb_history.proofs.Words.{Conflict, NeedToken, NotCancellable, NotReady, NumbersExhausted, RedBehind, UnknownAccount}
use Rattle.rb_history.proofs.Words.{UnknownOperation, WouldOverdraw, cause_of, made_in_batch, batch_of, Plan, allowed_red, allowed, made_of}
use Rattle.rb_history.proofs.Words.{operation_of, plan_of, Request, Cancel, find_in, is_cancelled, is_red, may_be_cancelled, names}
use Rattle.rb_history.proofs.Words.{red_count, same_shadow, target_of, fault_of, CancelKind, Shadow, Token, refusal_of_pass, refusal_of_red}
use Rattle.rb_history.proofs.Words.{refusal_of_token, TokenMessage, Bool, Err, IfSome, List, None, Ok, Option, Result, Some, [], arith}
use Rattle.rb_history.proofs.Words.{cond, false, length, not, rules, true, ℕ, ◌&&◌, ◌++◌, ◌+◌, ◌^◌, ◌∷◌, ◌≤◌, IfErr, is_some, nat_lt}
use Rattle.rb_scratch.specs.declared.run_fault.RunFault.{RunFault}
use Rattle.rb_scratch.specs.declared.run_fault.RunFault.TheVariants.{Declined as DeclinedFault, Refused as RefusedFault}
use Rattle.rb_history.proofs.FitsLaws.{IsByte, IsWord}
use Rattle.rb_history.proofs.StatementsFit.{cancel_fits}

-- ---- a refusal, and else what comes next

err_if : {A : Type 0} (b : Bool) (why : Refusal) (next : Result A Refusal) → IsRefusal why → IfErr next IsRefusal
    → IfErr (cond b (Err why) next) IsRefusal
err_if true why next h k = h
err_if false why next h k = k

err_then : {A B : Type 0} (q : Result A Refusal) (f : A → Result B Refusal) → IfErr q IsRefusal → ((x : A) → IfErr (f x) IsRefusal)
    → IfErr (and_then Err q f) IsRefusal
err_then (Ok x) f h k = k x
err_then (Err why) f h k = h

some_if : {E : Type 0} (P : E → Type 0) (b : Bool) (why : E) (next : Option E) → P why → IfSome next P → IfSome (cond b (Some why) next) P
some_if P true why next h k = h
some_if P false why next h k = k

-- ---- requests

plan_fits : (s : Settings) → IsConfigured s → (us : List Shadow) (r : Request) → IsValid s us → IfErr (plan_of s us r) IsRefusal
unfolding plan_of
plan_fits s c us (Cancel x) valid = by (find_in us x)
  where
    made : Shadow → Result Plan Refusal
    made t = cond (not (may_be_cancelled t.kind)) (Err NotCancellable)
        (cond (is_cancelled us x) (Err (AlreadyCancelled (first_cancel_from 1 us x)))
        (Ok (record { account = t.account; amount = t.amount; kind = CancelKind x })))

    by : (o : Option Shadow) → IfErr (unless made o (Err UnknownOperation)) IsRefusal
    by None = tt
    by (Some t) = err_if (not (may_be_cancelled t.kind)) NotCancellable _ tt
        (err_if (is_cancelled us x) (AlreadyCancelled (first_cancel_from 1 us x)) (Ok _) (cancel_fits s c us x valid) tt)
plan_fits s c us _ valid = search (err_if, rules)

red_fits : (t : Token) (reds : ℕ) (next : Result Shadow Refusal) → IsWord reds → IsWord t.needed → IfErr next IsRefusal
    → IfErr (unless Err (refusal_of_red t reds) next) IsRefusal
red_fits t reds next few needed h = by (not t.held) (nat_lt reds t.needed)
  where
    by : (b d : Bool) → IfErr (unless Err (cond b (Some NeedToken) (cond d (Some (RedBehind reds t.needed)) None)) next) IsRefusal
    by true d = tt
    by false true = (few, needed)
    by false false = h

allowed_fits : (s : Settings) (us : List Shadow) (t : Token) (v : Shadow) → IsWord (red_count us) → IsWord t.needed
    → IfErr (allowed s us t v) IsRefusal
unfolding allowed
allowed_fits s us t v few needed = err_if _ NumbersExhausted _ tt (by (is_red v.name))
  where
    by : (b : Bool) → IfErr (cond b (allowed_red s us t v) (Ok v)) IsRefusal
    by true = red_fits t (red_count us) _ few needed (err_if (is_some (target_of v.kind) && overdraws s us v) WouldOverdraw (Ok v) tt tt)
    by false = tt

-- why a request makes nothing
pub request_fits : (s : Settings) → IsConfigured s → (me : ℕ) (us : List Shadow) (t : Token) (r : Request) → IsValid s us
    → IsWord (red_count us) → IsWord t.needed → IfErr (made_of s me us t r) IsRefusal
unfolding made_of
request_fits s c me us t r valid few needed =
    err_then (plan_of s us r) (λ p. allowed s us t (operation_of me us p)) (plan_fits s c us r valid)
    (λ p. allowed_fits s us t (operation_of me us p) few needed)

-- ---- batches

number_fits : (why : Refusal) → IsByte (number_of_refusal why)
number_fits UnknownAccount = omega arith
number_fits _ = omega arith

cause_fits : (fault : RunFault) → IsCause (cause_of fault)
cause_fits DeclinedFault = tt
cause_fits (RefusedFault why) = number_fits why

-- why a batch makes nothing
pub batch_fits : (s : Settings) (me : ℕ) (us : List Shadow) (t : Token) (index : ℕ) (rs : List Request) → index + length rs ≤ 2 ^ 8
    → IfErr (batch_of s me us t index rs) IsRefusal
unfolding batch_of
batch_fits s me us t index [] few = tt
batch_fits s me us t index (r ∷ rs) few =
    by (made_in_batch s me us t r) (λ v. batch_fits s me (us ++ v ∷ []) t (index + 1) rs (omega arith))
  where
    Rest : Type 0
    Rest = (v : Shadow) → IfErr (batch_of s me (us ++ v ∷ []) t (index + 1) rs) IsRefusal

    by : (q : Result Shadow RunFault) → Rest → IfErr (and_then (λ fault. Err (BatchRefused index (cause_of fault))) q (λ v.
        and_then Err (batch_of s me (us ++ v ∷ []) t (index + 1) rs) (λ vs. Ok (v ∷ vs)))) IsRefusal
    by (Err fault) rest = (omega arith, cause_fits fault)
    by (Ok v) rest = err_then (batch_of s me (us ++ v ∷ []) t (index + 1) rs) (λ vs. Ok (v ∷ vs)) (rest v) (λ vs. tt)

-- ---- shadows and the token

-- what is wrong with a shadow by itself
pub fault_fits : (s : Settings) (v : Shadow) → IfSome (fault_of s v) IsByte
unfolding fault_of
fault_fits s v = search (some_if, rules)

-- why a held operation isn't applied
pub check_fits : (s : Settings) (us : List Shadow) (v : Shadow) → IfSome (refusal_of_sound s us v) IsRefusal
check_fits s us v =
    by (names us v.name) (unless (λ u. same_shadow u v) (find_in us v.name) false) _ (search (some_if, rules))
  where
    by : (a b : Bool) (o : Option Refusal) → IfSome o IsRefusal → IfSome (cond a (cond b (Some NotReady) (Some Conflict)) o) IsRefusal
    by true true o h = tt
    by true false o h = tt
    by false b o h = h

-- why a token's message is refused
pub token_fits : (limits : Limits) (me : ℕ) (m : TokenMessage) → IfSome (refusal_of_token limits me m) IsRefusal
token_fits limits me m = search (some_if, rules)

-- why the token isn't passed
pub pass_fits : (sites : ℕ) (limits : Limits) (me : ℕ) (t : Token) (to : ℕ) → IfSome (refusal_of_pass sites limits me t to) IsRefusal
pass_fits sites limits me t to = search (some_if, rules)
