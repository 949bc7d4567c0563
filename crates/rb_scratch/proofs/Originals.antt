-- An operation does to every balance what the published bank does.
use Rattle.rb_scratch.proofs.Found.{plan_of_cancel}
use Rattle.std.proofs.Common.{◌≡◌, ℕ, Bool, true, false, cond, not, ◌&&◌, List, [], ◌∷◌, ◌++◌, refl, ap, sym, ◌∙◌, Option, Some, None}
use Rattle.std.proofs.Common.{Result, Ok, Err}
use Rattle.std.specs.Prelude.{ℤ, IfOk, pos, neg_ℤ, ◌+ℤ◌, ◌==◌, int_lt, nat_lt, is_some}
use Rattle.rb_money.specs.Amounts.{is_amount}
use Rattle.rb_money.specs.Settings.{Settings, is_account}
use Rattle.rb_money.specs.declared.place.Place.{Place}
use Rattle.rb_money.specs.declared.refusal.Refusal.{Refusal}
use Rattle.rb_money.specs.declared.cents.TheConstants.{MOST_CENTS}
use Rattle.rb_money.specs.declared.rate.TheConstants.{MOST_RATE}
use Rattle.rb_shadow.specs.declared.kind.Kind.{Kind}
use Rattle.rb_shadow.specs.declared.kind.Kind.TheVariants.{Deposit, Withdraw, Declined, Interest, Cancel, Transfer}
use Rattle.rb_shadow.specs.declared.op_name.OpName.{OpName}
use Rattle.rb_shadow.specs.declared.shadow.Shadow.{Shadow}
use Rattle.rb_shadow.specs.Operations.{bal, is_cancelled, find_in, may_be_cancelled, moved, arrived, receiver_of, target_of, colour_in}
use Rattle.rb_ledger.proofs.Public.Pushes
use Rattle.rb_ledger.specs.Valid.{IsValid}
use Rattle.rb_ledger.proofs.Public.Legal
use Rattle.rb_scratch.specs.declared.request.Request.{Request}
use Rattle.rb_scratch.specs.declared.request.Request.TheVariants.{Deposit as AskDeposit, Withdraw as AskWithdraw, Interest as AskInterest}
use Rattle.rb_scratch.specs.declared.request.Request.TheVariants.{Cancel as AskCancel, Transfer as AskTransfer}
use Rattle.rb_scratch.specs.Originals.{DoesOriginal, granted_kind, after_accrue, after_deposit, after_withdraw, after_transfer}
use Rattle.rb_scratch.specs.Requests.{Plan, interest_on, next_name, operation_of, plan_of, if_covered}
use Rattle.rb_scratch.proofs.LeftOut
use Rattle.rb_scratch.proofs.Public.Made
use Rattle.rb_scratch.proofs.Public.Fits

not_cancel : (b : Bool) (k : Kind) → is_some (target_of k) ≡ false → is_some (target_of (cond b Declined k)) ≡ false
not_cancel true k e = refl
not_cancel false k e = e

-- what an operation of a kind moves on an account, which is its own or not
abbrev moves : Kind → ℕ → Place → Bool → ℤ
moves k n q own = cond own (moved k n) (arrived (receiver_of k) n q)

taken : (b c : Bool) (n : ℕ) (q : Place) → moves (cond b Declined Withdraw) n q c ≡ cond (not b && c) (neg_ℤ (pos n)) (pos 0)
taken true true n q = refl
taken true false n q = refl
taken false true n q = refl
taken false false n q = refl

carried : (b c : Bool) (n : ℕ) (to q : Place) → moves (cond b Declined (Transfer to)) n q c
    ≡ cond (not b) (cond c (neg_ℤ (pos n)) (cond (to.0 == q.0) (pos n) (pos 0))) (pos 0)
carried true true n to q = refl
carried true false n to q = refl
carried false true n to q = refl
carried false false n to q = refl

-- what an operation that isn't a cancellation does to every balance at the end of a list, by its kind
record IsOriginal (s : Settings) (us : List Shadow) (v : Shadow) : Type 0 where
  deposit : v.kind ≡ Deposit → (q : Place) → bal s (us ++ v ∷ []) q ≡ after_deposit (bal s us) v.account v.amount q
  withdraw : v.kind ≡ if_covered s us v.account v.amount Withdraw → (q : Place) →
      bal s (us ++ v ∷ []) q ≡ after_withdraw (bal s us) v.account v.amount q
  accrue : (rate : ℕ) → v.kind ≡ Interest → v.amount ≡ interest_on (bal s us) v.account rate → (q : Place) →
      bal s (us ++ v ∷ []) q ≡ after_accrue (bal s us) v.account rate q
  transfer : (to : Place) → v.kind ≡ if_covered s us v.account v.amount (Transfer to) → (q : Place) →
      bal s (us ++ v ∷ []) q ≡ after_transfer (bal s us) v.account to v.amount q

is_original : (s : Settings) (us : List Shadow) (v : Shadow) → is_cancelled us v.name ≡ false → IsOriginal s us v
is_original s us v free = record {
  deposit = λ e q. Pushes.bal-push_plain s us v q (ap (λ k. is_some (target_of k)) e) free
      ∙ ap (λ k. bal s us q +ℤ moves k v.amount q (v.account.0 == q.0)) e;
  withdraw = λ e q. Pushes.bal-push_plain s us v q (ap (λ k. is_some (target_of k)) e
      ∙ not_cancel (int_lt (bal s us v.account) (pos v.amount)) Withdraw refl) free
      ∙ ap (λ k. bal s us q +ℤ moves k v.amount q (v.account.0 == q.0)) e
      ∙ ap (λ z. bal s us q +ℤ z) (taken (int_lt (bal s us v.account) (pos v.amount)) (v.account.0 == q.0) v.amount q);
  accrue = λ rate e a q. Pushes.bal-push_plain s us v q (ap (λ k. is_some (target_of k)) e) free
      ∙ ap (λ k. bal s us q +ℤ moves k v.amount q (v.account.0 == q.0)) e
      ∙ ap (λ n. bal s us q +ℤ cond (v.account.0 == q.0) (pos n) (pos 0)) a;
  transfer = λ to e q. Pushes.bal-push_plain s us v q (ap (λ k. is_some (target_of k)) e
      ∙ not_cancel (int_lt (bal s us v.account) (pos v.amount)) (Transfer to) refl) free
      ∙ ap (λ k. bal s us q +ℤ moves k v.amount q (v.account.0 == q.0)) e
      ∙ ap (λ z. bal s us q +ℤ z) (carried (int_lt (bal s us v.account) (pos v.amount)) (v.account.0 == q.0) v.amount to q);
}

-- ---- what a request makes

abbrev the_plan : Plan → Result Plan Refusal
the_plan p = Ok p

-- an accepted plan is the only one
accepted : (p q : Plan) → the_plan q ≡ the_plan p → q ≡ p
accepted p q e = cc

plan_of_deposit : (s : Settings) (us : List Shadow) (a : Place) (n : ℕ) (p : Plan) → plan_of s us (AskDeposit a n) ≡ Ok p →
    record { account = a; amount = n; kind = Deposit } ≡ p
unfolding plan_of
plan_of_deposit s us a n p e =
    let (_, e1) = Made.passed_by (not (is_account s a)) _ _ p e in
    let (_, e2) = Made.passed_by (not (is_amount n)) _ _ p e1 in
    accepted p _ e2

plan_of_withdraw : (s : Settings) (us : List Shadow) (a : Place) (n : ℕ) (p : Plan) → plan_of s us (AskWithdraw a n) ≡ Ok p →
    record { account = a; amount = n; kind = if_covered s us a n Withdraw } ≡ p
unfolding plan_of
plan_of_withdraw s us a n p e =
    let (_, e1) = Made.passed_by (not (is_account s a)) _ _ p e in
    let (_, e2) = Made.passed_by (not (is_amount n)) _ _ p e1 in
    accepted p _ e2

plan_of_interest : (s : Settings) (us : List Shadow) (a : Place) (rate : ℕ) (p : Plan) → plan_of s us (AskInterest a rate) ≡ Ok p →
    record { account = a; amount = interest_on (bal s us) a rate; kind = Interest } ≡ p
unfolding plan_of
plan_of_interest s us a rate p e =
    let (_, e1) = Made.passed_by (not (is_account s a)) _ _ p e in
    let (_, e2) = Made.passed_by (nat_lt MOST_RATE rate) _ _ p e1 in
    let (_, e3) = Made.passed_by (nat_lt MOST_CENTS (interest_on (bal s us) a rate)) _ _ p e2 in
    accepted p _ e3

plan_of_transfer : (s : Settings) (us : List Shadow) (a c : Place) (n : ℕ) (p : Plan) → plan_of s us (AskTransfer a c n) ≡ Ok p →
    record { account = a; amount = n; kind = if_covered s us a n (Transfer c) } ≡ p
unfolding plan_of
plan_of_transfer s us a c n p e =
    let (_, e1) = Made.passed_by (not (is_account s a)) _ _ p e in
    let (_, e2) = Made.passed_by (not (is_account s c)) _ _ p e1 in
    let (_, e3) = Made.passed_by (not (is_amount n)) _ _ p e2 in
    let (_, e4) = Made.passed_by (a.0 == c.0) _ _ p e3 in
    accepted p _ e4

-- what is known if a cancellation is planned
record HasTargetFor (us : List Shadow) (x : OpName) (p : Plan) : Type 0 where
  target : Shadow
  found : find_in us x ≡ Some target
  may : may_be_cancelled target.kind ≡ true
  free : is_cancelled us x ≡ false
  kind : p.kind ≡ Cancel x

plan_of_target : (s : Settings) (us : List Shadow) (x : OpName) (p : Plan) → plan_of s us (AskCancel x) ≡ Ok p → HasTargetFor us x p
unfolding plan_of
plan_of_target s us x p e = by (find_in us x) refl e
  where
    by : (o : Option Shadow) → find_in us x ≡ o → plan_of_cancel us x o ≡ Ok p → HasTargetFor us x p
    by None at e = cc
    by (Some t) at e =
        let (m, e1) = Made.passed_by (not (may_be_cancelled t.kind)) _ _ p e in
        let (f, e2) = Made.passed_by (is_cancelled us x) _ _ p e1 in
        record {
          target = t;
          found = at;
          may = Made.not_true (may_be_cancelled t.kind) m;
          free = f;
          kind = sym (ap (λ (q : Plan). q.kind) (accepted p _ e2));
        }

-- an operation has the kind of its plan
pub kind_of_plan : (me : ℕ) (us : List Shadow) (p : Plan) (v : Shadow) → v ≡ operation_of me us p → v.kind ≡ p.kind
unfolding operation_of
kind_of_plan me us p v is = ap (λ (x : Shadow). x.kind) is

declined_if_not : (b : Bool) (k : Kind) → cond b Declined k ≡ cond (not b) k Declined
declined_if_not true k = refl
declined_if_not false k = refl

-- a plan has the kind that is granted
pub granted : (s : Settings) (us : List Shadow) (r : Request) (p : Plan) → plan_of s us r ≡ Ok p → p.kind ≡ granted_kind (bal s us) r
granted s us (AskDeposit a n) p e = sym (ap (λ (q : Plan). q.kind) (plan_of_deposit s us a n p e))
granted s us (AskWithdraw a n) p e = sym (ap (λ (q : Plan). q.kind) (plan_of_withdraw s us a n p e))
    ∙ declined_if_not (int_lt (bal s us a) (pos n)) Withdraw
granted s us (AskInterest a rate) p e = sym (ap (λ (q : Plan). q.kind) (plan_of_interest s us a rate p e))
granted s us (AskCancel x) p e = (plan_of_target s us x p e).kind
granted s us (AskTransfer a c n) p e = sym (ap (λ (q : Plan). q.kind) (plan_of_transfer s us a c n p e))
    ∙ declined_if_not (int_lt (bal s us a) (pos n)) (Transfer c)

-- the kind of what was made, if it is known by another name
pub of_kind : (made : Result Shadow Refusal) (k g : Kind) → IfOk made (λ v. v.kind ≡ k) → k ≡ g → IfOk made (λ v. v.kind ≡ g)
of_kind (Ok v) k g h e = h ∙ e
of_kind (Err why) k g h e = tt

-- the parts of what a plan makes
record HasParts (v : Shadow) (a : Place) (n : ℕ) (k : Kind) : Type 0 where
  account : v.account ≡ a
  amount : v.amount ≡ n
  kind : v.kind ≡ k

parts_of : (me : ℕ) (us : List Shadow) (v : Shadow) (p : Plan) (a : Place) (n : ℕ) (k : Kind) → v ≡ operation_of me us p →
    record { account = a; amount = n; kind = k } ≡ p → HasParts v a n k
unfolding operation_of
parts_of me us v p a n k is plan = record {
  account = ap (λ (x : Shadow). x.account) is ∙ sym (ap (λ (q : Plan). q.account) plan);
  amount = ap (λ (x : Shadow). x.amount) is ∙ sym (ap (λ (q : Plan). q.amount) plan);
  kind = ap (λ (x : Shadow). x.kind) is ∙ sym (ap (λ (q : Plan). q.kind) plan);
}

uncancelled : (s : Settings) (me : ℕ) (us : List Shadow) (v : Shadow) (p : Plan) → IsValid s us → v ≡ operation_of me us p →
    is_cancelled us v.name ≡ false
unfolding operation_of
uncancelled s me us v p valid is =
    let x = next_name me us (colour_in us p.kind) in
    ap (λ (u : Shadow). is_cancelled us u.name) is ∙ Legal.fresh_uncancelled us x valid.targets
    (Fits.fresh_name s me us (colour_in us p.kind) valid)

-- what a plan makes does what the published bank does on its request
pub plan_original : (s : Settings) (me : ℕ) (us : List Shadow) (p : Plan) (v : Shadow) (r : Request) → IsValid s us →
    v ≡ operation_of me us p → plan_of s us r ≡ Ok p → DoesOriginal s us r v
plan_original s me us p v (AskDeposit a n) valid is planned =
    let h = parts_of me us v p a n Deposit is (plan_of_deposit s us a n p planned) in
    λ q. (is_original s us v (uncancelled s me us v p valid is)).deposit h.kind q
    ∙ ap (λ x. after_deposit (bal s us) x v.amount q) h.account ∙ ap (λ m. after_deposit (bal s us) a m q) h.amount
plan_original s me us p v (AskWithdraw a n) valid is planned =
    let h = parts_of me us v p a n (if_covered s us a n Withdraw) is (plan_of_withdraw s us a n p planned) in
    λ q. (is_original s us v (uncancelled s me us v p valid is)).withdraw (h.kind
    ∙ sym (ap (λ x. if_covered s us x v.amount Withdraw) h.account ∙ ap (λ m. if_covered s us a m Withdraw) h.amount)) q
    ∙ ap (λ x. after_withdraw (bal s us) x v.amount q) h.account ∙ ap (λ m. after_withdraw (bal s us) a m q) h.amount
plan_original s me us p v (AskInterest a rate) valid is planned =
    let h = parts_of me us v p a (interest_on (bal s us) a rate) Interest is (plan_of_interest s us a rate p planned) in
    λ q. (is_original s us v (uncancelled s me us v p valid is)).accrue rate h.kind (h.amount
    ∙ sym (ap (λ x. interest_on (bal s us) x rate) h.account)) q
    ∙ ap (λ x. after_accrue (bal s us) x rate q) h.account
plan_original s me us p v (AskCancel x) valid is planned =
    let cancelled = plan_of_target s us x p planned in
    let target : target_of v.kind ≡ Some x = ap target_of (kind_of_plan me us p v is ∙ cancelled.kind) in
    λ q. LeftOut.cancelled_left_out s us v cancelled.target x q target valid.unique cancelled.found
    (Pushes.plain_if_cancellable cancelled.target.kind cancelled.may) cancelled.free
plan_original s me us p v (AskTransfer a c n) valid is planned =
    let h = parts_of me us v p a n (if_covered s us a n (Transfer c)) is (plan_of_transfer s us a c n p planned) in
    λ q. (is_original s us v (uncancelled s me us v p valid is)).transfer c (h.kind
    ∙ sym (ap (λ x. if_covered s us x v.amount (Transfer c)) h.account ∙ ap (λ m. if_covered s us a m (Transfer c)) h.amount)) q
    ∙ ap (λ x. after_transfer (bal s us) x c v.amount q) h.account ∙ ap (λ m. after_transfer (bal s us) a c m q) h.amount

-- what holds for each request of the plan holds for this one
pub of_request : (s : Settings) (us : List Shadow) (p : Plan) (r : Request) (made : Result Shadow Refusal) →
    IfOk made (λ v. (q : Request) → plan_of s us q ≡ Ok p → DoesOriginal s us q v) → plan_of s us r ≡ Ok p → IfOk made (DoesOriginal s us r)
of_request s us p r (Ok v) h e = h r e
of_request s us p r (Err why) h e = tt
