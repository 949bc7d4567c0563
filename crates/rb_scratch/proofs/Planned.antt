-- Facts of a request's plan.
use Rattle.rb_scratch.proofs.Found.{plan_of_cancel}
use Rattle.std.proofs.Common.{◌≡◌, ℕ, Bool, true, false, cond, not, List, refl, subst, Option, Some, None, Result, Ok}
use Rattle.std.specs.Prelude.{nat_lt, ◌==◌, pos, int_lt}
use Rattle.rb_money.specs.Settings.{Settings, is_account}
use Rattle.rb_money.specs.declared.place.Place.{Place}
use Rattle.rb_money.specs.declared.refusal.Refusal.{Refusal}
use Rattle.rb_money.specs.declared.cents.TheConstants.{MOST_CENTS}
use Rattle.rb_money.specs.declared.rate.TheConstants.{MOST_RATE}
use Rattle.rb_shadow.specs.declared.op_name.OpName.{OpName}
use Rattle.rb_shadow.specs.declared.kind.Kind.{Kind}
use Rattle.rb_shadow.specs.declared.kind.Kind.TheVariants.{Withdraw, Declined, Interest, Cancel, Transfer}
use Rattle.rb_shadow.specs.declared.shadow.Shadow.{Shadow}
use Rattle.rb_shadow.specs.Operations.{Among, bal, find_in, is_cancelled, may_be_cancelled}
use Rattle.rb_shadow.proofs.Public.Lookups
use Rattle.rb_scratch.specs.declared.request.Request.{Request}
use Rattle.rb_scratch.specs.declared.request.Request.TheVariants.{Deposit as AskDeposit, Withdraw as AskWithdraw, Interest as AskInterest}
use Rattle.rb_scratch.specs.declared.request.Request.TheVariants.{Cancel as AskCancel, Transfer as AskTransfer}
use Rattle.rb_scratch.specs.Requests.{Plan, interest_on, plan_of}
use Rattle.rb_money.specs.Amounts.{is_amount}
use Rattle.rb_scratch.proofs.Public.Made.{passed_by, not_true}

-- the configuration has the plan's account, and its amount is from 1 to the most cents
pub record IsFor (s : Settings) (p : Plan) : Type 0 where
  pub account : is_account s p.account ≡ true
  pub amount : is_amount p.amount ≡ true

-- what a plan to cancel says of its target
pub record Cancels (us : List Shadow) (x : OpName) (p : Plan) : Type 0 where
  pub target : Shadow
  pub there : Among target us
  pub named : target.name ≡ x
  pub kind : may_be_cancelled target.kind ≡ true
  pub account : target.account ≡ p.account
  pub amount : target.amount ≡ p.amount
  pub free : is_cancelled us x ≡ false

-- what a plan says, by its kind
abbrev pub IsPlanned : Settings → List Shadow → Plan → Kind → Type 0
IsPlanned s us p Withdraw = IsFor s p × (int_lt (bal s us p.account) (pos p.amount) ≡ false)
IsPlanned s us p Interest = (is_account s p.account ≡ true) × (nat_lt MOST_CENTS p.amount ≡ false)
IsPlanned s us p (Cancel x) = Cancels us x p
IsPlanned s us p (Transfer to) = IsFor s p × (int_lt (bal s us p.account) (pos p.amount) ≡ false) × (is_account s to ≡ true)
    × ((p.account.0 == to.0) ≡ false)
IsPlanned s us p _ = IsFor s p

-- an accepted plan
abbrev accepted : Plan → Result Plan Refusal
accepted p = Ok p

at_ok : (p q : Plan) → accepted q ≡ accepted p → q ≡ p
at_ok p q e = cc

planned_cancel : (s : Settings) (us : List Shadow) (x : OpName) (o : Option Shadow) (p : Plan) → find_in us x ≡ o →
    plan_of_cancel us x o ≡ Ok p → IsPlanned s us p p.kind
planned_cancel s us x None p found e = cc
planned_cancel s us x (Some t) p found e =
    let (a, e1) = passed_by (not (may_be_cancelled t.kind)) _ _ p e in
    let (b, e2) = passed_by (is_cancelled us x) _ _ p e1 in
    let f : Among t us × (t.name ≡ x) = Lookups.found us x t found in
    subst (λ (q : Plan). IsPlanned s us q q.kind) (at_ok p _ e2) (record {
      target = t;
      there = f.0;
      named = f.1;
      kind = not_true _ a;
      account = refl;
      amount = refl;
      free = b;
    })

planned_withdraw : (s : Settings) (us : List Shadow) (a : Place) (n : ℕ) (b : Bool) → int_lt (bal s us a) (pos n) ≡ b →
    is_account s a ≡ true → is_amount n ≡ true → IsPlanned s us (record {
      account = a;
      amount = n;
      kind = cond b Declined Withdraw;
    }) (cond b Declined Withdraw)
planned_withdraw s us a n true e h k = record { account = h; amount = k }
planned_withdraw s us a n false e h k = (record { account = h; amount = k }, e)

planned_transfer : (s : Settings) (us : List Shadow) (a c : Place) (n : ℕ) (b : Bool) → int_lt (bal s us a) (pos n) ≡ b →
    is_account s a ≡ true → is_amount n ≡ true → is_account s c ≡ true → (a.0 == c.0) ≡ false
    → IsPlanned s us (record { account = a; amount = n; kind = cond b Declined (Transfer c) }) (cond b Declined (Transfer c))
planned_transfer s us a c n true e h k l apart = record { account = h; amount = k }
planned_transfer s us a c n false e h k l apart = (record { account = h; amount = k }, e, l, apart)

-- what is known of a plan
pub planned : (s : Settings) (us : List Shadow) (r : Request) (p : Plan) → plan_of s us r ≡ Ok p → IsPlanned s us p p.kind
unfolding plan_of
planned s us (AskDeposit a n) p e =
    let (h, e1) = passed_by (not (is_account s a)) _ _ p e in
    let (k, e2) = passed_by (not (is_amount n)) _ _ p e1 in
    subst (λ (q : Plan). IsPlanned s us q q.kind) (at_ok p _ e2) (record { account = not_true _ h; amount = not_true _ k })
planned s us (AskWithdraw a n) p e =
    let (h, e1) = passed_by (not (is_account s a)) _ _ p e in
    let (k, e2) = passed_by (not (is_amount n)) _ _ p e1 in
    subst (λ (q : Plan). IsPlanned s us q q.kind) (at_ok p _ e2) (planned_withdraw s us a n (int_lt (bal s us a) (pos n)) refl
    (not_true _ h) (not_true _ k))
planned s us (AskInterest a rate) p e =
    let (h, e1) = passed_by (not (is_account s a)) _ _ p e in
    let (k, e2) = passed_by (nat_lt MOST_RATE rate) _ _ p e1 in
    let (l, e3) = passed_by (nat_lt MOST_CENTS (interest_on (bal s us) a rate)) _ _ p e2 in
    subst (λ (q : Plan). IsPlanned s us q q.kind) (at_ok p _ e3) (not_true _ h, l)
planned s us (AskCancel x) p e = planned_cancel s us x (find_in us x) p refl e
planned s us (AskTransfer a c n) p e =
    let (h, e1) = passed_by (not (is_account s a)) _ _ p e in
    let (l, e2) = passed_by (not (is_account s c)) _ _ p e1 in
    let (k, e3) = passed_by (not (is_amount n)) _ _ p e2 in
    let (apart, e4) = passed_by (a.0 == c.0) _ _ p e3 in
    subst (λ (q : Plan). IsPlanned s us q q.kind) (at_ok p _ e4) (planned_transfer s us a c n (int_lt (bal s us a) (pos n)) refl
    (not_true _ h) (not_true _ k) (not_true _ l) apart)
