-- The bank of the published paper: what each operation does to a map from accounts to balances.
use Rattle.std.specs.Prelude.{◌≡◌, ℕ, Bool, if◌then◌else◌, not, ◌&&◌, ◌==◌, ℤ, pos, ◌+ℤ◌, neg_ℤ, int_lt, List, [], ◌∷◌, ◌++◌, filter}
use Rattle.rb_money.specs.Settings.{Settings}
use Rattle.rb_money.specs.declared.place.Place.{Place}
use Rattle.rb_shadow.specs.declared.shadow.Shadow.{Shadow}
use Rattle.rb_shadow.specs.declared.kind.Kind.{Kind}
use Rattle.rb_shadow.specs.declared.kind.Kind.TheVariants.{Deposit, Withdraw, Declined, Interest, Cancel, Transfer}
use Rattle.rb_shadow.specs.declared.op_name.OpName.{OpName}
use Rattle.rb_shadow.specs.Operations.{bal, same_name}
use Rattle.rb_scratch.specs.declared.request.Request.{Request}
use Rattle.rb_scratch.specs.declared.request.Request.TheVariants.{Deposit as AskDeposit, Withdraw as AskWithdraw, Interest as AskInterest}
use Rattle.rb_scratch.specs.declared.request.Request.TheVariants.{Cancel as AskCancel, Transfer as AskTransfer}
use Rattle.rb_scratch.specs.Requests.{interest_on}

-- the balances after an amount is added to an account
abbrev pub after_deposit : (Place → ℤ) → Place → ℕ → Place → ℤ
after_deposit b a x = λ q. b q +ℤ (if a.0 == q.0 then pos x else pos 0)

-- a withdrawal, and a transfer, is granted if there is enough
abbrev pub grants : (Place → ℤ) → Place → ℕ → Bool
grants b a x = not (int_lt (b a) (pos x))

-- the balances after an amount is taken from an account, if there is enough
abbrev pub after_withdraw : (Place → ℤ) → Place → ℕ → Place → ℤ
after_withdraw b a x = λ q. b q +ℤ (if grants b a x && (a.0 == q.0) then neg_ℤ (pos x) else pos 0)

-- the balances after an amount goes from an account to another, if there is enough
abbrev pub after_transfer : (Place → ℤ) → Place → Place → ℕ → Place → ℤ
after_transfer b a c x = λ q. b q +ℤ (if grants b a x then (if a.0 == q.0 then neg_ℤ (pos x) else (if c.0 == q.0 then pos x else pos 0))
    else pos 0)

-- the balances after an account gets its interest at the rate
abbrev pub after_accrue : (Place → ℤ) → Place → ℕ → Place → ℤ
after_accrue b a rate = λ q. b q +ℤ (if a.0 == q.0 then pos (interest_on b a rate) else pos 0)

-- the kind of operation that a request is granted on these balances; if there isn't enough, it is a declined one
abbrev pub granted_kind : (Place → ℤ) → Request → Kind
granted_kind b (AskDeposit a n) = Deposit
granted_kind b (AskWithdraw a n) = if grants b a n then Withdraw else Declined
granted_kind b (AskInterest a rate) = Interest
granted_kind b (AskCancel x) = Cancel x
granted_kind b (AskTransfer a c n) = if grants b a n then Transfer c else Declined

-- the operations without the one of the name
abbrev pub left_out : OpName → List Shadow → List Shadow
left_out x us = filter (λ (u : Shadow). not (same_name u.name x)) us

-- the operation that a request makes does to every balance, at the end of a list, what the published bank does on that
-- request. That bank has no cancellation: after one each balance is as if its target had never been made
abbrev pub DoesOriginal : Settings → List Shadow → Request → Shadow → Type 0
DoesOriginal s us (AskDeposit a n) v = (q : Place) → bal s (us ++ v ∷ []) q ≡ after_deposit (bal s us) a n q
DoesOriginal s us (AskWithdraw a n) v = (q : Place) → bal s (us ++ v ∷ []) q ≡ after_withdraw (bal s us) a n q
DoesOriginal s us (AskInterest a rate) v = (q : Place) → bal s (us ++ v ∷ []) q ≡ after_accrue (bal s us) a rate q
DoesOriginal s us (AskCancel x) v = (q : Place) → bal s (us ++ v ∷ []) q ≡ bal s (left_out x us) q
DoesOriginal s us (AskTransfer a c n) v = (q : Place) → bal s (us ++ v ∷ []) q ≡ after_transfer (bal s us) a c n q
