-- The operations that requests make.
use Rattle.std.specs.Prelude.{ℕ, ℤ, ◌+◌, if◌then◌else◌, not, ◌&&◌, nat_lt, ◌==◌, List, Result, Ok, Err, pos, int_lt}
use Rattle.std.specs.Prelude.{is_some}
use Rattle.rb_money.specs.Amounts.{cents, is_amount, interest}
use Rattle.rb_money.specs.Refusals.{and_then, unless}
use Rattle.std.specs.Prelude.{◌≡◌, ◌<◌, ◌≤◌, [], ◌∷◌, ◌++◌}
use Rattle.rb_ledger.specs.Valid.{IsValid}
use Rattle.rb_money.specs.Settings.{Settings, is_account}
use Rattle.rb_money.specs.declared.limits.TheConstants.{MOST_SITES}
use Rattle.rb_money.specs.declared.place.Place.{Place}
use Rattle.rb_money.specs.declared.refusal.Refusal.{Refusal}
use Rattle.rb_money.specs.declared.refusal.Refusal.TheVariants.{UnknownAccount, BadAmount, BadRate, UnknownOperation, NotCancellable}
use Rattle.rb_money.specs.declared.refusal.Refusal.TheVariants.{AlreadyCancelled, NumbersExhausted, WouldOverdraw, DeltaTooLarge}
use Rattle.rb_money.specs.declared.refusal.Refusal.TheVariants.{SameAccount}
use Rattle.rb_money.specs.declared.cents.TheConstants.{MOST_CENTS}
use Rattle.rb_money.specs.declared.rate.TheConstants.{MOST_RATE}
use Rattle.rb_shadow.specs.Operations.{is_cancelled, bal, red_count, find_in, may_be_cancelled, is_red, target_of}
use Rattle.rb_shadow.specs.Operations.{blue_count, clock_of, number_of, colour_in}
use Rattle.rb_shadow.specs.Sound.{limit_of}
use Rattle.rb_shadow.specs.declared.colour.Colour.{Colour}
use Rattle.rb_shadow.specs.declared.colour.Colour.TheVariants.{Blue as BlueColour, Red as RedColour}
use Rattle.rb_shadow.specs.declared.kind.Kind.{Kind}
use Rattle.rb_shadow.specs.declared.kind.Kind.TheVariants.{Deposit, Withdraw, Declined, Interest, Cancel, Transfer}
use Rattle.rb_shadow.specs.declared.op_name.OpName.{OpName}
use Rattle.rb_shadow.specs.declared.op_name.OpName.TheVariants.{Blue, Red}
use Rattle.rb_shadow.specs.declared.shadow.Shadow.{Shadow}
use Rattle.rb_ledger.specs.Checks.{overdraws}
use Rattle.rb_ledger.specs.Valid.{first_cancel_from}
use Rattle.rb_scratch.specs.declared.request.Request.{Request}
use Rattle.rb_scratch.specs.declared.request.Request.TheVariants.{Deposit as AskDeposit, Withdraw as AskWithdraw, Interest as AskInterest}
use Rattle.rb_scratch.specs.declared.request.Request.TheVariants.{Cancel as AskCancel, Transfer as AskTransfer}
use Rattle.rb_token.specs.Token.{Token, refusal_of_red}

-- what a request would make: its account, its amount and its kind
pub record Plan : Type 0 where
  pub account : Place
  pub amount : ℕ
  pub kind : Kind

-- the kind of an operation that takes from an account: the one asked for if the balance covers it, and else declined
abbrev pub if_covered : Settings → List Shadow → Place → ℕ → Kind → Kind
if_covered s us a n k = if int_lt (bal s us a) (pos n) then Declined else k

-- an account's interest by the balances: the floor of its balance's share, the rate in basis points
abbrev pub interest_on : (Place → ℤ) → Place → ℕ → ℕ
interest_on b a rate = interest (cents (b a)) rate

-- what a request would make at a site that applied us
unfoldable pub plan_of : Settings → List Shadow → Request → Result Plan Refusal
plan_of s us (AskDeposit a n) =
    if not (is_account s a) then Err UnknownAccount
    else if not (is_amount n) then Err BadAmount
    else Ok (record { account = a; amount = n; kind = Deposit })
plan_of s us (AskWithdraw a n) =
    if not (is_account s a) then Err UnknownAccount
    else if not (is_amount n) then Err BadAmount
    else Ok (record { account = a; amount = n; kind = if_covered s us a n Withdraw })
plan_of s us (AskInterest a rate) =
    if not (is_account s a) then Err UnknownAccount
    else if nat_lt MOST_RATE rate then Err BadRate
    else if nat_lt MOST_CENTS (interest_on (bal s us) a rate) then Err DeltaTooLarge
    else Ok (record { account = a; amount = interest_on (bal s us) a rate; kind = Interest })
plan_of s us (AskCancel x) =
    unless (λ t.
    if not (may_be_cancelled t.kind) then Err NotCancellable
    else if is_cancelled us x then Err (AlreadyCancelled (first_cancel_from 1 us x))
    else Ok (record { account = t.account; amount = t.amount; kind = Cancel x }))
    (find_in us x) (Err UnknownOperation)
plan_of s us (AskTransfer a b n) =
    if not (is_account s a) then Err UnknownAccount
    else if not (is_account s b) then Err UnknownAccount
    else if not (is_amount n) then Err BadAmount
    else if a.0 == b.0 then Err SameAccount
    else Ok (record { account = a; amount = n; kind = if_covered s us a n (Transfer b) })

-- the next name of a colour at a site
abbrev pub next_name : ℕ → List Shadow → Colour → OpName
next_name me us BlueColour = Blue me (blue_count us me + 1)
next_name me us RedColour = Red (red_count us + 1)

-- what the plan makes at a site that applied us: the past is what it has applied
unfoldable pub operation_of : ℕ → List Shadow → Plan → Shadow
operation_of me us p =
    record {
      name = next_name me us (colour_in us p.kind);
      home = me;
      deps = clock_of us;
      account = p.account;
      amount = p.amount;
      kind = p.kind;
    }

-- a red operation needs the token, and all red operations before it; a red cancellation needs the money
abbrev pub allowed_red : Settings → List Shadow → Token → Shadow → Result Shadow Refusal
allowed_red s us token v =
    unless Err (refusal_of_red token (red_count us))
    (if is_some (target_of v.kind) && overdraws s us v then Err WouldOverdraw else Ok v)

-- whether the site may make the operation: only a red one asks for more than a number
unfoldable pub allowed : Settings → List Shadow → Token → Shadow → Result Shadow Refusal
allowed s us token v =
    if nat_lt (limit_of s.limits v.name) (number_of v.name) then Err NumbersExhausted
    else if is_red v.name then allowed_red s us token v
    else Ok v

-- the operation that a request makes at a site that applied us, or why it is refused
unfoldable pub made_of : Settings → ℕ → List Shadow → Token → Request → Result Shadow Refusal
made_of s me us token r = and_then Err (plan_of s us r) (λ p. allowed s us token (operation_of me us p))

-- what a request makes at a valid list may be added to it
abbrev pub MadeIsValid : Type 0
MadeIsValid = (s : Settings) (me : ℕ) (us : List Shadow) (token : Token) (r : Request) (v : Shadow) → s.sites ≤ MOST_SITES → me < s.sites →
    IsValid s us → made_of s me us token r ≡ Ok v → IsValid s (us ++ v ∷ [])
