-- The red token.
use Rattle.std.specs.Prelude.{ℕ, ◌+◌, Bool, true, false, if◌then◌else◌, not, ◌||◌, nat_le, nat_lt, ◌==◌, max, Option, Some, None}
use Rattle.rb_money.specs.declared.limits.Limits.{Limits}
use Rattle.rb_money.specs.declared.refusal.Refusal.{Refusal}
use Rattle.rb_money.specs.declared.refusal.Refusal.TheVariants.{NumbersExhausted, NeedToken, RedBehind, BadMessage, NoSite, NotYours}
use Rattle.rb_token.specs.declared.message.TokenMessage.{TokenMessage}

-- what a site knows of the token: the greatest epoch that it has seen, whether it has the token, and how many red
-- operations it needs to have applied before it makes one
pub record Token : Type 0 where
  pub epoch : ℕ
  pub held : Bool
  pub needed : ℕ

-- what a site knows at first: site 0 has the token
abbrev pub first_token : ℕ → Token
first_token me = record { epoch = 0; held = me == 0; needed = 0 }

-- what a holder sends, given the number of red operations that it applied
abbrev pub pass_message : Token → ℕ → ℕ → TokenMessage
pass_message t to reds = record { epoch = t.epoch + 1; to = to; red = max t.needed reds }

-- why site `me` may not pass the token to another, in a bank with this number of sites
abbrev pub refusal_of_pass : ℕ → Limits → ℕ → Token → ℕ → Option Refusal
refusal_of_pass sites limits me t to =
    if nat_le sites to || (to == me) then Some NoSite
    else if nat_lt limits.epoch (t.epoch + 1) then Some NumbersExhausted
    else if not t.held then Some NeedToken
    else None

-- what a site knows once it sent the message
abbrev pub passed_token : Token → TokenMessage → Token
passed_token t m = record { epoch = m.epoch; held = false; needed = t.needed }

-- why a site refuses a token message
abbrev pub refusal_of_token : Limits → ℕ → TokenMessage → Option Refusal
refusal_of_token limits me m =
    if not (m.to == me) then Some NotYours
    else if nat_lt limits.epoch m.epoch || nat_lt limits.red m.red then Some (BadMessage 2)
    else None

-- the message is of an epoch that the site has seen
abbrev pub is_stale : Token → TokenMessage → Bool
is_stale t m = nat_le m.epoch t.epoch

-- what a site knows once it took the message
abbrev pub taken_token : TokenMessage → Token
taken_token m = record { epoch = m.epoch; held = true; needed = m.red }

-- why a site may not make another red operation, given the number of those that it applied
abbrev pub refusal_of_red : Token → ℕ → Option Refusal
refusal_of_red t reds =
    if not t.held then Some NeedToken
    else if nat_lt reds t.needed then Some (RedBehind reds t.needed)
    else None
