-- Which event of a history an object is: one that a command asks for, or the arrival of a message.
use Rattle.std.specs.Prelude.{ℕ, ◌^◌, ◌==◌, Option, Some, None, codes, if◌then◌else◌, option_and_then, option_map}
use Rattle.serde_json.specs.Data.{Data}
use Rattle.serde_json.specs.Find.{get}
use Rattle.rb_money.specs.Settings.{Settings}
use Rattle.rb_shadow.specs.declared.deps.Deps.{Deps}
use Rattle.rb_shadow.specs.declared.kind.Kind.{Kind}
use Rattle.rb_shadow.specs.declared.kind.Kind.TheVariants.{Deposit as DepositKind, Withdraw as WithdrawKind, Declined as DeclinedKind}
use Rattle.rb_shadow.specs.declared.kind.Kind.TheVariants.{Interest as InterestKind, Cancel as CancelKind, Transfer as TransferKind}
use Rattle.rb_shadow.specs.declared.label.Label.{Label}
use Rattle.rb_shadow.specs.declared.label.Label.TheVariants.{Deposit, Withdraw, Declined, Interest, Cancel, Transfer}
use Rattle.rb_shadow.specs.declared.shadow.Shadow.{Shadow}
use Rattle.rb_site.specs.declared.event.Event.{Event}
use Rattle.rb_site.specs.declared.event.Event.TheVariants.{Receive}
use Rattle.rb_site.specs.declared.message.Message.TheVariants.{Shadow as ShadowMessage, Token as TokenOnItsWay}
use Rattle.rb_token.specs.declared.message.TokenMessage.{TokenMessage}
use Rattle.rb_history.specs.Commands.{event_of}
use Rattle.rb_history.specs.Requests.{place_at}
use Rattle.rb_history.specs.Values.{either, name_at, number_below, pair_of, size_of, three_of}
use Rattle.rb_history.specs.Counts.{blue_at}
use Rattle.rb_history.specs.Fields.{field, label_at}

-- what the home had applied, from the list of its blue counts, as the version has them, and its red one
abbrev pub deps_at : ℕ → Data → Option Deps
deps_at version d = option_and_then
    (λ p. option_and_then (λ blue. option_map (λ red. record { blue = blue; red = red }) (number_below (2 ^ 32) p.1))
    (blue_at version p.0)) (pair_of d)

-- a cancellation has a target as the seventh of its members, a transfer an account to which it goes, and no other kind
-- has a seventh
abbrev pub kind_of : Settings → Data → Label → Option Kind
kind_of s d Deposit = if size_of d == 6 then Some DepositKind else None
kind_of s d Withdraw = if size_of d == 6 then Some WithdrawKind else None
kind_of s d Declined = if size_of d == 6 then Some DeclinedKind else None
kind_of s d Interest = if size_of d == 6 then Some InterestKind else None
kind_of s d Cancel = if size_of d == 7 then option_map CancelKind (field (codes "target") name_at d) else None
kind_of s d Transfer = if size_of d == 7 then option_map TransferKind (field (codes "to") (place_at s) d) else None

abbrev pub kind_at : Settings → Data → Option Kind
kind_at s d = option_and_then (kind_of s d) (field (codes "kind") label_at d)

abbrev pub shadow_at : Settings → Data → Option Shadow
shadow_at s d =
    option_and_then (λ account. option_and_then
    (λ amount. option_and_then (λ deps. option_and_then (λ home. option_and_then (λ kind. option_map (λ name.
    record { name = name; home = home; deps = deps; account = account; amount = amount; kind = kind })
    (field (codes "name") name_at d))
    (kind_at s d))
    (field (codes "home") (number_below (2 ^ 8)) d))
    (field (codes "deps") (deps_at s.version) d))
    (field (codes "amount") (number_below (2 ^ 64)) d))
    (field (codes "account") (place_at s) d)

-- the token on its way, from the list of its epoch, the site that it goes to, and its red count
abbrev pub token_at : Data → Option TokenMessage
token_at d = option_and_then (λ p. option_and_then
    (λ epoch. option_and_then (λ to. option_map (λ red. record { epoch = epoch; to = to; red = red }) (number_below (2 ^ 32) p.2))
    (number_below (2 ^ 8) p.1)) (number_below (2 ^ 32) p.0)) (three_of d)

-- the event that an object is read as, by its key
abbrev pub recorded_of : Settings → Data → Option Event
recorded_of s d = either (get (codes "shadow") d) (λ v. option_map (λ made. Receive (ShadowMessage made)) (shadow_at s v))
    (either (get (codes "token") d) (λ m. option_map (λ sent. Receive (TokenOnItsWay sent)) (token_at m))
    (event_of s d))

-- an event is an object of one member
abbrev pub event_at : Settings → Data → Option Event
event_at s d = if size_of d == 1 then recorded_of s d else None
