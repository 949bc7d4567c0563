-- The bank of the uses.
use Rattle.std.specs.Prelude.{ℕ, List, [], ◌∷◌, codes, Option, option_map, slice_get}
use Rattle.rb_money.specs.Amounts.{cents}
use Rattle.rb_money.specs.Settings.{Settings}
use Rattle.rb_money.specs.declared.limits.TheConstants.{MOST_BLUE, MOST_RED, MOST_INBOX, MOST_HISTORY, MOST_EPOCH}
use Rattle.rb_money.specs.declared.place.Place.{Place}
use Rattle.rb_shadow.specs.Operations.{bal}
use Rattle.rb_shadow.specs.declared.op_name.OpName.TheVariants.{Blue, Red}
use Rattle.rb_scratch.specs.declared.request.Request.TheVariants.{Deposit, Withdraw, Cancel}
use Rattle.rb_site.specs.declared.event.Event.TheVariants.{Submit, Batch, Apply}
use Rattle.rb_site.specs.declared.world_event.WorldEvent.{WorldEvent}
use Rattle.rb_site.specs.declared.world_event.WorldEvent.TheVariants.{At, Deliver}
use Rattle.rb_world.specs.Laws.{SeenWorld, next_worlds, opened}

-- two sites, one account that starts with 1,000 cents, and the largest limits
abbrev pub bank : Settings
bank = record {
  sites = 2;
  names = codes "ann" ∷ [];
  starts = 1000 ∷ [];
  limits = record { blue = MOST_BLUE; red = MOST_RED; inbox = MOST_INBOX; history = MOST_HISTORY; epoch = MOST_EPOCH };
  version = 1;
}

-- the bank's only account
abbrev pub ann : Place
ann = record { 0 = 0 }

-- the bank's world after some events
abbrev pub after : List WorldEvent → SeenWorld
after es = next_worlds (opened bank) es

-- a deposit at site 0, whose message comes to site 1 and is applied there
abbrev pub deposit_events : ℕ → List WorldEvent
deposit_events amount = At 0 (Submit (Deposit ann amount)) ∷ Deliver 1 1 ∷ At 1 (Apply (Blue 0 1)) ∷ []

-- a withdrawal at site 0, which has the token
abbrev pub withdrawal : ℕ → WorldEvent
withdrawal amount = At 0 (Submit (Withdraw ann amount))

-- the cancellation of the first red operation, at site 0
abbrev pub cancellation : WorldEvent
cancellation = At 0 (Submit (Cancel (Red 1)))

-- a deposit and a withdrawal in one batch, at site 0
abbrev pub batch : ℕ → ℕ → WorldEvent
batch deposited withdrawn = At 0 (Batch (Deposit ann deposited ∷ Withdraw ann withdrawn ∷ []))

-- what a site of a world has for an account, in cents, if there is such a site
abbrev pub balance_in : SeenWorld → ℕ → Place → Option ℕ
balance_in w site account = option_map (λ t. cents (bal w.settings t.ops account)) (slice_get w.world.sites site)
