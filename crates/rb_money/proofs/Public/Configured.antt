-- Parts with which nothing is wrong make a configuration.
use Rattle.std.proofs.Common.{◌≡◌, ℕ, List, None}
use Rattle.rb_money.specs.Faults.{Account, config_fault, settings_of}
use Rattle.rb_money.specs.Settings.{IsConfigured}
use Rattle.rb_money.specs.declared.limits.Limits.{Limits}
use Rattle.rb_money.proofs.Faults.{configured}

-- if nothing is wrong the settings are configured
pub parts_configured : (sites : ℕ) (accounts : List Account) (limits : Limits) → config_fault sites accounts limits ≡ None →
    IsConfigured (settings_of sites accounts limits)
parts_configured = configured
