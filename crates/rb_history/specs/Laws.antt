-- A law of all lines that are read.
use Rattle.std.specs.Prelude.{◌≡◌, ℕ, List, Some}
use Rattle.rb_money.specs.Settings.{IsConfigured, Settings}
use Rattle.rb_history.specs.Configurations.{config_at}

-- whatever line is read as settings, they are a configuration's
abbrev pub ReadConfigsAreConfigured : Type 0
ReadConfigsAreConfigured = (line : List ℕ) (s : Settings) → config_at line ≡ Some s → IsConfigured s
