-- The text that is written for a configuration or for an entry is one line.
use Rattle.std.specs.Prelude.{◌≡◌, ◌==◌, ℕ, List, true, not}
use Rattle.std.specs.List.{list_all}
use Rattle.std.specs.Str.{is_utf8}
use Rattle.serde_json.specs.Written.{compact_text}
use Rattle.rb_money.specs.Settings.{IsConfigured, Settings}
use Rattle.rb_history.specs.ConfigLines.{config_json}
use Rattle.rb_history.specs.Entries.{asked_entry_json}
use Rattle.rb_history.specs.Ids.{AskedEntry, IsIdOrNone}

-- UTF-8, and no byte of it is a line feed
pub record IsOneLine (l : List ℕ) : Type 0 where
  pub utf8 : is_utf8 l ≡ true
  pub no_feed : list_all (λ b. not (b == 10)) l ≡ true

-- what is written for each configuration is one line
abbrev pub ConfigsAreLines : Type 0
ConfigsAreLines = (s : Settings) → IsConfigured s → IsOneLine (compact_text (config_json s))

-- what is written for each entry is one line, whatever it is an entry of, with an id or without
abbrev pub EntriesAreLines : Type 0
EntriesAreLines = (s : Settings) → IsConfigured s → (site : ℕ) (x : AskedEntry) → IsIdOrNone x.id
    → IsOneLine (compact_text (asked_entry_json s site x))
