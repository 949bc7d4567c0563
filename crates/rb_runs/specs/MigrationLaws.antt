-- The laws of what a migration keeps.
use Rattle.std.specs.Prelude.{◌≡◌, ℕ, List, Some, None, Ok}
use Rattle.serde_json.specs.Written.{compact_text}
use Rattle.rb_money.specs.Settings.{Settings, in_version_2}
use Rattle.rb_site.specs.Events.{ModelSite, after_events, replies_to_events}
use Rattle.rb_site.specs.declared.event.Event.{Event}
use Rattle.rb_history.specs.Configurations.{config_at}
use Rattle.rb_history.specs.ConfigLines.{config_json}
use Rattle.rb_history.specs.Entries.{asked_entry_json, asked_entry_of_line}
use Rattle.rb_history.specs.Ids.{AskedEntry}
use Rattle.rb_lines.specs.Lines.{lines_of}
use Rattle.rb_runs.specs.Inputs.{Input, input_of}
use Rattle.rb_runs.specs.InputLaws.{HasShortLines}
use Rattle.rb_runs.specs.Migration.{migration_of}

-- whatever a configuration's line is read as, its line in version 2 is read as the same in version 2
abbrev pub MigratedConfigsAreRead : Type 0
MigratedConfigsAreRead = (line : List ℕ) (s : Settings) → config_at line ≡ Some s
    → config_at (compact_text (config_json (in_version_2 s))) ≡ Some (in_version_2 s)

-- under whatever a configuration's line was read as: each entry that a line is, in either version, is read again from
-- its line in version 2, the same site, and the same entry with the same id
abbrev pub MigratedEntriesAreRead : Type 0
MigratedEntriesAreRead = (first : List ℕ) (s : Settings) → config_at first ≡ Some s → (line : List ℕ) (site : ℕ) (x : AskedEntry)
    → asked_entry_of_line s line ≡ Some (site, x)
    → asked_entry_of_line (in_version_2 s) (compact_text (asked_entry_json (in_version_2 s) site x)) ≡ Some (site, x)

-- a site answers a list of events in version 2 as before, and has the same state afterwards: replays are equal
pub record ReplaysAreEqual (s : Settings) (t : ModelSite) (es : List Event) : Type 0 where
  pub site : after_events (in_version_2 s) t es ≡ after_events s t es
  pub replies : replies_to_events (in_version_2 s) t es ≡ replies_to_events s t es

abbrev pub MigratedReplaysAreEqual : Type 0
MigratedReplaysAreEqual = (s : Settings) (t : ModelSite) (es : List Event) → ReplaysAreEqual s t es

-- an audit takes both texts, and as the same histories, the second under the settings in version 2, unless a line of it
-- is too long
pub record IsSameInput (input text : List ℕ) : Type 0 where
  pub taken : Input
  pub before : input_of (lines_of input) ≡ Ok taken
  pub after : HasShortLines text
      → input_of (lines_of text) ≡ Ok (record { settings = in_version_2 taken.settings; histories = taken.histories })

-- if a migration of these bytes has no fault, an audit takes the text that it writes as what it takes the bytes as,
-- in version 2
abbrev pub MigrationsAreRead : Type 0
MigrationsAreRead = (input : List ℕ) → (migration_of (lines_of input)).fault ≡ None → IsSameInput input (migration_of (lines_of input)).text
