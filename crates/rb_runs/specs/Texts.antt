-- The text of histories: the configuration's line, and then the lines of their entries, site by site.
use Rattle.std.specs.Prelude.{ℕ, ◌+◌, List, [], ◌∷◌, ◌++◌, codes, flat_map}
use Rattle.serde_json.specs.Written.{compact_text}
use Rattle.rb_money.specs.Settings.{Settings}
use Rattle.rb_site.specs.declared.entry.Entry.{Entry}
use Rattle.rb_history.specs.ConfigLines.{config_json}
use Rattle.rb_history.specs.Entries.{entry_json}

-- the configuration's line, with its line feed
unfoldable pub config_line : Settings → List ℕ
config_line s = compact_text (config_json s) ++ codes "\n"

-- the line of an entry of a site's history, with its line feed
unfoldable pub entry_line : Settings → ℕ → Entry → List ℕ
entry_line s site x = compact_text (entry_json s site x) ++ codes "\n"

-- the lines of a site's history
abbrev pub history_text : Settings → ℕ → List Entry → List ℕ
history_text s site h = flat_map (entry_line s site) h

-- the lines of the histories of the sites from this one on
abbrev pub histories_text : Settings → ℕ → List (List Entry) → List ℕ
histories_text s site [] = []
histories_text s site (h ∷ hs) = history_text s site h ++ histories_text s (site + 1) hs

-- the lines of a configuration and of the histories of all its sites
abbrev pub text_of : Settings → List (List Entry) → List ℕ
text_of s hs = config_line s ++ histories_text s 0 hs
