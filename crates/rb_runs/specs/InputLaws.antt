-- The text written for a configuration and for entries of its sites is what an audit takes.
use Rattle.std.specs.Prelude.{◌≡◌, ◌<◌, ℕ, List, [], ◌∷◌, ◌++◌, Ok, true, codes, not, replicate}
use Rattle.std.specs.List.{list_all}
use Rattle.serde_json.specs.Written.{compact_text}
use Rattle.rb_money.specs.Settings.{IsConfigured, Settings}
use Rattle.rb_site.specs.declared.entry.Entry.{Entry}
use Rattle.rb_history.specs.ConfigLines.{config_json}
use Rattle.rb_history.specs.Entries.{entry_json}
use Rattle.rb_history.specs.Fits.{Each, IsEvent, IsReply}
use Rattle.rb_lines.specs.Lines.{is_long, lines_of}
use Rattle.rb_runs.specs.Inputs.{input_of, with_entry}

-- the lines of entries, each with its site's number, at these settings
abbrev pub entries_text : Settings → List (ℕ × Entry) → List ℕ
entries_text s [] = []
entries_text s (x ∷ xs) = (compact_text (entry_json s x.0 x.1) ++ codes "\n") ++ entries_text s xs

-- the line of a configuration, and those of entries of its sites
abbrev pub input_text : Settings → List (ℕ × Entry) → List ℕ
input_text s xs = (compact_text (config_json s) ++ codes "\n") ++ entries_text s xs

-- the histories, once each of these entries was added at the end of its site's
abbrev pub with_entries : List (ℕ × Entry) → List (List Entry) → List (List Entry)
with_entries [] hs = hs
with_entries (x ∷ xs) hs = with_entries xs (with_entry x.0 x.1 hs)

-- the histories that these entries make, in a world of this number of sites
abbrev pub by_site : ℕ → List (ℕ × Entry) → List (List Entry)
by_site sites xs = with_entries xs (replicate sites [])

-- an entry of a site of the configuration, whose line has all of it: `entries_are_read` of rb_history speaks of these
abbrev pub IsWritable : Settings → ℕ × Entry → Type 0
IsWritable s x = (x.0 < s.sites) × IsEvent s x.1.event × IsReply x.1.reply

-- no line of these bytes is too long
abbrev pub HasShortLines : List ℕ → Type 0
HasShortLines bytes = list_all (λ l. not (is_long l)) (lines_of bytes) ≡ true

-- an audit takes the text of a configuration and entries as that configuration, and those entries by site, unless a
-- line is too long
abbrev pub InputsAreReadBack : Type 0
InputsAreReadBack = (s : Settings) → IsConfigured s → (xs : List (ℕ × Entry)) → Each (IsWritable s) xs → HasShortLines (input_text s xs)
    → input_of (lines_of (input_text s xs)) ≡ Ok (record { settings = s; histories = by_site s.sites xs })
