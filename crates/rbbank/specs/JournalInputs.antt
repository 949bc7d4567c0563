-- Journals of sites as inputs: an audit takes one, and the sealed ones of a bank are its books.
use Rattle.std.specs.Prelude.{◌≡◌, ◌⊎◌, ℕ, ◌+◌, List, [], ◌∷◌, map, replicate, slice_set, Some, Ok}
use Rattle.rb_money.specs.Settings.{IsConfigured, Settings}
use Rattle.rb_history.specs.Fits.{Each}
use Rattle.rb_journal.specs.Lines.{at_rest, sealed}
use Rattle.rb_lines.specs.Lines.{lines_of}
use Rattle.rb_node.specs.Asked.{SeenAsked, entries_alone}
use Rattle.rb_node.specs.Replays.{IsReadWhole}
use Rattle.rb_run_site.specs.Journals.{journal_of}
use Rattle.rb_runs.specs.InputLaws.{HasShortLines}
use Rattle.rb_runs.specs.Inputs.{Input, input_of}
use Rattle.rb_runs.specs.JournalFiles.{books_in}

-- ---- an audit

-- the file is the journal of this site as a run leaves it, or sealed
abbrev pub IsJournalFile : SeenAsked → List ℕ → Type 0
IsJournalFile x file = (file ≡ at_rest (journal_of x)) ⊎ (file ≡ sealed (journal_of x))

-- the settings and the history of a site, the ids left out, as an input: no other site has an entry
abbrev pub input_of_site : SeenAsked → Input
input_of_site x = record {
  settings = x.settings;
  histories = slice_set (replicate x.settings.sites []) x.me (entries_alone x.asked);
}

-- an audit takes the journal of a site as the site's settings and history, unless a line is too long
abbrev pub JournalsAreInputs : Type 0
JournalsAreInputs = (x : SeenAsked) → IsConfigured x.settings → IsReadWhole x → (file : List ℕ) → IsJournalFile x file
    → HasShortLines file → input_of (lines_of file) ≡ Ok (input_of_site x)

-- ---- the books

-- these are the sites from this number on, in order and up to the last, of a bank of these settings
abbrev pub AreSitesFrom : ℕ → Settings → List SeenAsked → Type 0
AreSitesFrom n s [] = n ≡ s.sites
AreSitesFrom n s (x ∷ xs) = (x.me ≡ n) × (x.settings ≡ s) × AreSitesFrom (n + 1) s xs

-- the files of the sites' journals, sealed
abbrev pub sealed_files : List SeenAsked → List (List ℕ)
sealed_files xs = map (λ x. sealed (journal_of x)) xs

-- closing the books takes the sealed journals of all sites of a bank as its settings and their histories, unless a line
-- is too long
abbrev pub SealedJournalsAreBooks : Type 0
SealedJournalsAreBooks = (s : Settings) → IsConfigured s → (xs : List SeenAsked) → AreSitesFrom 0 s xs → Each IsReadWhole xs
    → Each HasShortLines (sealed_files xs)
    → books_in (sealed_files xs) ≡ Ok (Some (record { settings = s; histories = map (λ x. entries_alone x.asked) xs }))
