-- The lines of entries are lines of a journal.
use Rattle.std.proofs.Common.{◌≡◌, ◌==◌, not, ℕ, Bool, true, false, cond, List, [], ◌∷◌, ◌++◌, refl, subst, ap, ◌∙◌, get_or, inl}
use Rattle.std.specs.Prelude.{◌≢◌, All, map, slice_index}
use Rattle.std.specs.List.{concat, flat_map, list_all}
use Rattle.std.proofs.lemmas.List.Sums.{AllPass-from_list_all}
use Rattle.serde_json.specs.Written.{compact_text}
use Rattle.rb_money.specs.Settings.{IsConfigured, Settings}
use Rattle.rb_site.specs.declared.entry.Entry.{Entry}
use Rattle.rb_history.specs.ConfigLines.{config_json}
use Rattle.rb_history.specs.Entries.{asked_entry_json}
use Rattle.rb_history.specs.Fits.{Each}
use Rattle.rb_history.specs.Ids.{AskedEntry, IsIdOrNone, may_be_asked}
use Rattle.rb_history.specs.OneLine.{ConfigsAreLines, EntriesAreLines, IsOneLine}
use Rattle.rb_node.specs.Asked.{with_id}
use Rattle.rb_journal.specs.Lines.{IsBatch, IsLine, recovered}
use Rattle.rb_journal.proofs.Public.Lines.{both_lines, line_alone, lines-append, still_lines}

apart : (b : ℕ) → b ≡ 10 → not (b == 10) ≡ true → ⊥
apart b is other = absurd (cc (subst (λ n. not (n == 10) ≡ true) is other))

no_feed : (l : List ℕ) → list_all (λ b. not (b == 10)) l ≡ true → All (λ b. b ≢ 10) l
no_feed l h = λ k d below is. apart (get_or l k d) is (AllPass-from_list_all (λ b. not (b == 10)) l h k d below)

-- a text without line feeds that begins with a brace is a line
pub line_from : (l : List ℕ) → slice_index l 0 ≡ 123 → IsOneLine l → IsLine l
line_from l begins one = record { begins = begins; one = no_feed l one.no_feed }

-- the line of an entry is a line
pub entry_is_line : EntriesAreLines → (s : Settings) → IsConfigured s → (me : ℕ) (x : AskedEntry) → IsIdOrNone x.id
    → IsLine (compact_text (asked_entry_json s me x))
entry_is_line are s ok me x id = line_from (compact_text (asked_entry_json s me x)) refl (are s ok me x id)

-- the line of a configuration is a line
pub config_is_line : ConfigsAreLines → (s : Settings) → IsConfigured s → IsLine (compact_text (config_json s))
config_is_line are s ok = line_from (compact_text (config_json s)) refl (are s ok)

-- an entry's line with its line feed
abbrev pub fed : Settings → ℕ → AskedEntry → List ℕ
fed s me x = compact_text (asked_entry_json s me x) ++ 10 ∷ []

-- each of these entries has an id or none
abbrev pub HaveIds : List AskedEntry → Type 0
HaveIds xs = Each (λ (x : AskedEntry). IsIdOrNone x.id) xs

-- the entries of a request and of what was applied after it have its id or none
pub ids_had : (id : List ℕ) (xs : List Entry) → IsIdOrNone id → HaveIds (map (with_id id) xs)
ids_had id [] is = tt
ids_had id (x ∷ xs) is = (by (may_be_asked x), ids_had id xs is)
  where
    by : (b : Bool) → IsIdOrNone (cond b id [])
    by true = is
    by false = inl refl

-- the lines of entries are a batch of just those lines
pub record AreTheirs (s : Settings) (me : ℕ) (xs : List AskedEntry) : Type 0 where
  pub batch : IsBatch (flat_map (fed s me) xs)
  pub lines : recovered (flat_map (fed s me) xs) ≡ map (fed s me) xs

-- so it is with any entries under a configuration, if what is written for each entry is one line
pub are_theirs : EntriesAreLines → (s : Settings) → IsConfigured s → (me : ℕ) (xs : List AskedEntry) → HaveIds xs
    → AreTheirs s me xs
are_theirs are s ok me [] ids = record { batch = refl; lines = refl }
are_theirs are s ok me (x ∷ xs) ids =
    let is = entry_is_line are s ok me x ids.0 in
    let later = are_theirs are s ok me xs ids.1 in
    let one : IsBatch (fed s me x) = still_lines [] (compact_text (asked_entry_json s me x)) refl is in
    record {
      batch = both_lines (fed s me x) (flat_map (fed s me) xs) one later.batch;
      lines = lines-append (fed s me x) (flat_map (fed s me) xs) one
          ∙ ap (λ ls. ls ++ recovered (flat_map (fed s me) xs)) (line_alone (compact_text (asked_entry_json s me x)) is)
          ∙ ap (λ ls. fed s me x ∷ ls) later.lines;
    }

-- the lines of a list of lines, joined, are its bytes
pub joined_lines : (s : Settings) (me : ℕ) (xs : List AskedEntry) → concat (map (fed s me) xs) ≡ flat_map (fed s me) xs
joined_lines s me [] = refl
joined_lines s me (x ∷ xs) = ap (λ l. fed s me x ++ l) (joined_lines s me xs)
