-- The text written for an input is read as it.
use Rattle.rb_runs.proofs.Words.{◌≡◌, ◌+◌, ◌==◌, ℕ, Bool, true, false, List, [], ◌∷◌, ◌++◌, Some, Ok, codes, refl, sym, ap, ◌∙◌}
use Rattle.rb_runs.proofs.Words.{append_assoc, inl, inr, map, not, option_map, replicate, list_all, onto_first, is_utf8, and_parts}
use Rattle.rb_runs.proofs.Words.{not-true, compact_text, IsConfigured, Settings, Entry, config_at, ConfigsAreRead, config_json}
use Rattle.rb_runs.proofs.Words.{asked_entry_json, entry_of_line, Each, EntriesAreRead, AskedEntry, IsAsked, IsIdOrNone, ConfigsAreLines}
use Rattle.rb_runs.proofs.Words.{EntriesAreLines, IsOneLine, is_long, lines_of, input_after, input_of, with_entry, HasShortLines}
use Rattle.rb_runs.proofs.Words.{InputsAreReadBack, IsWritable, by_site, entries_text, with_entries}
use Rattle.rb_history.specs.Configurations.{config_on}
use Rattle.rb_history.specs.Entries.{entry_on}
use Rattle.rb_runs.proofs.Taken.{takes_config, takes_entry}

-- a line without a line feed in it is the first, once it has one after it
step : (t : Bool) (b : ℕ) (l rest : List ℕ) → (b == 10) ≡ t → not t ≡ true → lines_of (l ++ 10 ∷ rest) ≡ l ∷ lines_of rest
    → lines_of (b ∷ (l ++ 10 ∷ rest)) ≡ (b ∷ l) ∷ lines_of rest
step true b l rest e h more = absurd (cc)
step false b l rest e h more = rw e (ap (onto_first b) more)

cut : (l rest : List ℕ) → list_all (λ b. not (b == 10)) l ≡ true → lines_of (l ++ 10 ∷ rest) ≡ l ∷ lines_of rest
cut [] rest h = refl
cut (b ∷ l) rest h = let p = and_parts (not (b == 10)) (list_all (λ b. not (b == 10)) l) h in
    step (b == 10) b l rest refl p.0 (cut l rest p.1)

-- a line that was written with its line feed is the first
pub first_cut : (l rest : List ℕ) → IsOneLine l → lines_of ((l ++ codes "\n") ++ rest) ≡ l ∷ lines_of rest
first_cut l rest one = ap lines_of (append_assoc l (codes "\n") rest) ∙ cut l rest one.no_feed

-- if no line is long, the first isn't, and none of the rest
short_first : (bytes l : List ℕ) (ls : List (List ℕ)) → lines_of bytes ≡ l ∷ ls → HasShortLines bytes
    → (is_long l ≡ false) × (list_all (λ l. not (is_long l)) ls ≡ true)
short_first bytes l ls e h =
    let p = and_parts (not (is_long l)) (list_all (λ l. not (is_long l)) ls) (sym (ap (list_all (λ l. not (is_long l))) e) ∙ h) in
    (not-true (is_long l) p.0, p.1)

-- ---- one line of an input

-- a line that is UTF-8 is a configuration if its text is read as one
pub on_utf8_config : (l : List ℕ) (s : Settings) → is_utf8 l ≡ true → config_at l ≡ Some s → config_on l ≡ Some s
unfolding config_on
on_utf8_config l s utf8 read = rw utf8 read

on_utf8_entry : (s : Settings) (l : List ℕ) (x : ℕ × Entry) → is_utf8 l ≡ true → entry_of_line s l ≡ Some x → entry_on s l ≡ Some x
unfolding entry_on
on_utf8_entry s l x utf8 read = rw utf8 read

-- ---- entries with ids

-- the lines of entries with their ids, each with its site's number
abbrev pub asked_text : Settings → List (ℕ × AskedEntry) → List ℕ
asked_text s [] = []
asked_text s (x ∷ xs) = (compact_text (asked_entry_json s x.0 x.1) ++ codes "\n") ++ asked_text s xs

-- the line of a configuration, and those of entries of its sites with their ids
abbrev pub asked_input_text : Settings → List (ℕ × AskedEntry) → List ℕ
asked_input_text s xs = (compact_text (config_json s) ++ codes "\n") ++ asked_text s xs

-- an entry with its site, its id left out
abbrev pub without_id : ℕ × AskedEntry → ℕ × Entry
without_id x = (x.0, x.1.entry)

-- an entry that can be written, with an id that it may have
abbrev pub IsAskedWritable : Settings → ℕ × AskedEntry → Type 0
IsAskedWritable s x = IsWritable s (without_id x) × IsAsked x.1

-- an audit takes the text of a configuration and entries with ids as that configuration, and as those entries by site,
-- without their ids, unless a line is too long
abbrev pub AskedInputsAreReadBack : Type 0
AskedInputsAreReadBack = (s : Settings) → IsConfigured s → (xs : List (ℕ × AskedEntry)) → Each (IsAskedWritable s) xs
    → HasShortLines (asked_input_text s xs)
    → input_of (lines_of (asked_input_text s xs)) ≡ Ok (record { settings = s; histories = by_site s.sites (map without_id xs) })

id_or_none : (x : AskedEntry) → IsAsked x → IsIdOrNone x.id
id_or_none x h = elim h [
  | inl none ↦ inl none
  | inr p ↦ inr p.0
]

-- ---- all lines of an input

-- the line of an entry is taken as the entry, and none of the rest is long
entry_back : EntriesAreRead → EntriesAreLines → (s : Settings) → IsConfigured s → (hs : List (List Entry)) (n : ℕ) (x : ℕ × AskedEntry)
    → IsAskedWritable s x → (rest : List ℕ) → HasShortLines ((compact_text (asked_entry_json s x.0 x.1) ++ codes "\n") ++ rest)
    → (input_after s hs n (lines_of ((compact_text (asked_entry_json s x.0 x.1) ++ codes "\n") ++ rest))
    ≡ input_after s (with_entry x.0 x.1.entry hs) (n + 1) (lines_of rest)) × HasShortLines rest
entry_back read lines s c hs n x w rest short =
    let l = compact_text (asked_entry_json s x.0 x.1) in
    let one = lines s c x.0 x.1 (id_or_none x.1 w.1) in
    let first = first_cut l rest one in
    let p = short_first ((l ++ codes "\n") ++ rest) l (lines_of rest) first short in
    let is = ap (option_map without_id) (read s c x.0 x.1 w.0.0 w.0.1 w.0.2 w.1) in
    let on = on_utf8_entry s l (without_id x) one.utf8 is in
    (ap (input_after s hs n) first ∙ takes_entry s hs n l (lines_of rest) (without_id x) p.0 refl on, p.1)

-- the line of a configuration is taken as it, and none of the rest is long
config_back : ConfigsAreRead → ConfigsAreLines → (s : Settings) → IsConfigured s → (rest : List ℕ)
    → HasShortLines ((compact_text (config_json s) ++ codes "\n") ++ rest)
    → (input_of (lines_of ((compact_text (config_json s) ++ codes "\n") ++ rest))
    ≡ input_after s (replicate s.sites []) 2 (lines_of rest)) × HasShortLines rest
config_back read lines s c rest short =
    let l = compact_text (config_json s) in
    let one = lines s c in
    let first = first_cut l rest one in
    let p = short_first ((l ++ codes "\n") ++ rest) l (lines_of rest) first short in
    let on = on_utf8_config l s one.utf8 (read s c) in
    (ap input_of first ∙ takes_config 1 l (lines_of rest) s p.0 refl on, p.1)

entries_back : EntriesAreRead → EntriesAreLines → (s : Settings) → IsConfigured s → (hs : List (List Entry)) (n : ℕ) (xs : List (ℕ × Entry))
    → Each (IsWritable s) xs → HasShortLines (entries_text s xs)
    → input_after s hs n (lines_of (entries_text s xs)) ≡ Ok (record { settings = s; histories = with_entries xs hs })
entries_back read lines s c hs n [] w short = refl
entries_back read lines s c hs n (x ∷ xs) w short =
    let p = entry_back read lines s c hs n (x.0, record { id = []; entry = x.1 }) (w.0, inl refl) (entries_text s xs) short in
    p.0 ∙ entries_back read lines s c (with_entry x.0 x.1 hs) (n + 1) xs w.1 p.1

asked_back : EntriesAreRead → EntriesAreLines → (s : Settings) → IsConfigured s → (hs : List (List Entry)) (n : ℕ)
    (xs : List (ℕ × AskedEntry)) → Each (IsAskedWritable s) xs → HasShortLines (asked_text s xs)
    → input_after s hs n (lines_of (asked_text s xs)) ≡ Ok (record { settings = s; histories = with_entries (map without_id xs) hs })
asked_back read lines s c hs n [] w short = refl
asked_back read lines s c hs n (x ∷ xs) w short =
    let p = entry_back read lines s c hs n x w.0 (asked_text s xs) short in
    p.0 ∙ asked_back read lines s c (with_entry x.0 x.1.entry hs) (n + 1) xs w.1 p.1

-- what is written for an input is taken as it
pub inputs_back : ConfigsAreRead → EntriesAreRead → ConfigsAreLines → EntriesAreLines → InputsAreReadBack
inputs_back configs entries config_lines entry_lines s c xs w short =
    let p = config_back configs config_lines s c (entries_text s xs) short in
    p.0 ∙ entries_back entries entry_lines s c (replicate s.sites []) 2 xs w p.1

-- and so is what is written with ids
pub asked_inputs_back : ConfigsAreRead → EntriesAreRead → ConfigsAreLines → EntriesAreLines → AskedInputsAreReadBack
asked_inputs_back configs entries config_lines entry_lines s c xs w short =
    let p = config_back configs config_lines s c (asked_text s xs) short in
    p.0 ∙ asked_back entries entry_lines s c (replicate s.sites []) 2 xs w p.1
