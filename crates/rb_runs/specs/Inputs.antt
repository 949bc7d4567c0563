-- The input of an audit by its lines: a configuration and the histories of its sites, or the first line that is bad.
use Rattle.std.specs.Prelude.{ℕ, zero, suc, ◌+◌, List, [], ◌∷◌, ◌++◌, Result, Ok, Err, replicate, if◌then◌else◌}
use Rattle.std.specs.Option.{option_map_or}
use Rattle.rb_money.specs.Settings.{Settings}
use Rattle.rb_site.specs.declared.entry.Entry.{Entry}
use Rattle.rb_history.specs.Configurations.{config_on}
use Rattle.rb_history.specs.Entries.{entry_on}
use Rattle.rb_lines.specs.Lines.{is_blank, is_long}
use Rattle.rb_lines.specs.declared.fault.ScriptFault.{ScriptFault}
use Rattle.rb_lines.specs.declared.fault.ScriptFault.TheVariants.{NoConfig, BadConfig, BadLine, LongLine}

-- a configuration, and the history of each of its sites
pub record Input : Type 0 where
  pub settings : Settings
  pub histories : List (List Entry)

-- the histories with an entry more at the end of this site's
abbrev pub with_entry : ℕ → Entry → List (List Entry) → List (List Entry)
with_entry site x [] = []
with_entry zero x (h ∷ hs) = (h ++ x ∷ []) ∷ hs
with_entry (suc n) x (h ∷ hs) = h ∷ with_entry n x hs

-- the input, if these lines, the first of which is line n, come after those of these histories
abbrev pub input_after : Settings → List (List Entry) → ℕ → List (List ℕ) → Result Input ScriptFault
input_after s hs n [] = Ok (record { settings = s; histories = hs })
input_after s hs n (l ∷ ls) = if is_long l then Err (LongLine n) else (if is_blank l then input_after s hs (n + 1) ls
    else option_map_or (λ (x : ℕ × Entry). input_after s (with_entry x.0 x.1 hs) (n + 1) ls) (entry_on s l) (Err (BadLine n)))

-- the first line that isn't skipped is the configuration, and entries follow: at first no site has any
abbrev pub input_from : ℕ → List (List ℕ) → Result Input ScriptFault
input_from n [] = Err NoConfig
input_from n (l ∷ ls) = if is_long l then Err (LongLine n) else (if is_blank l then input_from (n + 1) ls
    else option_map_or (λ s. input_after s (replicate s.sites []) (n + 1) ls) (config_on l) (Err (BadConfig n)))

-- what these lines say
abbrev pub input_of : List (List ℕ) → Result Input ScriptFault
input_of ls = input_from 1 ls
