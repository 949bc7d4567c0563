-- Words that ask for a task with the lines of files, in their usual spelling, are taken, and read as what they ask for.
use Rattle.std.proofs.Common.{◌≡◌, ◌∙◌, ◌≤◌, ℕ, codes, false, refl, ap, arith, List, [], ◌∷◌, length, Some, None}
use Rattle.std.specs.Prelude.{fold}
use Rattle.clap.specs.Lexer.{usize_max}
use Rattle.clap.specs.Faults.{check_fault, defaults_fault, level_fault, step_fault, turn_fault}
use Rattle.clap.specs.Simple.{Shape, filled, with_index}
use Rattle.clap.specs.Walk.{Text, after_step, idle, nothing_held, rows_after, used, with_default}
use Rattle.clap.proofs.OnLiterals.{clap_on_literals}
use Rattle.rb_cli.specs.Words.{AreValues, files_line, files_rule, texts_at}
use Rattle.rb_cli.proofs.Behind.{leaves_behind}
use Rattle.rb_cli.proofs.GivenOptions.{Leaves, at, both_none, no_flag, no_flag_fault, takes_walked}
use Rattle.rb_cli.proofs.Reading.{leaf}
use Rattle.rb_cli.proofs.Spelled.{is_plain}

-- the command takes these files, and reads them as themselves
pub record TakesFiles (s : Shape) (files : List Text) : Type 0 where
  pub fault : level_fault s [] nothing_held files false [] ≡ []
  pub are : texts_at (codes "files") (rows_after s.rules [] files) ≡ files

-- the row of the files is the last one, and they are what is read of it
record Ends (s : Shape) (most : ℕ) (files : List Text) : Type 0 where
  defaults : defaults_fault (used (with_index 1 (filled (files_rule most))) files []) s.rules ≡ []
  checks : check_fault s (fold with_default (used (with_index 1 (filled (files_rule most))) files []) s.rules) false ≡ []
  are : texts_at (codes "files") (fold with_default (used (with_index 1 (filled (files_rule most))) files []) s.rules) ≡ files

taken : (s : Shape) (most : ℕ) (files : List Text) → Ends s most files
    → Leaves s files (used (with_index 1 (filled (files_rule most))) files []) → TakesFiles s files
taken s most files end leaves =
    let takes = takes_walked s _ _ leaves end.defaults in
    record { fault = takes.0 end.checks; are = ap (texts_at (codes "files")) takes.1 ∙ end.are }

-- no file is taken, or one after the command's name, which is read as itself
pub file_taken : (name : Text) (files : List Text) → AreValues files → length files ≤ 1 → TakesFiles (leaf (files_line name 1)) files
unfolding clap_on_literals
file_taken name [] values few = record { fault = refl; are = refl }
file_taken name (file ∷ []) values few =
    let s = leaf (files_line name 1) in
    let h = (at [] None).held in
    let plain = is_plain file values.0 in
    let turn : turn_fault s [] (at [] None) file ≡ [] =
    both_none _ _ (no_flag_fault s file h plain) (ap (λ met. step_fault s 1 met.0 met.1) (no_flag s.rules idle file h plain)) in
    taken s 1 (file ∷ []) (record { defaults = refl; checks = refl; are = refl }) (record {
      none = both_none _ _ turn refl;
      end = record (at [] (Some (codes "files", file ∷ []))) { position = 2 };
      ends = ap (λ met. after_step s.rules file (at [] None) met.0 met.1) (no_flag s.rules idle file h plain);
      settled = refl;
      rows_are = refl;
    })
file_taken name (file ∷ more ∷ files) values few = absurd (omega (arith, few))

-- files are taken after the command's name, and read as themselves
pub files_taken : (name : Text) (files : List Text) → AreValues files → length files ≤ usize_max
    → TakesFiles (leaf (files_line name usize_max)) files
unfolding clap_on_literals
files_taken name [] values few = record { fault = refl; are = refl }
files_taken name (file ∷ files) values few =
    let s = leaf (files_line name usize_max) in
    taken s usize_max (file ∷ files) (record { defaults = refl; checks = refl; are = refl })
    (leaves_behind s (codes "files") false refl refl [] file files tt refl values few)
