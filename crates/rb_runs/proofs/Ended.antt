-- A line that is ended, or taken back.
use Rattle.rb_runs.proofs.Words.{◌≡◌, ◌≤◌, ℕ, List, ◌++◌, length, take, drop, take-append-drop, sym, ap, ◌∙◌, take-append-le, Settings}
use Rattle.rb_runs.proofs.Words.{in_version_2, migrated_config_line}
use Rattle.rb_runs.specs.Texts.{config_line}

-- a prefix of what begins with a list is one of the list
pub cut_back : (old new after : List ℕ) (before : ℕ) → before ≤ length old → take (length old) new ≡ old → after ≡ take before new
    → after ≡ take before old
cut_back old new after before within begins is =
    let rest = drop (length old) new in
    is ∙ ap (take before) (sym (take-append-drop (length old) new) ∙ ap (λ l. l ++ rest) begins) ∙ take-append-le before old rest within

-- a configuration's line in version 2, added to what there was
pub config_migrated : (s t : Settings) (old new line : List ℕ) → t ≡ in_version_2 s → line ≡ config_line t → new ≡ old ++ line
    → new ≡ old ++ migrated_config_line s
unfolding config_line
config_migrated s t old new line second is added = added ∙ ap (λ l. old ++ l) (is ∙ ap config_line second)
