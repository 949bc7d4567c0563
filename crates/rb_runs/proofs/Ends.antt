-- The effect of one line of a migration.
use Rattle.rb_runs.proofs.Words.{◌≡◌, ℕ, false, List, Some, None, refl, arith, Settings, config_on, asked_entry_on, AskedEntry, is_blank}
use Rattle.rb_runs.proofs.Words.{is_long, migrated_config_line, migrated_entry_line, migration_rest, TakesLine, makes_nothing}

-- the configuration's line is answered by its line in version 2
pub opens : (s : Settings) (l : List ℕ) → is_long l ≡ false → is_blank l ≡ false → config_on l ≡ Some s
    → TakesLine migration_rest makes_nothing None (Some s) l (migrated_config_line s) 1
opens s l short some is = record { follows = λ n ls. rw (short, some, is) refl; makes = λ n ls. refl; one = omega arith }

-- the line of an entry is answered by its line in version 2
pub answers : (s : Settings) (x : ℕ × AskedEntry) (l : List ℕ) → is_long l ≡ false → is_blank l ≡ false → asked_entry_on s l ≡ Some x
    → TakesLine migration_rest makes_nothing (Some s) (Some s) l (migrated_entry_line s x) 1
answers s x l short some is = record { follows = λ n ls. rw (short, some, is) refl; makes = λ n ls. refl; one = omega arith }
