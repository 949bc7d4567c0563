-- Histories that are read entry by entry.
use Rattle.std.specs.Prelude.{◌≡◌, ℕ, List, ◌++◌, Some, slice_get, slice_set}
use Rattle.rb_money.specs.Settings.{Settings}
use Rattle.rb_site.specs.declared.entry.Entry.{Entry}

-- a configuration, and the entries of each of its sites so far
pub record Audited : Type 0 where
  pub settings : Settings
  pub histories : List (List Entry)

-- more entries at the end of this site's
pub record HasMore (old new : Audited) (site : ℕ) (xs : List Entry) : Type 0 where
  pub history : List Entry
  pub there : slice_get old.histories site ≡ Some history
  pub is : new ≡ record old { histories = slice_set old.histories site (history ++ xs) }
