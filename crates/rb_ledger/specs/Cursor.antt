-- The parts that a rewound ledger keeps.
use Rattle.std.specs.Prelude.{◌≡◌, ℕ, ◌+◌, ◌≤◌, List, length, take}
use Rattle.rb_money.specs.Settings.{Settings}
use Rattle.rb_shadow.specs.declared.shadow.Shadow.{Shadow}
use Rattle.rb_undo.specs.Log.{Log}
use Rattle.rb_ledger.specs.declared.marks.Links.{Links}
use Rattle.rb_ledger.specs.declared.index.Index.{Index}
use Rattle.rb_ledger.specs.Valid.{IsValid}
use Rattle.rb_ledger.specs.Records.{records_of}
use Rattle.rb_ledger.specs.Index.{AreLinks, IsIndex}

-- the list and its links are whole; the index and the log are those of the first n operations, and the log has spare
-- capacity for the records of the others
pub record IsAt (s : Settings) (us : List Shadow) (n : ℕ) (ls : List Links) (x : Index) (l : Log) : Type 0 where
  pub valid : IsValid s us
  pub within : n ≤ length us
  pub links : AreLinks s us ls
  pub index : IsIndex s (take n us) x
  pub records : l.parts ≡ records_of s (take n us)
  pub room : length us ≤ n + l.room
