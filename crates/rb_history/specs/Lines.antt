-- The answers to reading a line.
use Rattle.std.specs.Prelude.{◌≡◌, Option, Some, None, Result, Ok, Err}
use Rattle.rb_history.specs.declared.fault.LineFault.{LineFault}
use Rattle.rb_history.specs.declared.fault.LineFault.TheVariants.{Bad, OutOfMemory}

-- what the line is, or Bad if it is nothing; nothing is said of running out of memory
abbrev pub Gives : {A : Type 0} → Result A LineFault → Option A → Type 0
Gives (Ok x) meant = meant ≡ Some x
Gives (Err Bad) meant = meant ≡ None
Gives (Err OutOfMemory) meant = Unit {0}

-- the same of what the result is seen as
abbrev pub GivesAs : {A B : Type 0} → (A → B) → Result A LineFault → Option B → Type 0
GivesAs seen (Ok x) meant = meant ≡ Some (seen x)
GivesAs seen (Err Bad) meant = meant ≡ None
GivesAs seen (Err OutOfMemory) meant = Unit {0}
