-- A file of the operating system that is opened.
use Rattle.std.specs.Prelude.{◌≡◌, Bool, true, false, List}
use Rattle.std.specs.IoError.{error_kind}
use Rattle.std.specs.declared.io.ErrorKind.TheVariants.{OutOfMemory}
use Rattle.rb_journal.specs.Calls.{NotedCall}
use Rattle.rb_journal.specs.declared.disk.Disk.{Disk}
use Rattle.rb_journal.specs.declared.open_error.OpenError.{OpenError}
use Rattle.rb_journal.specs.declared.open_error.OpenError.TheVariants.{NoFile, NotEmpty, IsErrors, Failed}

-- the log of its calls
abbrev pub disk_log : {R P : Type 0} → Disk R P → List NotedCall
disk_log disk = disk.log.events

-- there is no file only if no new one was asked for, and it has bytes only if one was
abbrev pub IsAskedFor : Bool → OpenError → Type 0
IsAskedFor new NoFile = new ≡ false
IsAskedFor new NotEmpty = new ≡ true
IsAskedFor new IsErrors = Unit {0}
IsAskedFor new (Failed error) = Unit {0}

-- there was no memory
abbrev pub IsOutOfMemory : OpenError → Type 0
IsOutOfMemory (Failed error) = error_kind error ≡ OutOfMemory
IsOutOfMemory _ = ⊥
