-- A site over a file of the operating system: why no run began.
use Rattle.std.proofs.Common.{Bool, Err, refl}
use Rattle.rb_journal.specs.Disk.{IsAskedFor}
use Rattle.rb_journal.specs.declared.open_error.OpenError.{OpenError}
use Rattle.rbbank.specs.OnDisk.{IsUnopened, fault_of_open}

-- a run whose file isn't opened ends in the fault of the error
pub unopened : (is_new : Bool) (error : OpenError) → IsAskedFor is_new error → IsUnopened is_new (Err (fault_of_open error))
unopened is_new error asked = record { error = error; asked = asked; fault = refl }
