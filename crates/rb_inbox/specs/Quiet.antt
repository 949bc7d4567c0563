-- What is known of the held operations that wait.
use Rattle.std.specs.Prelude.{◌≡◌, List, Option, Some, None}
use Rattle.rb_shadow.specs.Operations.{Among}
use Rattle.rb_shadow.specs.declared.shadow.Shadow.{Shadow}
use Rattle.rb_inbox.specs.Held.{IsReady}
use Rattle.rb_inbox.specs.declared.quiet.Quiet.{Quiet}

-- the operation waits at the quiet clock, and so at each clock within it, unless it is the fresh one
abbrev pub IsCovered : Quiet → Shadow → Type 0
IsCovered q u = IsReady q.clock u → q.fresh ≡ Some u.name

-- all held operations wait at the quiet clock but the fresh one, if such a clock is known
abbrev pub IsQuiet : Option Quiet → List Shadow → Type 0
IsQuiet None us = Unit {0}
IsQuiet (Some q) us = (u : Shadow) → Among u us → IsCovered q u
