-- Claims about a failed call.
use Rattle.std.proofs.Common.{Result, Ok, Err, OnErr}

-- what holds anyway holds on an error
pub on_err : {A E : Type 0} (r : Result A E) (P : Type 0) → P → OnErr r P
on_err (Ok a) P h = tt
on_err (Err e) P h = h
