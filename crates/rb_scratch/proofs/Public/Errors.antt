-- Facts of the one error that `?` passes on.
use Rattle.std.proofs.Common.{◌≡◌, Ok, Err, ap, sym, subst}
use Rattle.std.specs.Prelude.{Result, MatchResult, IfErr}
use Rattle.std.specs.Result.{IsErrAnd}

-- a result that can only be this error has what holds of it
pub passed_on : {T E : Type 0} (r : Result T E) (P : T → Type 0) (Q : E → Type 0) (why : E) → IsErrAnd r (λ y. y ≡ why) → Q why →
    MatchResult r P Q
passed_on (Ok x) P Q why h q = absurd h
passed_on (Err y) P Q why h q = subst Q (sym h) q

abbrev failed : {T E : Type 0} → E → Result T E
failed why = Err why

-- it is this error
pub error_is : {T E : Type 0} (r : Result T E) (why : E) → IsErrAnd r (λ y. y ≡ why) → r ≡ Err why
error_is (Ok x) why h = absurd h
error_is (Err y) why h = ap failed h

-- the same of what is said of an error alone
pub if_passed_on : {T E : Type 0} (r : Result T E) (Q : E → Type 0) (why : E) → IsErrAnd r (λ y. y ≡ why) → Q why → IfErr r Q
if_passed_on (Ok x) Q why h q = tt
if_passed_on (Err y) Q why h q = subst Q (sym h) q
