-- The choice that a test makes.
use Rattle.std.proofs.Common.{◌≡◌, Bool, true, false, refl}
use Rattle.std.specs.Prelude.{if◌then◌else◌}

-- if the test is true, the first is chosen
pub first_chosen : {A : Type 0} (b : Bool) (x y : A) → b ≡ true → (if b then x else y) ≡ x
first_chosen true x y is = refl
first_chosen false x y is = absurd (cc)
