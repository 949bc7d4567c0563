-- Tests that are true exactly of equal things.
use Rattle.std.proofs.Common.{◌≡◌, Bool, true, ap, sym, ◌∙◌}
use Rattle.std.specs.Prelude.{◌↔◌, IsTrue}

-- a test is exact if it is true of equal things, and of no others
pub exact_if : {A : Type 0} (test : A → A → Bool) → ((x y : A) → test x y ≡ true → x ≡ y) → ((x : A) → test x x ≡ true) → (x y : A) →
    IsTrue (test x y) ↔ (x ≡ y)
exact_if test sound same x y = (sound x y, λ e. ap (test x) (sym e) ∙ same x)
