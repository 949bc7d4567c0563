-- Two shadows that are the same, field by field, are equal.
use Rattle.std.proofs.Common.{◌≡◌, Bool, true, false, ◌&&◌, refl, ap, sym, ◌∙◌}
use Rattle.std.specs.Prelude.{◌==◌, ◌↔◌, IsTrue, nat_eq}
use Rattle.std.specs.Cmp.Lexicographic.{pointwise}
use Rattle.rb_shadow.specs.contracts.op_name.OpNamePartialEq.TheImpl.{ghosts as name_test}
use Rattle.rb_shadow.specs.contracts.kind.KindPartialEq.TheImpl.{ghosts as kind_test}
use Rattle.rb_shadow.specs.contracts.shadow.ShadowPartialEq.TheImpl.{ghosts as shadow_test}
use Rattle.rb_shadow.specs.declared.op_name.OpName.{OpName}
use Rattle.rb_shadow.specs.declared.op_name.OpName.TheVariants.{Blue, Red}
use Rattle.rb_shadow.specs.declared.kind.Kind.{Kind}
use Rattle.rb_shadow.specs.declared.kind.Kind.TheVariants.{Deposit, Withdraw, Declined, Interest, Cancel, Transfer}
use Rattle.rb_shadow.specs.declared.shadow.Shadow.{Shadow}
use Rattle.rb_shadow.specs.Operations.{same_name, same_kind, same_shadow}
use Rattle.rb_shadow.proofs.Public.SameShadows.{same_shadow-refl, same_shadow-true}

-- ---- the derived test

name_tested : (x y : OpName) → name_test.eq x y ≡ same_name x y
name_tested (Blue i m) (Blue j n) = refl
name_tested (Blue i m) (Red n) = refl
name_tested (Red m) (Blue j n) = refl
name_tested (Red m) (Red n) = refl

kind_tested : (j k : Kind) → kind_test.eq j k ≡ same_kind j k
kind_tested Deposit Deposit = refl
kind_tested Withdraw Withdraw = refl
kind_tested Declined Declined = refl
kind_tested Interest Interest = refl
kind_tested (Cancel x) (Cancel y) = name_tested x y
kind_tested (Transfer a) (Transfer b) = refl
kind_tested _ _ = refl

-- two ways to put seven tests together, in two orders
other_way : (a b c d e f g : Bool) → (a && (b && (e && ((c && d) && (f && g))))) ≡ (a && b && c && d && e && f && g)
other_way false b c d e f g = refl
other_way true false c d e f g = refl
other_way true true false d false f g = refl
other_way true true false d true f g = refl
other_way true true true false false f g = refl
other_way true true true false true f g = refl
other_way true true true true false f g = refl
other_way true true true true true false g = refl
other_way true true true true true true g = refl

-- the derived test is that of the fields
pub tests_fields : (u v : Shadow) → shadow_test.eq u v ≡ same_shadow u v
unfolding same_shadow
tests_fields u v =
    other_way (name_test.eq u.name v.name) (u.home == v.home) (pointwise nat_eq u.deps.blue v.deps.blue) (u.deps.red == v.deps.red)
    (u.account.0 == v.account.0) (u.amount == v.amount) (kind_test.eq u.kind v.kind)
    ∙ ap (λ b. b && (u.home == v.home) && pointwise nat_eq u.deps.blue v.deps.blue && (u.deps.red == v.deps.red)
    && (u.account.0 == v.account.0) && (u.amount == v.amount) && kind_test.eq u.kind v.kind) (name_tested u.name v.name)
    ∙ ap (λ b. same_name u.name v.name && (u.home == v.home) && pointwise nat_eq u.deps.blue v.deps.blue && (u.deps.red == v.deps.red)
    && (u.account.0 == v.account.0) && (u.amount == v.amount) && b) (kind_tested u.kind v.kind)

-- so it is true exactly if the shadows are equal
pub same_means : (b : Bool) (u v : Shadow) → b ≡ same_shadow u v → IsTrue b ↔ (u ≡ v)
same_means b u v h = (λ e. same_shadow-true u v (sym h ∙ e), λ e. h ∙ ap (same_shadow u) (sym e) ∙ same_shadow-refl u)
