-- The test of equal shadows.
use Rattle.std.proofs.Common.{◌≡◌, ℕ, true, List, [], ◌∷◌, refl, ap}
use Rattle.std.proofs.lemmas.Bool.{and_from as both, and_parts as each}
use Rattle.std.specs.Cmp.Lexicographic.{pointwise}
use Rattle.std.specs.Prelude.{nat_eq}
use Rattle.rb_money.proofs.Public.Tests.{number_same, number_sound, same_place}
use Rattle.rb_shadow.specs.declared.op_name.OpName.{OpName}
use Rattle.rb_shadow.specs.declared.kind.Kind.{Kind}
use Rattle.rb_shadow.specs.declared.kind.Kind.TheVariants.{Deposit, Withdraw, Declined, Interest, Cancel, Transfer}
use Rattle.rb_shadow.specs.declared.shadow.Shadow.{Shadow}
use Rattle.rb_shadow.specs.Operations.{same_kind, same_shadow}
use Rattle.rb_shadow.proofs.Public.Members

-- numbers are the same as themselves
pub same_numbers-refl : (ns : List ℕ) → pointwise nat_eq ns ns ≡ true
same_numbers-refl [] = refl
same_numbers-refl (n ∷ ns) = both _ _ (number_same n) (same_numbers-refl ns)

-- numbers that are the same are equal
pub same_numbers-true : (ms ns : List ℕ) → pointwise nat_eq ms ns ≡ true → ms ≡ ns
same_numbers-true [] [] h = refl
same_numbers-true [] (n ∷ ns) h = cc
same_numbers-true (m ∷ ms) [] h = cc
same_numbers-true (m ∷ ms) (n ∷ ns) h =
    let (first, rest) = each _ _ h in
    let e : m ≡ n = number_sound m n first in
    let k : ms ≡ ns = same_numbers-true ms ns rest in
    cc

-- a kind is the same as itself
pub same_kind-refl : (k : Kind) → same_kind k k ≡ true
same_kind-refl (Cancel x) = Members.same_name-refl x
same_kind-refl (Transfer a) = number_same a.0
same_kind-refl _ = refl

-- kinds that are the same are equal
pub same_kind-true : (j k : Kind) → same_kind j k ≡ true → j ≡ k
same_kind-true Deposit Deposit h = refl
same_kind-true Withdraw Withdraw h = refl
same_kind-true Declined Declined h = refl
same_kind-true Interest Interest h = refl
same_kind-true (Cancel x) (Cancel y) h = ap Cancel (Members.same_name-true x y h)
same_kind-true (Transfer a) (Transfer b) h = ap Transfer (same_place a b (number_sound a.0 b.0 h))
same_kind-true _ _ h = cc

-- a shadow is the same as itself
pub same_shadow-refl : (v : Shadow) → same_shadow v v ≡ true
unfolding same_shadow
same_shadow-refl v =
    both _ _ (both _ _ (both _ _ (both _ _ (both _ _ (both _ _
    (Members.same_name-refl v.name) (number_same v.home)) (same_numbers-refl v.deps.blue)) (number_same v.deps.red))
    (number_same v.account.0)) (number_same v.amount)) (same_kind-refl v.kind)

-- a shadow by its fields
abbrev of_fields : OpName → ℕ → List ℕ → ℕ → ℕ → ℕ → Kind → Shadow
of_fields name home blue red account amount kind = record {
  name = name;
  home = home;
  deps = record { blue = blue; red = red };
  account = record { 0 = account };
  amount = amount;
  kind = kind;
}

same_fields : (x y : OpName) (i j : ℕ) (ms ns : List ℕ) (m n a b c d : ℕ) (k l : Kind) → x ≡ y → i ≡ j → ms ≡ ns → m ≡ n → a ≡ b → c ≡ d →
    k ≡ l → of_fields x i ms m a c k ≡ of_fields y j ns n b d l
same_fields x y i j ms ns m n a b c d k l e1 e2 e3 e4 e5 e6 e7 = cc

-- shadows that are the same are equal
pub same_shadow-true : (u v : Shadow) → same_shadow u v ≡ true → u ≡ v
unfolding same_shadow
same_shadow-true u v h =
    let (h6, kind) = each _ _ h in
    let (h5, amount) = each _ _ h6 in
    let (h4, account) = each _ _ h5 in
    let (h3, red) = each _ _ h4 in
    let (h2, blue) = each _ _ h3 in
    let (name, home) = each _ _ h2 in
    same_fields _ _ _ _ _ _ _ _ _ _ _ _ _ _
    (Members.same_name-true u.name v.name name) (number_sound u.home v.home home) (same_numbers-true u.deps.blue v.deps.blue blue)
    (number_sound u.deps.red v.deps.red red) (number_sound u.account.0 v.account.0 account) (number_sound u.amount v.amount amount)
    (same_kind-true u.kind v.kind kind)
