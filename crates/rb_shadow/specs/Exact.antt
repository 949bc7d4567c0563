-- The derived tests of names and of labels are true exactly of equal ones.
use Rattle.std.specs.Prelude.{◌≡◌, ◌↔◌, true, refl, IsTrue, ◌==◌}
use Rattle.std.proofs.Common.{sym, true≢false}
use Rattle.std.proofs.lemmas.Bool.{and_from as both, and_parts as each}
use Rattle.rb_kit.proofs.Public.{exact_if}
use Rattle.rb_money.proofs.Public.Tests.{number_same, number_sound, same_place}
use Rattle.rb_money.specs.declared.place.Place.{Place}
use Rattle.rb_shadow.specs.contracts.label.LabelPartialEq.TheImpl.{ghosts as label_test}
use Rattle.rb_shadow.specs.contracts.op_name.OpNamePartialEq.TheImpl.{ghosts as name_test}
use Rattle.rb_shadow.specs.declared.label.Label.{Label}
use Rattle.rb_shadow.specs.declared.label.Label.TheVariants.{Deposit, Withdraw, Declined, Interest, Cancel, Transfer}
use Rattle.rb_shadow.specs.declared.op_name.OpName.{OpName}
use Rattle.rb_shadow.specs.declared.op_name.OpName.TheVariants.{Blue, Red}

-- equality of places
pub place_sound : (a b : Place) → (a.0 == b.0) ≡ true → a ≡ b
place_sound a b h = same_place a b (number_sound a.0 b.0 h)

-- equality of names
name_sound : (x y : OpName) → name_test.eq x y ≡ true → x ≡ y
name_sound (Blue i m) (Blue j n) h = let (sites, numbers) = each _ _ h in λ t. Blue (number_sound i j sites t) (number_sound m n numbers t)
name_sound (Blue i m) (Red n) h = absurd (true≢false (sym h))
name_sound (Red m) (Blue j n) h = absurd (true≢false (sym h))
name_sound (Red m) (Red n) h = λ t. Red (number_sound m n h t)

name_same : (x : OpName) → name_test.eq x x ≡ true
name_same (Blue i m) = both _ _ (number_same i) (number_same m)
name_same (Red m) = number_same m

pub names_exact : (x y : OpName) → IsTrue (name_test.eq x y) ↔ (x ≡ y)
names_exact = exact_if name_test.eq name_sound name_same

-- equality of labels
label_sound : (x y : Label) → label_test.eq x y ≡ true → x ≡ y
label_sound Deposit Deposit h = refl
label_sound Withdraw Withdraw h = refl
label_sound Declined Declined h = refl
label_sound Interest Interest h = refl
label_sound Cancel Cancel h = refl
label_sound Transfer Transfer h = refl
label_sound _ _ h = absurd (true≢false (sym h))

label_same : (x : Label) → label_test.eq x x ≡ true
label_same Deposit = refl
label_same _ = refl

pub labels_exact : (x y : Label) → IsTrue (label_test.eq x y) ↔ (x ≡ y)
labels_exact = exact_if label_test.eq label_sound label_same
