-- Enums whose derived test compares each variant's fields.
use Rattle.std.proofs.Common.{◌≡◌, ◌∙◌, ℕ, ◌==◌, Bool, true, false, ◌&&◌, List, [], ◌∷◌, inl, inr, ap, refl, sym}
use Rattle.std.proofs.lemmas.Bool.{false≢true, and_parts, and_from}
use Rattle.std.specs.Bool.{Decides}
use Rattle.std.specs.Cmp.{unsigned_Decides}
use denote.Struct.Field.{Field}
use denote.Struct.Values.{Values}
use denote.Enum.Declared.{Record, values_one, left_or, right_or}
use denote.Enum.Compared.{Each, by}

-- the test is true just of equal values
abbrev pub IsEquality : {A : Type 0} → (A → A → Bool) → Type 0
IsEquality {A} test = (x y : A) → Decides (test x y) (x ≡ y)

-- each variant's test is true just of equal fields
abbrev pub AreEqualities : (Fss : List (List Field)) → Each Bool Fss → Type 0
AreEqualities [] each = Unit {0}
AreEqualities (Fs ∷ Fss) each = IsEquality each.0 × AreEqualities Fss each.1

-- the same for the choices of the enum
sides : (Fss : List (List Field)) (each : Each Bool Fss) → AreEqualities Fss each → IsEquality (by false false Fss each)
sides [] each all c d = absurd c
sides (Fs ∷ Fss) each all (inl x) (inl y) = (λ e. ap inl ((all.0 x y).0 e), λ e. (all.0 x y).1 (ap (left_or x) e))
sides (Fs ∷ Fss) each all (inl x) (inr y) = (λ e. absurd (false≢true e), λ e. cc)
sides (Fs ∷ Fss) each all (inr x) (inl y) = (λ e. absurd (false≢true e), λ e. cc)
sides (Fs ∷ Fss) each all (inr x) (inr y) =
    let rest = sides Fss each.1 all.1 x y in
    (λ e. ap inr (rest.0 e), λ e. rest.1 (ap (right_or x) e))

-- if each variant's test is true just of equal fields, the enum's is true just of equal values
pub enum_equality : (N : Record) (each : Each Bool N.parts) → AreEqualities N.parts each →
    IsEquality (λ (x y : N.D). by false false N.parts each (N.as_values x) (N.as_values y))
enum_equality N each all x y =
    let one = sides N.parts each all (N.as_values x) (N.as_values y) in
    (λ e. values_one N x y (one.0 e), λ e. one.1 (ap N.as_values e))

-- a variant of no fields
pub none : IsEquality (λ (x y : Values []). true)
none x y = (λ e. refl, λ e. refl)

-- a variant of one field
pub one : {A : Type 0} (test : A → A → Bool) → IsEquality test → IsEquality (λ (x y : A × Unit {0}). test x.0 y.0)
one test same x y = (λ e i. ((same x.0 y.0).0 e i, tt), λ e. (same x.0 y.0).1 (ap (λ z. z.0) e))

-- a variant of one number
pub number : IsEquality (λ (x y : ℕ × Unit {0}). x.0 == y.0)
number = one ◌==◌ unsigned_Decides

-- a variant of two fields
pub two : {A B : Type 0} (first : A → A → Bool) (second : B → B → Bool) → IsEquality first → IsEquality second →
    IsEquality (λ (x y : A × (B × Unit {0})). first x.0 y.0 && second x.1.0 y.1.0)
two first second f g x y = (
  λ e i. (
    (f x.0 y.0).0 (and_parts (first x.0 y.0) (second x.1.0 y.1.0) e).0 i,
    ((g x.1.0 y.1.0).0 (and_parts (first x.0 y.0) (second x.1.0 y.1.0) e).1 i, tt),
  ),
  λ e. and_from _ _ ((f x.0 y.0).1 (ap (λ z. z.0) e)) ((g x.1.0 y.1.0).1 (ap (λ z. z.1.0) e)),
)

-- ---- two values of an enum

-- if they are apart, the test is false
pub apart : {A : Type 0} (x y : A) → (x ≡ y → ⊥) → Decides false (x ≡ y)
apart x y other = (λ e. absurd (false≢true e), λ e. absurd (other e))

-- two values of one variant are equal exactly if what they hold is
pub same_variant : {A K : Type 0} (V : A → K) → ((a b : A) → V a ≡ V b → a ≡ b) → (x y : K) (a b : A) (r : Bool) → x ≡ V a → y ≡ V b →
    Decides r (a ≡ b) → Decides r (x ≡ y)
same_variant V alone x y a b r first second test = (
  λ e. first ∙ ap V (test.0 e) ∙ sym second,
  λ e. test.1 (alone a b (sym first ∙ e ∙ second)),
)
