-- A row by its fields.
use Rattle.std.proofs.Common.{◌≡◌, ℕ, Bool}
use Rattle.std.specs.Prelude.{ℤ}
use Rattle.rb_shadow.specs.declared.label.Label.{Label}
use Rattle.rb_shadow.specs.declared.op_name.OpName.{OpName}
use Rattle.rb_statements.specs.declared.row.Row.{Row}

-- a row by its fields
abbrev pub of_fields : ℕ → OpName → Label → ℤ → Bool → ℕ → Row
of_fields position name kind moved cancelled balance = record {
  position = position;
  name = name;
  kind = kind;
  moved = moved;
  cancelled = cancelled;
  balance = balance;
}

-- rows of equal fields are equal
pub same_fields : (i j : ℕ) (x y : OpName) (k l : Label) (a b : ℤ) (p q : Bool) (m n : ℕ) → i ≡ j → x ≡ y → k ≡ l → a ≡ b → p ≡ q → m ≡ n →
    of_fields i x k a p m ≡ of_fields j y l b q n
same_fields i j x y k l a b p q m n e1 e2 e3 e4 e5 e6 = cc
