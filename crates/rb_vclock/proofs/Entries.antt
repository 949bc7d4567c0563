-- A clock that counts all names of another is at least that, entry by entry.
use Rattle.std.proofs.Common.{◌≡◌, ℕ, zero, suc, ◌≤◌, Bool, true, ◌&&◌, arith}
use Rattle.std.specs.Prelude.{nat_le, ◌↔◌, IsTrue}
use Rattle.rb_shadow.specs.declared.deps.Deps.{Deps}
use Rattle.rb_shadow.specs.declared.op_name.OpName.TheVariants.{Blue, Red}
use Rattle.rb_shadow.specs.Operations.{IsWithin, names_of_clock}
use Rattle.rb_shadow.proofs.Public.Clocks
use Rattle.rb_vclock.specs.Clocks.{IsAtLeast}

wider : (n few many : ℕ) → few ≤ many → (nat_le 1 n && nat_le n few) ≡ true → (nat_le 1 n && nat_le n many) ≡ true
wider n few many h e = let (low, high) = Clocks.in_range-true n few e in Clocks.in_range n many low (omega arith)

-- an entry all of whose numbers are counted by another
entry_low : (few many : ℕ) → ((n : ℕ) → (nat_le 1 n && nat_le n few) ≡ true → (nat_le 1 n && nat_le n many) ≡ true) → few ≤ many
entry_low zero many h = omega arith
entry_low (suc k) many h = (Clocks.in_range-true (suc k) many (h (suc k) (Clocks.in_range (suc k) (suc k) (omega arith) (omega arith)))).1

-- a clock with no entry below counts all names
pub at_least_within : (c d : Deps) → IsAtLeast c d → IsWithin (names_of_clock d) (names_of_clock c)
at_least_within c d least (Blue i n) e = wider n _ _ (least.blue i) e
at_least_within c d least (Red n) e = wider n d.red c.red least.red e

-- a clock that counts all names has no entry below
pub within_at_least : (c d : Deps) → IsWithin (names_of_clock d) (names_of_clock c) → IsAtLeast c d
within_at_least c d within = record {
  blue = λ i. entry_low _ _ (λ n e. within (Blue i n) e);
  red = entry_low d.red c.red (λ n e. within (Red n) e);
}

-- a test of the entries is one of the names
pub by_names : (b : Bool) (c d : Deps) → IsTrue b ↔ IsAtLeast c d → IsTrue b ↔ IsWithin (names_of_clock d) (names_of_clock c)
by_names b c d h = (λ e. at_least_within c d (h.0 e), λ w. h.1 (within_at_least c d w))
