-- Clocks with entries for some sites alone.
use Rattle.std.proofs.Common.{◌≡◌, ℕ, zero, suc, ◌+◌, ◌-◌, ◌≤◌, ◌==◌, if◌then◌else◌, nat_le, true}
use Rattle.std.proofs.Common.{List, [], ◌∷◌, drop, refl, subst, arith}
use Rattle.std.proofs.lemmas.Bool.{and_from, and_parts}
use Rattle.std.proofs.lemmas.Bool.Decides.{nat_tests}
use Rattle.rb_shadow.specs.Sound.{are_entries}

-- the sum of these numbers
abbrev pub total : List ℕ → ℕ
total [] = 0
total (n ∷ ns) = n + total ns

-- entries that are 0 from a site on are those of the sites before it, each at most their sum
pub of_sites : (k limit : ℕ) (ns : List ℕ) → total ns ≤ limit → are_entries 0 0 (drop k ns) ≡ true → are_entries k limit ns ≡ true
of_sites k limit [] most none = refl
of_sites zero limit (n ∷ ns) most none =
    let p = and_parts (n == 0) (are_entries 0 0 ns) none in
    and_from (n == 0) (are_entries 0 limit ns) p.0 (of_sites 0 limit ns (omega (arith, most)) p.1)
of_sites (suc k) limit (n ∷ ns) most none =
    let back : k ≡ suc k - 1 = omega arith in
    and_from (if suc k == 0 then n == 0 else nat_le n limit) (are_entries (suc k - 1) limit ns)
    (least k n limit (omega (arith, most)))
    (subst (λ j. are_entries j limit ns ≡ true) back (of_sites k limit ns (omega (arith, most)) none))
  where
    least : (k n limit : ℕ) → n ≤ limit → (if suc k == 0 then n == 0 else nat_le n limit) ≡ true
    least k n limit h = grind (arith, nat_tests)
