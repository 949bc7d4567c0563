-- Digits hold no dot, so the dot of a blue name is where it is cut.
use Rattle.std.proofs.Common.{◌≡◌, ◌≢◌, ◌<◌, ◌^◌, ℕ, List, [], ◌∷◌, ap, sym, ◌∙◌, append_assoc, ◌++◌, length, get_or, decimal, arith, refl}
use Rattle.std.proofs.Common.{Option, Some, None, Bor}
use Rattle.std.specs.Prelude.{MatchOption}
use Rattle.std.proofs.lemmas.Fmt.{digits_decimal}
use Rattle.std.proofs.lemmas.Str.Parse.{not_in_digits}
use Rattle.std.proofs.lemmas.Str.Pattern.{IsSplitOnceResult, split_after}
use Rattle.rb_shadow.specs.NameText.{name_text, IsName}
use Rattle.rb_shadow.specs.declared.op_name.OpName.{OpName}
use Rattle.rb_shadow.specs.declared.op_name.OpName.TheVariants.{Blue, Red}
use Rattle.rb_shadow.proofs.Public.Digits.{in_digits}

-- digits have no dot
pub no_dot : (n : ℕ) → n < 2 ^ 64 → (i : ℕ) → i < length (decimal n) → get_or (decimal n) i 0 ≢ 46
no_dot n small = not_in_digits in_digits (decimal n) 46 (digits_decimal in_digits n small) (λ h. omega arith)

cut_at_dot : (s n : ℕ) (bs : List ℕ) (r : Option (Bor (List ℕ) × Bor (List ℕ))) → IsSplitOnceResult 46 bs r → s < 2 ^ 64 →
    bs ≡ decimal s ++ (46 ∷ decimal n)
    → MatchOption r ⊥ (λ x. (x.0.now ≡ decimal s) × (x.1.now ≡ decimal n))
cut_at_dot s n bs r h small e = split_after 46 bs (decimal s) (decimal n) r h (omega arith) e (no_dot s small)

-- a text that begins with neither letter is no name's
pub no_name : (bs : List ℕ) → ((rest : List ℕ) → bs ≡ 82 ∷ rest → ⊥) → ((rest : List ℕ) → bs ≡ 66 ∷ rest → ⊥) → (name : OpName) →
    bs ≡ name_text name → ⊥
no_name bs r b (Blue s n) e = b _ e
no_name bs r b (Red n) e = r _ e

-- after a `B`, the cut gives the texts of both numbers
pub blue_cut : (bs rest : List ℕ) (r : Option (Bor (List ℕ) × Bor (List ℕ))) → bs ≡ 66 ∷ rest → IsSplitOnceResult 46 rest r →
    (name : OpName) → IsName name → bs ≡ name_text name
    → MatchOption r ⊥ (λ x. (s : ℕ) × (n : ℕ) × (name ≡ Blue s n) × (s < 2 ^ 8) × (n < 2 ^ 32) × (x.0.now ≡ decimal s)
    × (x.1.now ≡ decimal n))
blue_cut bs rest r b h (Red n) fits e = let bad : 66 ≡ 82 = ap (λ (l : List ℕ). get_or l 0 0) (sym b ∙ e) in absurd (omega (arith, bad))
blue_cut bs rest r b h (Blue s n) fits e =
    let cut = cut_at_dot s n rest r h (omega arith) (cc (b, e, append_assoc (decimal s) (46 ∷ []) (decimal n))) in
    elim r as (λ r. MatchOption r ⊥ (λ x. (x.0.now ≡ decimal s) × (x.1.now ≡ decimal n)) →
    MatchOption r ⊥ (λ x. (s' : ℕ) × (n' : ℕ) × (Blue s n ≡ Blue s' n') × (s' < 2 ^ 8) × (n' < 2 ^ 32) × (x.0.now ≡ decimal s')
    × (x.1.now ≡ decimal n')))
    [ None ↦ λ f. f | Some x ↦ λ f. (s, n, refl, fits.0, fits.1, f.0, f.1) ] cut
