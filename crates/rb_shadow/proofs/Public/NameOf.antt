-- Each name has one text.
use Rattle.std.proofs.Common.{◌≡◌, ◌≢◌, ◌<◌, ◌^◌, ◌==◌, ◌+◌, ℕ, List, [], ◌∷◌, ◌++◌, length, take, drop, get_or, decimal, arith, rules}
use Rattle.std.proofs.Common.{refl, sym, ap, ◌∙◌, append_assoc, add-one, Option, Some, None, Bool, true, false, suc}
use Rattle.std.specs.Prelude.{IfSome, bytes_eq, ◌&&◌}
use Rattle.std.specs.List.{before_first, after_first}
use Rattle.std.specs.Str.Parse.{digits_value}
use Rattle.std.proofs.lemmas.Fmt.{decimal_is_IsNumeral}
use Rattle.std.proofs.lemmas.Slice.Eq.{bytes_eq-Decides}
use Rattle.std.proofs.lemmas.Bool.{eqb-true, false_from_ne_true, and_parts as both}
use borrow.Author.Tests.{ltb-true}
use Rattle.rb_shadow.specs.NameText.{name_text, name_of, candidate, is_name, IsName}
use Rattle.rb_shadow.specs.declared.op_name.OpName.{OpName}
use Rattle.rb_shadow.specs.declared.op_name.OpName.TheVariants.{Blue, Red}
use Rattle.rb_shadow.proofs.NameDigits.{no_dot}

one_more : (n x : ℕ) (bs : List ℕ) → (take (1 + n) (x ∷ bs) ≡ x ∷ take n bs) × (drop ((1 + n) + 1) (x ∷ bs) ≡ drop (n + 1) bs)
one_more n x bs = (let e : 1 + n ≡ suc n = omega arith in rw e refl, let e : (1 + n) + 1 ≡ suc (n + 1) = omega arith in rw e refl)

cut_at : (xs ys : List ℕ) → ((i : ℕ) → i < length xs → get_or xs i 0 ≢ 46) →
    (before_first (λ c. c == 46) (xs ++ (46 ∷ ys)) ≡ xs) × (after_first (λ c. c == 46) (xs ++ (46 ∷ ys)) ≡ ys)
cut_at [] ys none = (refl, refl)
cut_at (x ∷ xs) ys none =
    let other : (x == 46) ≡ false = false_from_ne_true _ (λ e. none 0 (omega arith) (eqb-true x 46 e)) in
    let rest = cut_at xs ys (λ i h. λ e. none (i + 1) (omega arith) (rw add-one e)) in
    rw (other, (one_more _ x (xs ++ (46 ∷ ys))).0, (one_more _ x (xs ++ (46 ∷ ys))).1) (ap (λ l. x ∷ l) rest.0, rest.1)

digits_back : (n : ℕ) → n < 2 ^ 64 → digits_value 10 (decimal n) ≡ n
digits_back n h = (decimal_is_IsNumeral n h).1

-- the candidate of the text of a name is that name
pub candidate_is : (x : OpName) → IsName x → candidate (name_text x) ≡ x
candidate_is (Red n) h = ap Red (digits_back n (omega arith))
candidate_is (Blue s n) h =
    let bs = (decimal s ++ 46 ∷ []) ++ decimal n in
    let same : bs ≡ decimal s ++ (46 ∷ decimal n) = append_assoc (decimal s) (46 ∷ []) (decimal n) in
    let cut = cut_at (decimal s) (decimal n) (no_dot s (omega arith)) in
    ap (λ l. Blue (digits_value 10 (before_first (λ c. c == 46) l)) (digits_value 10 (after_first (λ c. c == 46) l))) same
    ∙ ap (λ l. Blue (digits_value 10 l) (digits_value 10 (after_first (λ c. c == 46) (decimal s ++ (46 ∷ decimal n))))) cut.0
    ∙ ap (λ l. Blue (digits_value 10 (decimal s)) (digits_value 10 l)) cut.1
    ∙ ap (λ m. Blue m (digits_value 10 (decimal n))) (digits_back s (omega arith)) ∙ ap (Blue s) (digits_back n (omega arith))

is_name_is : (x : OpName) → IsName x → is_name x ≡ true
is_name_is (Blue s n) h = search rules
is_name_is (Red n) h = search rules

IsName_from : (x : OpName) → is_name x ≡ true → IsName x
IsName_from (Blue s n) h = let p = both _ _ h in (ltb-true _ _ p.0, ltb-true _ _ p.1)
IsName_from (Red n) h = search rules

same_text : (t : List ℕ) → bytes_eq t t ≡ true
same_text t = (bytes_eq-Decides t t).1 refl

-- what reads just the texts of names reads what they are the texts of
pub value_is : (t : List ℕ) (r : Option OpName) → IfSome r (λ x. t ≡ name_text x) → IfSome r IsName →
    ((x : OpName) → IsName x → t ≡ name_text x → r ≡ Some x) → r ≡ name_of t
value_is t (Some x) found range only =
    let c : candidate t ≡ x = ap candidate found ∙ candidate_is x range in
    rw (c, is_name_is x range, ← found, same_text t) refl
value_is t None found range only = by (is_name (candidate t) && bytes_eq (name_text (candidate t)) t) refl
  where
    by : (b : Bool) → (is_name (candidate t) && bytes_eq (name_text (candidate t)) t) ≡ b → None ≡ name_of t
    by true e =
        let p : (is_name (candidate t) ≡ true) × (bytes_eq (name_text (candidate t)) t ≡ true) = both _ _ e in
        let other : None ≡ Some (candidate t) = only (candidate t) (IsName_from (candidate t) p.0)
        (sym ((bytes_eq-Decides (name_text (candidate t)) t).0 p.1)) in
        absurd (cc)
    by false e = rw e refl
