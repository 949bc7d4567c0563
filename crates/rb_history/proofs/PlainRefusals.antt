-- Refusals that are written as their numbers alone.
use Rattle.rb_history.proofs.Words.{◌≡◌, ◌==◌, ℕ, Bool, true, false, List, [], ◌∷◌, Some, codes, refl, ap, ◌∙◌, subst, rules, if◌then◌else◌}
use Rattle.rb_history.proofs.Words.{number_of_refusal, Refusal, refusal_json, number_json, one_json, Each, IsRefusal, find_refusal}
use Rattle.rb_history.proofs.Words.{plain_refusals}
use Rattle.json.proofs.Found.{Some_inj}

-- written as its number, and fit to be written
abbrev IsPlain : Refusal → Type 0
IsPlain r = (refusal_json r ≡ one_json (codes "refused") (number_json (number_of_refusal r))) × IsRefusal r

are_plain : Each IsPlain plain_refusals
are_plain = search rules

found : (n : ℕ) (rs : List Refusal) (r : Refusal) → Each IsPlain rs → find_refusal n rs ≡ Some r → IsPlain r × (number_of_refusal r ≡ n)
found n [] r h e = absurd (cc)
found n (q ∷ rs) r h e = by_test (number_of_refusal q == n) refl e (found n rs r h.1)
  where
    by_test : (t : Bool) → (number_of_refusal q == n) ≡ t → (if t then Some q else find_refusal n rs) ≡ Some r
        → (find_refusal n rs ≡ Some r → IsPlain r × (number_of_refusal r ≡ n)) → IsPlain r × (number_of_refusal r ≡ n)
    by_test true f g later =
        let same : number_of_refusal q ≡ n = search rules in
        subst (λ x. IsPlain x × (number_of_refusal x ≡ n)) (Some_inj q r g) (h.0, same)
    by_test false f g later = later g

-- a refusal of this number, among those that are written as their numbers alone
pub plain_json : (n : ℕ) (r : Refusal) → find_refusal n plain_refusals ≡ Some r
    → refusal_json r ≡ one_json (codes "refused") (number_json n)
plain_json n r e = let p = found n plain_refusals r are_plain e in p.0.0 ∙ ap (λ m. one_json (codes "refused") (number_json m)) p.1

-- and it fits a line
pub plain_fits : (n : ℕ) (r : Refusal) → find_refusal n plain_refusals ≡ Some r → IsRefusal r
plain_fits n r e = (found n plain_refusals r are_plain e).0.1
