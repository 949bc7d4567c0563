-- An account's name leads to its place, and back.
use Rattle.rb_history.proofs.Words.{IsKnown, account_place, IsConfigured, Settings, is_account_name, place_in, MOST_ACCOUNTS, Place}
use Rattle.rb_history.proofs.Words.{NOWHERE, Bool, List, None, Option, Some, [], ap, arith, bytes_eq, codes, cond, false, get_or, inl, inr}
use Rattle.rb_history.proofs.Words.{length, refl, suc, sym, true, zero, ℕ, ◌+◌, ◌∙◌, ◌∷◌, ◌≡◌, ◌≤◌, position-Some, slice_get-get_or}
use Rattle.rb_history.proofs.Words.{slice_get_past, bytes_eq-Decides, position, position_from, option_map, slice_get, unwrap_or}
use Rattle.std.specs.Bool.{Decides}
use Rattle.std.proofs.lemmas.Iterator.Adapters.{position_from-zero}

-- a test of what doesn't hold fails
pub fails : (b : Bool) (P : Type 0) → Decides b P → ¬ P → b ≡ false
fails true P d p = absurd (p (d.0 refl))
fails false P d p = refl

-- the first place of a name that is there once
found_from : (names : List (List ℕ)) (name : List ℕ) (k i : ℕ) → slice_get names i ≡ Some name
    → ((j : ℕ) → slice_get names j ≡ Some name → i ≡ j) → position_from (λ n. bytes_eq name n) k names ≡ Some (k + i)
found_from [] name k i at once = cc
found_from (n ∷ ns) name k zero at once =
    let same : name ≡ n = cc in
    ap (λ b. cond b (Some k) (position_from (λ n. bytes_eq name n) (k + 1) ns))
    ((bytes_eq-Decides name n).1 same)
    ∙ ap (λ m. Some m) (let e : k ≡ k + 0 = omega arith in e)
found_from (n ∷ ns) name k (suc i) at once =
    ap (λ b. cond b (Some k) (position_from (λ n. bytes_eq name n) (k + 1) ns))
    (fails (bytes_eq name n) (name ≡ n) (bytes_eq-Decides name n) (λ e.
    let f : suc i ≡ 0 = once 0 (ap Some (sym e)) in omega arith))
    ∙ found_from ns name (k + 1) i at (λ j there. let f : suc i ≡ suc j = once (suc j) there in omega arith)
    ∙ ap (λ m. Some m) (let e : k + 1 + i ≡ k + suc i = omega arith in e)

missing_from : (names : List (List ℕ)) (name : List ℕ) (k : ℕ) → ((j : ℕ) (n : List ℕ) → slice_get names j ≡ Some n → ¬ (name ≡ n))
    → position_from (λ n. bytes_eq name n) k names ≡ None
missing_from [] name k none = refl
missing_from (n ∷ ns) name k none =
    ap (λ b. cond b (Some k) (position_from (λ n. bytes_eq name n) (k + 1) ns))
    (fails (bytes_eq name n) (name ≡ n) (bytes_eq-Decides name n) (none 0 n refl))
    ∙ missing_from ns name (k + 1) (λ j. none (suc j))

abbrev place_of : Option ℕ → Place
place_of o = unwrap_or (option_map (λ i. record { 0 = i }) o) NOWHERE

-- places of the configuration's accounts, and the place that no configuration has, are known
pub known_place : (s : Settings) (a : Place) → IsConfigured s → IsKnown s a
    → account_place s (unwrap_or (slice_get s.names a.0) (codes "?")) ≡ a
known_place s a c (inl less) =
    let name : List ℕ = get_or s.names a.0 [] in
    let at : slice_get s.names a.0 ≡ Some (get_or s.names a.0 []) = slice_get-get_or s.names a.0 [] less in
    ap (λ o. account_place s (unwrap_or o (codes "?"))) at
    ∙ ap (λ o. place_of o) (position_from-zero (λ n. bytes_eq (get_or s.names a.0 []) n) s.names
    ∙ found_from s.names (get_or s.names a.0 []) 0 a.0 at (λ j there. c.unique a.0 j (get_or s.names a.0 []) at there)
    ∙ ap (λ m. Some m) (let e : 0 + a.0 ≡ a.0 = omega arith in e))
known_place s a c (inr e) =
    let few : length s.names ≤ MOST_ACCOUNTS = c.few_accounts in
    let past : slice_get s.names NOWHERE.0 ≡ None = slice_get_past s.names NOWHERE.0 (omega arith) in
    ap (λ (p : Place). account_place s (unwrap_or (slice_get s.names p.0) (codes "?"))) e
    ∙ ap (λ o. account_place s (unwrap_or o (codes "?"))) past
    ∙ ap (λ o. place_of o) (position_from-zero (λ n. bytes_eq (codes "?") n) s.names
    ∙ missing_from s.names (codes "?") 0 (λ j n there same.
    let q : is_account_name (codes "?") ≡ true = ap is_account_name same ∙ c.names j n there in cc))
    ∙ sym e

-- ---- the place of an account that is read by its name has the name

-- the name at the place that it leads to
pub name_there : (names : List (List ℕ)) (name : List ℕ) (place : Place) → place_in names name ≡ Some place
    → slice_get names place.0 ≡ Some name
name_there names name place e = by_position (position (λ n. bytes_eq name n) names) refl e
  where
    by_position : (o : Option ℕ) → position (λ n. bytes_eq name n) names ≡ o → option_map (λ i. record { 0 = i }) o ≡ Some place
        → slice_get names place.0 ≡ Some name
    by_position None at is = absurd (cc)
    by_position (Some i) at is =
        let found = position-Some (λ n. bytes_eq name n) names i [] at in
        let there : place.0 ≡ i = cc in
        ap (slice_get names) there ∙ slice_get-get_or names i [] found.0
        ∙ ap (λ n. Some n) (sym ((bytes_eq-Decides name (get_or names i [])).0 found.1))

-- there is no name at the place that no configuration has
pub nobody_there : (s : Settings) → IsConfigured s → unwrap_or (slice_get s.names NOWHERE.0) (codes "?") ≡ codes "?"
nobody_there s c =
    let few = c.few_accounts in
    ap (λ o. unwrap_or o (codes "?")) (slice_get_past s.names NOWHERE.0 (omega arith))
