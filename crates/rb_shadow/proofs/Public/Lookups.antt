-- Look-ups in a list of operations.
use Rattle.std.proofs.Common.{◌≡◌, ℕ, zero, suc, ◌<◌, Bool, true, false, cond, ◌||◌, List, [], ◌∷◌, length, get_or, refl, ap, ◌∙◌, arith}
use Rattle.std.proofs.Common.{inl, inr, Some, None}
use Rattle.std.specs.Prelude.{option_map}
use Rattle.rb_shadow.specs.declared.shadow.Shadow.{Shadow}
use Rattle.rb_shadow.specs.declared.op_name.OpName.{OpName}
use Rattle.rb_shadow.specs.Operations.{Among, find_in, kind_in, names, same_name}
use Rattle.rb_shadow.proofs.Public.Members

-- what is found under a name is in the list and has the name
pub found : (us : List Shadow) (x : OpName) (v : Shadow) → find_in us x ≡ Some v → Among v us × (v.name ≡ x)
found [] x v h = cc
found (u ∷ us) x v h = at (same_name u.name x) refl h (found us x v)
  where
    at : (b : Bool) → same_name u.name x ≡ b → cond b (Some u) (find_in us x) ≡ Some v → (find_in us x ≡ Some v → Among v us × (v.name ≡ x))
        → Among v (u ∷ us) × (v.name ≡ x)
    at true e k rest = let a : v ≡ u = cc in (inl a, ap (λ (w : Shadow). w.name) a ∙ Members.same_name-true u.name x e)
    at false e k rest = let r : Among v us × (v.name ≡ x) = rest k in (inr r.0, r.1)

-- if nothing is found, no operation has the name
pub unnamed : (us : List Shadow) (x : OpName) → find_in us x ≡ None → names us x ≡ false
unnamed [] x h = refl
unnamed (u ∷ us) x h = at (same_name u.name x) h (unnamed us x)
  where
    at : (b : Bool) → cond b (Some u) (find_in us x) ≡ None → (find_in us x ≡ None → names us x ≡ false) → (b || names us x) ≡ false
    at true k rest = cc
    at false k rest = rest k

-- if an operation has the name, one is found
pub found_named : (us : List Shadow) (x : OpName) → names us x ≡ true → (t : Shadow) × (find_in us x ≡ Some t)
found_named [] x h = cc
found_named (u ∷ us) x h = at (same_name u.name x) h (found_named us x)
  where
    at : (b : Bool) → (b || names us x) ≡ true → (names us x ≡ true → (t : Shadow) × (find_in us x ≡ Some t)) →
        (t : Shadow) × (cond b (Some u) (find_in us x) ≡ Some t)
    at true h more = (u, refl)
    at false h more = more h

-- the kind of a name is that of what is found
pub kind_found : (us : List Shadow) (x : OpName) → kind_in us x ≡ option_map (λ (t : Shadow). t.kind) (find_in us x)
kind_found [] x = refl
kind_found (u ∷ us) x = at (same_name u.name x) (kind_found us x)
  where
    at : (b : Bool) → kind_in us x ≡ option_map (λ (t : Shadow). t.kind) (find_in us x) →
        cond b (Some u.kind) (kind_in us x) ≡ option_map (λ (t : Shadow). t.kind) (cond b (Some u) (find_in us x))
    at true more = refl
    at false more = more

-- what is at an index is in the list
pub Among-index : (us : List Shadow) (k : ℕ) (d : Shadow) → k < length us → Among (get_or us k d) us
Among-index [] k d h = absurd (omega arith)
Among-index (v ∷ us) zero d h = inl refl
Among-index (v ∷ us) (suc k) d h = inr (Among-index us k d (omega arith))
