-- Members of lists of operations, and their names.
use Rattle.std.proofs.Common.{◌≡◌, Bool, true, false, ◌||◌, List, [], ◌∷◌, ◌++◌, refl, ap, sym, ◌∙◌, arith, ◌⊎◌, inl, inr}
use Rattle.std.proofs.lemmas.Bool.Decides.{nat_tests}
pub use Rattle.std.proofs.lemmas.Bool.{cases_Bool as bool_cases, or_cases as or-true, or_from as false-or, or_parts as or-false}
pub use Rattle.std.proofs.lemmas.Bool.{or_right as or-right}
use Rattle.rb_shadow.specs.declared.shadow.Shadow.{Shadow}
use Rattle.rb_shadow.specs.declared.op_name.OpName.{OpName}
use Rattle.rb_shadow.specs.declared.op_name.OpName.TheVariants.{Blue, Red}
use Rattle.rb_shadow.specs.Operations.{Among, same_name, names, IsUnique}

-- a name is the same as itself
pub same_name-refl : (x : OpName) → same_name x x ≡ true
same_name-refl (Blue i m) = grind (arith, nat_tests)
same_name-refl (Red m) = grind (arith, nat_tests)

-- names that are the same are equal
pub same_name-true : (x y : OpName) → same_name x y ≡ true → x ≡ y
same_name-true (Blue i m) (Blue j n) h = grind (arith, nat_tests)
same_name-true (Red m) (Red n) h = grind (arith, nat_tests)
same_name-true (Blue i m) (Red n) h = cc
same_name-true (Red m) (Blue j n) h = cc

-- either way round
pub same_name-comm : (x y : OpName) → same_name x y ≡ same_name y x
same_name-comm (Blue i m) (Blue j n) = grind (arith, nat_tests)
same_name-comm (Red m) (Red n) = grind (arith, nat_tests)
same_name-comm (Blue i m) (Red n) = refl
same_name-comm (Red m) (Blue j n) = refl

-- true is not false
pub true≢false : true ≡ false → ⊥
true≢false h = cc

-- tests that follow from each other are equal
pub both-same : (a b : Bool) → (a ≡ true → b ≡ true) → (b ≡ true → a ≡ true) → a ≡ b
both-same true b h k = sym (h refl)
both-same false true h k = k refl
both-same false false h k = refl

-- names that aren't equal aren't the same
pub not_same : (x y : OpName) → (x ≡ y → ⊥) → same_name x y ≡ false
not_same x y h = elim (bool_cases (same_name x y)) [ inl e ↦ absurd (h (same_name-true x y e)) | inr e ↦ e ]

-- the names of two lists together
pub names-append : (us vs : List Shadow) (x : OpName) → names (us ++ vs) x ≡ (names us x || names vs x)
names-append [] vs x = refl
names-append (u ∷ us) vs x = at (same_name u.name x) (names-append us vs x)
  where
    at : (b : Bool) → names (us ++ vs) x ≡ (names us x || names vs x) → (b || names (us ++ vs) x) ≡ ((b || names us x) || names vs x)
    at true e = refl
    at false e = e

-- an operation's name is among the names
pub named : (us : List Shadow) (u : Shadow) → Among u us → names us u.name ≡ true
named [] u h = elim h [ ]
named (v ∷ us) u (inl e) = ap (λ (w : Shadow). same_name w.name u.name || names us u.name) (sym e)
    ∙ ap (λ b. b || names us u.name) (same_name-refl u.name)
named (v ∷ us) u (inr h) = or-right (same_name v.name u.name) (names us u.name) (named us u h)

-- a name is that of an operation
pub find_named : (us : List Shadow) (x : OpName) → names us x ≡ true → (u : Shadow) × Among u us × (u.name ≡ x)
find_named [] x h = cc
find_named (u ∷ us) x h = at (or-true (same_name u.name x) (names us x) h) (find_named us x)
  where
    at : (same_name u.name x ≡ true) ⊎ (names us x ≡ true) → (names us x ≡ true → (v : Shadow) × Among v us × (v.name ≡ x)) →
        (v : Shadow) × Among v (u ∷ us) × (v.name ≡ x)
    at (inl e) k = (u, inl refl, same_name-true u.name x e)
    at (inr e) k = ((k e).0, inr (k e).1, (k e).2)

-- one of the first list
pub Among-left : (us vs : List Shadow) (u : Shadow) → Among u us → Among u (us ++ vs)
Among-left [] vs u h = elim h [ ]
Among-left (v ∷ us) vs u (inl e) = inl e
Among-left (v ∷ us) vs u (inr h) = inr (Among-left us vs u h)

-- one of the second
pub Among-right : (us vs : List Shadow) (u : Shadow) → Among u vs → Among u (us ++ vs)
Among-right [] vs u h = h
Among-right (v ∷ us) vs u h = inr (Among-right us vs u h)

-- one of two lists is one of either
pub Among-cases : (us vs : List Shadow) (u : Shadow) → Among u (us ++ vs) → Among u us ⊎ Among u vs
Among-cases [] vs u h = inr h
Among-cases (v ∷ us) vs u (inl e) = inl (inl e)
Among-cases (v ∷ us) vs u (inr h) = elim (Among-cases us vs u h) [ inl k ↦ inl (inr k) | inr k ↦ inr k ]

-- one of a list is one of it with another in the middle
pub Among-middle : (us vs : List Shadow) (u v : Shadow) → Among v (us ++ vs) → Among v (us ++ u ∷ vs)
Among-middle us vs u v h = elim (Among-cases us vs v h) [ inl k ↦ Among-left us (u ∷ vs) v k | inr k ↦ Among-right us (u ∷ vs) v (inr k) ]

-- a member splits the list
pub split_at : (us : List Shadow) (u : Shadow) → Among u us → (front : List Shadow) × (back : List Shadow) × (us ≡ front ++ u ∷ back)
split_at [] u h = elim h [ ]
split_at (v ∷ us) u (inl e) = ([], us, ap (λ (w : Shadow). w ∷ us) (sym e))
split_at (v ∷ us) u (inr h) = let r : (front : List Shadow) × (back : List Shadow) × (us ≡ front ++ u ∷ back) = split_at us u h in
    (v ∷ r.0, r.1, ap (λ ws. v ∷ ws) r.2)

-- names are unique also without one in the middle
pub IsUnique-middle : (us vs : List Shadow) (u : Shadow) → IsUnique (us ++ u ∷ vs) → IsUnique (us ++ vs) × (names (us ++ vs) u.name ≡ false)
IsUnique-middle [] vs u h = (h.1, h.0)
IsUnique-middle (w ∷ us) vs u h =
    let rest : IsUnique (us ++ vs) × (names (us ++ vs) u.name ≡ false) = IsUnique-middle us vs u h.1 in
    let apart : (names us w.name ≡ false) × ((same_name u.name w.name || names vs w.name) ≡ false) =
    or-false _ _ (sym (names-append us (u ∷ vs) w.name) ∙ h.0) in
    let apart' : (same_name u.name w.name ≡ false) × (names vs w.name ≡ false) = or-false _ _ apart.1 in
    ((names-append us vs w.name ∙ false-or _ _ apart.0 apart'.1, rest.0), false-or _ _ (same_name-comm w.name u.name ∙ apart'.0) rest.1)

-- names are unique with a new one at the end
pub IsUnique-push : (us : List Shadow) (u : Shadow) → IsUnique us → names us u.name ≡ false → IsUnique (us ++ u ∷ [])
IsUnique-push [] u h k = (refl, tt)
IsUnique-push (w ∷ us) u h k =
    let apart : (same_name w.name u.name ≡ false) × (names us u.name ≡ false) = or-false _ _ k in (
      names-append us (u ∷ []) w.name ∙ false-or _ _ h.0 (false-or _ _ (same_name-comm u.name w.name ∙ apart.0) refl),
      IsUnique-push us u h.1 apart.1,
    )

-- names are unique in a prefix
pub IsUnique-front : (us vs : List Shadow) → IsUnique (us ++ vs) → IsUnique us
IsUnique-front [] vs h = tt
IsUnique-front (u ∷ us) vs h = ((or-false _ _ (sym (names-append us vs u.name) ∙ h.0)).0, IsUnique-front us vs h.1)

-- the name at the end isn't one of those before
pub IsUnique-last : (us vs : List Shadow) (u : Shadow) → IsUnique (us ++ u ∷ vs) → names us u.name ≡ false
IsUnique-last us vs u h = (or-false _ _ (sym (names-append us vs u.name) ∙ (IsUnique-middle us vs u h).1)).0

-- in a list with unique names, a name is that of one operation
pub same_named : (us : List Shadow) (u v : Shadow) → IsUnique us → Among u us → Among v us → u.name ≡ v.name → u ≡ v
same_named [] u v h a b e = elim a [ ]
same_named (w ∷ us) u v h (inl a) (inl b) e = a ∙ sym b
same_named (w ∷ us) u v h (inl a) (inr b) e = absurd (true≢false (sym (named us v b) ∙ ap (names us) (sym e ∙ ap (λ (x : Shadow). x.name) a)
    ∙ h.0))
same_named (w ∷ us) u v h (inr a) (inl b) e = absurd (true≢false (sym (named us u a) ∙ ap (names us) (e ∙ ap (λ (x : Shadow). x.name) b)
    ∙ h.0))
same_named (w ∷ us) u v h (inr a) (inr b) e = same_named us u v h.1 a b e

-- a list with an operation in it is not empty
pub never_empty : (us vs : List Shadow) (v : Shadow) → us ++ v ∷ vs ≡ [] → ⊥
never_empty [] vs v e = cc
never_empty (u ∷ us) vs v e = cc

-- what ends a list is at its end or before it
pub push_split : (us front back : List Shadow) (u v : Shadow) → us ++ u ∷ [] ≡ front ++ v ∷ back →
    ((back ≡ []) × (front ≡ us) × (v ≡ u)) ⊎ ((rest : List Shadow) × (back ≡ rest ++ u ∷ []) × (us ≡ front ++ v ∷ rest))
push_split [] [] back u v e = inl (cc, refl, cc)
push_split [] (w ∷ front) back u v e = absurd (never_empty front back v (let rest : front ++ v ∷ back ≡ [] = cc in rest))
push_split (t ∷ us) [] back u v e = inr (us, let a : back ≡ us ++ u ∷ [] = cc in a, let a : t ∷ us ≡ v ∷ us = cc in a)
push_split (t ∷ us) (w ∷ front) back u v e = further (push_split us front back u v (let a : us ++ u ∷ [] ≡ front ++ v ∷ back = cc in
    a)) (let a : t ≡ w = cc in a)
  where
    further : ((back ≡ []) × (front ≡ us) × (v ≡ u)) ⊎ ((rest : List Shadow) × (back ≡ rest ++ u ∷ []) × (us ≡ front ++ v ∷ rest)) → t ≡ w →
        ((back ≡ []) × (w ∷ front ≡ t ∷ us) × (v ≡ u)) ⊎ ((rest : List Shadow) × (back ≡ rest ++ u ∷ [])
        × (t ∷ us ≡ w ∷ (front ++ v ∷ rest)))
    further (inl k) a = inl (k.0, let b : w ∷ front ≡ t ∷ us = cc in b, k.2)
    further (inr k) a = inr (k.0, k.1, let b : t ∷ us ≡ w ∷ (front ++ v ∷ k.0) = cc in b)
