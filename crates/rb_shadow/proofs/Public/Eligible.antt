-- The test of eligibility says that the past is among the names.
use Rattle.std.proofs.Common.{◌≡◌, ℕ, suc, zero, ◌+◌, ◌<◌, ◌≤◌, Bool, true, ◌&&◌, List, [], ◌∷◌, ◌++◌, refl, ap, ◌∙◌, arith, ◌⊎◌, inl, inr}
use Rattle.std.proofs.Common.{subst, get_or}
use Rattle.std.specs.Prelude.{◌==◌, map}
use Rattle.std.specs.List.{range_with_len, list_all}
use Rattle.std.proofs.lemmas.Bool.Decides.{nat_tests}
use Rattle.std.proofs.lemmas.Bool.{and_parts as and-true}
use Rattle.rb_shadow.specs.declared.shadow.Shadow.{Shadow}
use Rattle.rb_shadow.specs.declared.op_name.OpName.{OpName}
use Rattle.rb_shadow.specs.declared.op_name.OpName.TheVariants.{Blue, Red}
use Rattle.rb_shadow.specs.declared.deps.Deps.{Deps}
use Rattle.rb_shadow.specs.Operations.{names, past, names_of_clock, IsWithin, blue_listed, names_listed, is_eligible}
use Rattle.rb_shadow.proofs.Public.Members
use Rattle.rb_shadow.proofs.Public.Clocks

-- a name of the list
abbrev pub Listed : OpName → List OpName → Type 0
Listed x [] = ⊥
Listed x (y ∷ ys) = (x ≡ y) ⊎ Listed x ys

all_listed : (p : OpName → Bool) (ys : List OpName) → list_all p ys ≡ true → (x : OpName) → Listed x ys → p x ≡ true
all_listed p [] h x k = elim k [ ]
all_listed p (y ∷ ys) h x (inl e) = ap p e ∙ (and-true (p y) (list_all p ys) h).0
all_listed p (y ∷ ys) h x (inr k) = all_listed p ys (and-true (p y) (list_all p ys) h).1 x k

listed_all : (p : OpName → Bool) (ys : List OpName) → ((x : OpName) → Listed x ys → p x ≡ true) → list_all p ys ≡ true
listed_all p [] h = refl
listed_all p (y ∷ ys) h = ap (λ b. b && list_all p ys) (h y (inl refl)) ∙ listed_all p ys (λ x k. h x (inr k))

Listed-left : (x : OpName) (ys zs : List OpName) → Listed x ys → Listed x (ys ++ zs)
Listed-left x [] zs h = elim h [ ]
Listed-left x (y ∷ ys) zs (inl e) = inl e
Listed-left x (y ∷ ys) zs (inr h) = inr (Listed-left x ys zs h)

Listed-right : (x : OpName) (ys zs : List OpName) → Listed x zs → Listed x (ys ++ zs)
Listed-right x [] zs h = h
Listed-right x (y ∷ ys) zs h = inr (Listed-right x ys zs h)

Listed-cases : (x : OpName) (ys zs : List OpName) → Listed x (ys ++ zs) → Listed x ys ⊎ Listed x zs
Listed-cases x [] zs h = inr h
Listed-cases x (y ∷ ys) zs (inl e) = inl (inl e)
Listed-cases x (y ∷ ys) zs (inr h) = elim (Listed-cases x ys zs h) [ inl k ↦ inl (inr k) | inr k ↦ inr k ]

-- numbers in a row
row_listed : (f : ℕ → OpName) (a n m : ℕ) → a ≤ m → m < a + n → Listed (f m) (map f (range_with_len a n))
row_listed f a zero m h k = absurd (omega arith)
row_listed f a (suc n) m h k = elim (Members.bool_cases (a == m)) [
  | inl e ↦ inl (ap f (grind (arith, nat_tests)))
  | inr e ↦ inr (row_listed f (a + 1) n m (grind (arith, nat_tests)) (omega arith))
]

listed_row : (f : ℕ → OpName) (a n : ℕ) (x : OpName) → Listed x (map f (range_with_len a n)) → (m : ℕ) × (a ≤ m) × (m < a + n) × (x ≡ f m)
listed_row f a zero x h = elim h [ ]
listed_row f a (suc n) x (inl e) = (a, omega arith, omega arith, e)
listed_row f a (suc n) x (inr h) = let (m, low, high, e) = listed_row f (a + 1) n x h in (m, omega arith, omega arith, e)

blue_row : (i k n : ℕ) (ns : List ℕ) → 1 ≤ n → n ≤ get_or ns k 0 → Listed (Blue (i + k) n) (blue_listed i ns)
blue_row i k n [] h l = absurd (let none : get_or {A = ℕ} [] k 0 ≡ 0 = refl in omega arith)
blue_row i zero n (c ∷ ns) h l =
    Listed-left (Blue (i + 0) n) (map (λ m. Blue i m) (range_with_len 1 c)) (blue_listed (i + 1) ns)
    (subst (λ j. Listed (Blue j n) (map (λ m. Blue i m) (range_with_len 1 c))) (let e : i ≡ i + 0 = omega arith in
    e) (row_listed (λ m. Blue i m) 1 c n h (omega arith)))
blue_row i (suc k) n (c ∷ ns) h l =
    Listed-right (Blue (i + suc k) n) (map (λ m. Blue i m) (range_with_len 1 c)) (blue_listed (i + 1) ns)
    (subst (λ j. Listed (Blue j n) (blue_listed (i + 1) ns)) (let e : (i + 1) + k ≡ i + suc k = omega arith in
    e) (blue_row (i + 1) k n ns h l))

row_blue : (i : ℕ) (ns : List ℕ) (x : OpName) → Listed x (blue_listed i ns) →
    (k : ℕ) × (n : ℕ) × (x ≡ Blue (i + k) n) × (1 ≤ n) × (n ≤ get_or ns k 0)
row_blue i [] x h = elim h [ ]
row_blue i (c ∷ ns) x h = at (Listed-cases x (map (λ m. Blue i m) (range_with_len 1 c)) (blue_listed (i + 1) ns) h) (row_blue (i + 1) ns x)
  where
    at : Listed x (map (λ m. Blue i m) (range_with_len 1 c)) ⊎ Listed x (blue_listed (i + 1) ns)
        → (Listed x (blue_listed (i + 1) ns) → (k : ℕ) × (n : ℕ) × (x ≡ Blue ((i + 1) + k) n) × (1 ≤ n) × (n ≤ get_or ns k 0))
        → (k : ℕ) × (n : ℕ) × (x ≡ Blue (i + k) n) × (1 ≤ n) × (n ≤ get_or (c ∷ ns) k 0)
    at (inl t) more = let (m, low, high, e) = listed_row (λ m. Blue i m) 1 c x t in
        (0, m, e ∙ ap (λ j. Blue j m) (let q : i ≡ i + 0 = omega arith in q), low, omega arith)
    at (inr t) more = let (k, n, e, low, high) = more t in (
      suc k,
      n,
      e
          ∙ ap (λ j. Blue j n) (let q : (i + 1) + k ≡ i + suc k = omega arith in q),
      low,
      high,
    )

-- the list has just the clock's names
pub listed_names : (c : Deps) (x : OpName) → names_of_clock c x ≡ true → Listed x (names_listed c)
unfolding names_listed
listed_names c (Blue i n) h =
    let (low, high) = Clocks.in_range-true n (get_or c.blue i 0) h in
    Listed-left (Blue i n) (blue_listed 0 c.blue) (map (λ m. Red m) (range_with_len 1 c.red))
    (subst (λ j. Listed (Blue j n) (blue_listed 0 c.blue)) (let e : 0 + i ≡ i = omega arith in e) (blue_row 0 i n c.blue low high))
listed_names c (Red n) h =
    let (low, high) = Clocks.in_range-true n c.red h in
    Listed-right (Red n) (blue_listed 0 c.blue) (map (λ m. Red m) (range_with_len 1 c.red))
    (row_listed (λ m. Red m) 1 c.red n low (omega arith))

-- a listed name is one that the clock counts
pub names_in_list : (c : Deps) (x : OpName) → Listed x (names_listed c) → names_of_clock c x ≡ true
unfolding names_listed
names_in_list c x h = at (Listed-cases x (blue_listed 0 c.blue) (map (λ m. Red m) (range_with_len 1 c.red)) h)
  where
    at : Listed x (blue_listed 0 c.blue) ⊎ Listed x (map (λ m. Red m) (range_with_len 1 c.red)) → names_of_clock c x ≡ true
    at (inl t) = let (k, n, e, low, high) = row_blue 0 c.blue x t in
        ap (names_of_clock c) (e ∙ ap (λ j. Blue j n) (let q : 0 + k ≡ k = omega arith in q))
        ∙ Clocks.in_range n (get_or c.blue k 0) low high
    at (inr t) = let (m, low, high, e) = listed_row (λ m. Red m) 1 c.red x t in
        ap (names_of_clock c) e ∙ Clocks.in_range m c.red low (omega arith)

-- eligible: its past is among the names
pub eligible_means : (us : List Shadow) (v : Shadow) → is_eligible us v ≡ true → IsWithin (past v) (names us)
unfolding is_eligible past
eligible_means us v h x k = all_listed (names us) (names_listed v.deps) h x (listed_names v.deps x k)

-- an operation whose past is among the names is eligible
pub eligible_from : (us : List Shadow) (v : Shadow) → IsWithin (past v) (names us) → is_eligible us v ≡ true
unfolding is_eligible past
eligible_from us v h = listed_all (names us) (names_listed v.deps) (λ x k. h x (names_in_list v.deps x k))
