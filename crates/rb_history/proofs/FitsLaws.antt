-- A value that is read fits, if it is there, step by step.
use Rattle.rb_history.proofs.Words.{field, Each, IsKnown, account_place, asked_of, place_at, either, name_at, number_below, pair_of}
use Rattle.rb_history.proofs.Words.{Settings, Place, NOWHERE, IsName, candidate, is_name, name_of, name_text, OpName, Blue, Red, Data}
use Rattle.rb_history.proofs.Words.{as_number, as_str, as_u64, get, Bool, IfSome, List, None, Option, Some, [], bytes_eq, false, inl, inr}
use Rattle.rb_history.proofs.Words.{refl, subst, true, ℕ, ◌&&◌, ◌<◌, ◌^◌, ◌∷◌, ◌≡◌, and_parts, ltb-true, position-Some, position}
use Rattle.rb_history.proofs.Words.{if◌then◌else◌, nat_lt, option_and_then, option_map, unwrap_or}

-- numbers of 8, 32 and 64 bits
abbrev pub IsByte : ℕ → Type 0
IsByte n = n < 2 ^ 8

-- of 32
abbrev pub IsWord : ℕ → Type 0
IsWord n = n < 2 ^ 32

-- of 64
abbrev pub IsLong : ℕ → Type 0
IsLong n = n < 2 ^ 64

-- what fits, if it is there, gives what fits
pub fits_then : {A B : Type 0} (P : A → Type 0) (Q : B → Type 0) (f : A → Option B) (o : Option A)
    → IfSome o P → ((x : A) → P x → IfSome (f x) Q) → IfSome (option_and_then f o) Q
fits_then P Q f None h g = tt
fits_then P Q f (Some x) h g = g x h

-- the same if nothing is known of what is there
pub fits_next : {A B : Type 0} (Q : B → Type 0) (f : A → Option B) (o : Option A)
    → ((x : A) → IfSome (f x) Q) → IfSome (option_and_then f o) Q
fits_next Q f None g = tt
fits_next Q f (Some x) g = g x

-- what is made of what fits
pub fits_map : {A B : Type 0} (P : A → Type 0) (Q : B → Type 0) (f : A → B) (o : Option A)
    → IfSome o P → ((x : A) → P x → Q (f x)) → IfSome (option_map f o) Q
fits_map P Q f None h g = tt
fits_map P Q f (Some x) h g = g x h

-- the same if nothing is known of what is there
pub fits_made : {A B : Type 0} (Q : B → Type 0) (f : A → B) (o : Option A) → ((x : A) → Q (f x)) → IfSome (option_map f o) Q
fits_made Q f None g = tt
fits_made Q f (Some x) g = g x

-- a value that is there only if a test holds
pub fits_if : {A : Type 0} (Q : A → Type 0) (b : Bool) (o : Option A) → (b ≡ true → IfSome o Q) → IfSome (if b then o else None) Q
fits_if Q true o h = h refl
fits_if Q false o h = tt

-- a value is there only if the test holds
pub tested : {A : Type 0} (b : Bool) (o : Option A) (x : A) → (if b then o else None) ≡ Some x → b ≡ true
tested true o x e = refl
tested false o x e = absurd (cc)

-- one or the other, as a test says
pub fits_choice : {A : Type 0} (Q : A → Type 0) (b : Bool) (o p : Option A) → IfSome o Q → IfSome p Q → IfSome (if b then o else p) Q
fits_choice Q true o p h k = h
fits_choice Q false o p h k = k

-- what the value of a key gives, or what comes next if the key isn't there
pub fits_either : {A : Type 0} (Q : A → Type 0) (o : Option Data) (f : Data → Option A) (next : Option A)
    → ((d : Data) → IfSome (f d) Q) → IfSome next Q → IfSome (either o f next) Q
fits_either Q None f next h k = k
fits_either Q (Some d) f next h k = h d

-- what the value of a key gives
pub fits_field : {A : Type 0} (Q : A → Type 0) (key : List ℕ) (f : Data → Option A) (d : Data)
    → ((d : Data) → IfSome (f d) Q) → IfSome (field key f d) Q
fits_field Q key f d h = fits_next Q f (get key d) h

-- an item before others
pub fits_cons : {A : Type 0} (P : A → Type 0) (o : Option A) (os : Option (List A))
    → IfSome o P → IfSome os (Each P) → IfSome (option_and_then (λ x. option_map (λ later. x ∷ later) os) o) (Each P)
fits_cons P o os h k =
    fits_then P (Each P) (λ x. option_map (λ later. x ∷ later) os) o h (λ x p.
    fits_map (Each P) (Each P) (λ later. x ∷ later) os k (λ later ps. (p, ps)))

-- what is there fits
pub fits_some : {A : Type 0} (Q : A → Type 0) (o : Option A) (x : A) → IfSome o Q → o ≡ Some x → Q x
fits_some Q None x h e = absurd (cc)
fits_some Q (Some y) x h e = let same : y ≡ x = cc in subst Q same h

-- ---- a number, a name or a place that is read fits its type

-- a number below a bound
pub number : (bound : ℕ) (d : Data) → IfSome (number_below bound d) (λ n. n < bound)
number bound d =
    fits_next (λ n. n < bound) (λ n. if nat_lt n bound then Some n else None) (option_and_then as_u64 (as_number d)) (λ n.
    fits_if (λ n. n < bound) (nat_lt n bound) (Some n) (λ e. ltb-true n bound e))

-- that of a key
pub number_at : (bound : ℕ) (key : List ℕ) (d : Data) → IfSome (field key (number_below bound) d) (λ n. n < bound)
number_at bound key d = fits_field (λ n. n < bound) key (number_below bound) d (number bound)

name_fits : (x : OpName) → is_name x ≡ true → IsName x
name_fits (Blue site n) e =
    let p = and_parts (nat_lt site (2 ^ 8)) (nat_lt n (2 ^ 32)) e in
    (ltb-true site (2 ^ 8) p.0, ltb-true n (2 ^ 32) p.1)
name_fits (Red n) e = ltb-true n (2 ^ 32) e

-- an operation's name
pub name : (d : Data) → IfSome (name_at d) IsName
name d = fits_next IsName name_of (as_str d) (λ text.
    let x = candidate text in
    fits_if IsName (is_name x && bytes_eq (name_text x) text) (Some x)
    (λ e. name_fits x (and_parts (is_name x) (bytes_eq (name_text x) text) e).0))

known : (s : Settings) (name : List ℕ) → IsKnown s (account_place s name)
known s name = by (position (λ n. bytes_eq name n) s.names) refl
  where
    by : (o : Option ℕ) → position (λ n. bytes_eq name n) s.names ≡ o → IsKnown s (unwrap_or (option_map (λ i. record { 0 = i }) o) NOWHERE)
    by None e = inr refl
    by (Some i) e = inl (position-Some (λ n. bytes_eq name n) s.names i [] e).0

-- the place of an account's name
pub place : (s : Settings) (d : Data) → IfSome (place_at s d) (IsKnown s)
place s d = fits_made (IsKnown s) (account_place s) (as_str d) (known s)

-- what is made of an account and a number
pub asked : {A : Type 0} (Q : A → Type 0) (s : Settings) (bound : ℕ) (ask : Place → ℕ → A) (d : Data)
    → ((a : Place) (n : ℕ) → IsKnown s a → n < bound → Q (ask a n)) → IfSome (asked_of s bound ask d) Q
asked Q s bound ask d give =
    fits_next Q _ (pair_of d) (λ p.
    fits_then (IsKnown s) Q _ (place_at s p.0) (place s p.0) (λ a there.
    fits_map (λ n. n < bound) Q (ask a) (number_below bound p.1) (number bound p.1) (λ n small. give a n there small)))
