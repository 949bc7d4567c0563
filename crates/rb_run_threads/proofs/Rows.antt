-- Facts of each place of a list.
use Rattle.std.proofs.Common.{◌≡◌, ℕ, zero, suc, ◌+◌, ◌<◌, List, [], ◌∷◌, ◌++◌, Some, Ok, Result, map, length, sym, ap, ◌∙◌, subst}
use Rattle.std.proofs.Common.{get_or, ◌%◌, append_assoc, append-nil}
use Rattle.std.specs.Prelude.{slice_get}
use Rattle.std.proofs.lemmas.List.{length-map, nil_from_length}
use Rattle.std.proofs.lemmas.Option.{slice_get_within, get_or_from_slice_get}
use Rattle.rb_site.proofs.Public.Lists.{map_at}
use Rattle.rb_run_threads.specs.declared.server_of.ServerOf.{ServerOf}
use Rattle.rb_run_threads.specs.declared.teller_of.TellerOf.{TellerOf}

-- what is known of each place, and of one more
pub row_push : {X : Type 0} (P : ℕ → X → Type 0) (xs : List X) (x : X) → ((i : ℕ) (y : X) → slice_get xs i ≡ Some y → P i y)
    → P (length xs) x → (i : ℕ) (y : X) → slice_get (xs ++ x ∷ []) i ≡ Some y → P i y
row_push P [] x all here zero y at = (let same : x ≡ y = cc in let Q = P zero in subst Q same here)
row_push P [] x all here (suc i) y at = cc
row_push P (z ∷ xs) x all here zero y at = all zero y at
row_push P (z ∷ xs) x all here (suc i) y at = row_push (λ n. P (suc n)) xs x (λ j w. all (suc j) w) here i y at

-- a thread that ended well, at its place
pub ended : {C F : Type 0} (cs : List C) (rs : List (Result C F)) (t : ℕ) (c : C) → map Ok cs ≡ rs → slice_get cs t ≡ Some c
    → (t < length rs) × (get_or rs t (Ok c) ≡ Ok c)
ended {C} {F} cs rs t c is at =
    let P : List (Result C F) → Type 0 = λ xs. slice_get xs t ≡ Some (Ok c) in
    let here = subst P is (map_at Ok cs t c at) in
    (slice_get_within rs t (Ok c) here, get_or_from_slice_get rs t (Ok c) (Ok c) here)

-- if all ended well
pub as_many : {C F : Type 0} (cs : List C) (rs : List (Result C F)) → map Ok cs ≡ rs → length cs ≡ length rs
as_many {C} {F} cs rs is = sym (length-map {B = Result C F} cs Ok) ∙ ap length is

-- what the thread of the teller t promises
abbrev pub teller_at : ℕ → ℕ → ℕ → TellerOf
teller_at seed sites t = record { first = seed + t; site = t % sites; sites = sites }

-- what the serving thread of the site k promises
abbrev pub server_at : ℕ → ServerOf
server_at k = record { site = k }

-- the promises of threads, each by its place, and of one more
pub promise_push : {X Y : Type 0} (at : ℕ → Y) (xs xs' : List X) (x : X) (f : X → Y) (t : ℕ) → xs' ≡ xs ++ x ∷ [] → length xs ≡ t
    → ((i : ℕ) (h : X) → slice_get xs i ≡ Some h → f h ≡ at i) → f x ≡ at t
    → (i : ℕ) (h : X) → slice_get xs' i ≡ Some h → f h ≡ at i
promise_push {X} {Y} at xs xs' x f t now len all here i h found =
    let P : ℕ → X → Type 0 = λ n y. f y ≡ at n in
    let Q : List X → Type 0 = λ l. slice_get l i ≡ Some h in
    row_push P xs x all (here ∙ ap at (sym len)) i h (subst Q now found)

-- each element keeps the promise of its place, if the handles' promises are known by their places
pub promised : {H C Y : Type 0} (hs : List H) (cs : List C) (f : H → Y) (at : ℕ → Y) (K : Y → C → Type 0)
    → ((k : ℕ) (h : H) → slice_get hs k ≡ Some h → f h ≡ at k)
    → ((k : ℕ) (c : C) → slice_get cs k ≡ Some c → (h : H) × (slice_get hs k ≡ Some h) × K (f h) c)
    → (k : ℕ) (c : C) → slice_get cs k ≡ Some c → K (at k) c
promised hs cs f at K known kept k c here =
    let of = kept k c here in
    subst (λ p. K p c) (known k of.0 of.1) of.2

-- two lists that are a third one, after the first element of the second goes to the end of the first
pub moved : {X : Type 0} (xs xs' ys ys' all : List X) (x : X) → xs' ≡ xs ++ x ∷ [] → ys ≡ x ∷ ys' → xs ++ ys ≡ all → xs' ++ ys' ≡ all
moved xs xs' ys ys' all x one more is =
    ap (λ l. l ++ ys') one ∙ (append_assoc xs (x ∷ []) ys' ∙ (ap (λ l. xs ++ l) (sym more) ∙ is))

-- once the second has no element
pub all_moved : {X : Type 0} (xs ys all : List X) → length ys ≡ 0 → xs ++ ys ≡ all → xs ≡ all
all_moved xs ys all none is = sym (append-nil xs) ∙ (ap (λ l. xs ++ l) (sym (nil_from_length ys none)) ∙ is)
