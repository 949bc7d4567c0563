-- Numbers with a sign in a value that a text is: each fits 64 bits.
use Rattle.rb_history.proofs.Words.{◌≡◌, ◌<◌, ◌≤◌, ◌^◌, ℕ, zero, suc, pos, Bool, true, false, Float, List, Option, Some, None, refl, arith}
use Rattle.rb_history.proofs.Words.{◌&&◌, IfSome, if◌then◌else◌, nat_le, nat_lt, neg_ℤ, option_and_then, option_map, ⊤, match_ordering}
use Rattle.rb_history.proofs.Words.{nat_cmp, slice_cmp, and_parts, leb-true, ltb-true, Num, unsigned, negative, float, Data, number, array}
use Rattle.rb_history.proofs.Words.{object, Items, no_items, item, Members, no_members, member, put, as_array, as_number, get, get_member}
use Rattle.rb_history.proofs.Words.{of_items, of_json, of_members, read, IsMoved}
use Rattle.std.specs.declared.cmp.Ordering.{Ordering}
use Rattle.std.specs.declared.cmp.Ordering.TheVariants.{Less, Equal, Greater}
use Rattle.json.specs.Json as json
use Rattle.serde_json.specs.Read.{number_of}
use Rattle.rb_history.proofs.FitsLaws.{fits_map, fits_then}

-- a negative number fits 64 bits
abbrev pub FitsNumber : Num → Type 0
FitsNumber (negative z) = IsMoved z
FitsNumber _ = ⊤

abbrev mutual
  pub Fits : Data → Type 0
  Fits (number n) = FitsNumber n
  Fits (array ds) = FitItems ds
  Fits (object ms) = FitMembers ms
  Fits _ = ⊤

  pub FitItems : Items → Type 0
  FitItems no_items = ⊤
  FitItems (item d ds) = Fits d × FitItems ds

  pub FitMembers : Members → Type 0
  FitMembers no_members = ⊤
  FitMembers (member k d ms) = Fits d × FitMembers ms

-- ---- what a text is

moved_back : (n : ℕ) → 0 < n → n ≤ 2 ^ 63 → IsMoved (neg_ℤ (pos n))
moved_back zero some few = absurd (omega arith)
moved_back (suc n) some few = let small : n < 2 ^ 63 = omega arith in small

-- an integer of 64 bits, with its sign; any other number is a float
float_fits : (b : Bool) (x : Float) → IfSome (if b then Some (float x) else None) FitsNumber
float_fits true x = tt
float_fits false x = tt

unsigned_fits : (b : Bool) (n : ℕ) (o : Option Num) → IfSome o FitsNumber → IfSome (if b then Some (unsigned n) else o) FitsNumber
unsigned_fits true n o h = tt
unsigned_fits false n o h = h

negative_fits : (integer : Bool) (n : ℕ) (o : Option Num) → IfSome o FitsNumber
    → IfSome (if integer && nat_lt 0 n && nat_le n (2 ^ 63) then Some (negative (neg_ℤ (pos n))) else o) FitsNumber
negative_fits integer n o h = by (integer && nat_lt 0 n && nat_le n (2 ^ 63)) refl
  where
    by : (b : Bool) → (integer && nat_lt 0 n && nat_le n (2 ^ 63)) ≡ b
        → IfSome (if b then Some (negative (neg_ℤ (pos n))) else o) FitsNumber
    by false e = h
    by true e =
        let front = and_parts (integer && nat_lt 0 n) (nat_le n (2 ^ 63)) e in
        let some = (and_parts integer (nat_lt 0 n) front.0).1 in
        moved_back n (ltb-true 0 n some) (leb-true n (2 ^ 63) front.1)

either_fits : (b : Bool) (o p : Option Num) → IfSome o FitsNumber → IfSome p FitsNumber → IfSome (if b then o else p) FitsNumber
either_fits true o p h k = h
either_fits false o p h k = k

fits_number : (s : List ℕ) → IfSome (number_of s) FitsNumber
unfolding number_of
fits_number s = search (either_fits, negative_fits, unsigned_fits, float_fits)

fits_put : (k : List ℕ) (d : Data) (ms : Members) → Fits d → FitMembers ms → FitMembers (put k d ms)
fits_put k d no_members h f = (h, tt)
fits_put k d (member l e ms) h f = by (fits_put k d ms h f.1) (slice_cmp nat_cmp k l)
  where
    by : FitMembers (put k d ms) → (o : Ordering)
        → FitMembers (match_ordering o (member k d (member l e ms)) (member l d ms) (member l e (put k d ms)))
    by later Less = (h, f)
    by later Equal = (h, f.1)
    by later Greater = (f.0, later)

mutual
  fits_json : (j : json.Json) → IfSome (of_json j) Fits
  fits_json json.null = tt
  fits_json (json.boolean b) = tt
  fits_json (json.number s) = fits_map FitsNumber Fits number (number_of s) (fits_number s) (λ n h. h)
  fits_json (json.string s) = tt
  fits_json (json.array js) = fits_map FitItems Fits array (of_items js) (fits_items js) (λ ds h. h)
  fits_json (json.object ms) = fits_map FitMembers Fits object (of_members ms no_members) (fits_members ms no_members tt) (λ ms h. h)

  fits_items : (js : json.Items) → IfSome (of_items js) FitItems
  fits_items json.no_items = tt
  fits_items (json.item j js) = fits_then Fits FitItems (λ d. option_map (item d) (of_items js)) (of_json j) (fits_json j)
      (λ d h. fits_map FitItems FitItems (item d) (of_items js) (fits_items js) (λ ds k. (h, k)))

  fits_members : (ms : json.Members) (found : Members) → FitMembers found → IfSome (of_members ms found) FitMembers
  fits_members json.no_members found f = f
  fits_members (json.member k j ms) found f = fits_then Fits FitMembers (λ d. of_members ms (put k d found)) (of_json j) (fits_json j)
      (λ d h. fits_members ms (put k d found) (fits_put k d found h f))

fits_parsed : (o : Option json.Json) → IfSome (option_and_then of_json o) Fits
fits_parsed None = tt
fits_parsed (Some j) = fits_json j

-- so do those of the value that a text is
pub fits_read : (text : List ℕ) → IfSome (read text) Fits
fits_read text = search (fits_parsed)

-- ---- parts of it

fits_member : (k : List ℕ) (ms : Members) → FitMembers ms → IfSome (get_member k ms) Fits
fits_member k no_members f = tt
fits_member k (member l e ms) f = by (fits_member k ms f.1) (slice_cmp nat_cmp k l)
  where
    by : IfSome (get_member k ms) Fits → (o : Ordering) → IfSome (match_ordering o (get_member k ms) (Some e) (get_member k ms)) Fits
    by later Equal = f.0
    by later _ = later

-- and those of the value of a key
pub fits_get : (k : List ℕ) (d : Data) → Fits d → IfSome (get k d) Fits
fits_get k (object ms) f = fits_member k ms f
fits_get k _ f = tt

-- and those of a list's items
pub fits_array : (d : Data) → Fits d → IfSome (as_array d) FitItems
fits_array (array ds) f = f
fits_array _ f = tt

-- and the number that a value is
pub fits_signed : (d : Data) → Fits d → IfSome (as_number d) FitsNumber
fits_signed (number n) f = f
fits_signed _ f = tt
