-- Which seat claims each number.
use Rattle.std.proofs.Common.{◌≡◌, ◌≢◌, ℕ, zero, suc, ◌+◌, ◌<◌, ◌≤◌, ◌==◌, ◌⊎◌, inl, inr, List, [], ◌∷◌, Bool, true, false, Option, Some}
use Rattle.std.proofs.Common.{None, map, length, get_or, set, refl, sym, ap, ◌∙◌, subst, arith}
use Rattle.std.specs.Prelude.{slice_get, slice_index, if◌then◌else◌}
use Rattle.std.proofs.lemmas.Bool.{eqb-true, eq-eqb}
use Rattle.std.proofs.lemmas.Bool.Decides.{eqb_tells}
use Rattle.std.proofs.lemmas.Option.{slice_get_within, slice_get-get_or}
use Rattle.rb_site.specs.declared.entry.Entry.{Entry}
use Rattle.rb_branch.specs.declared.receipt.Receipt.{Receipt}
use Rattle.rb_branch.specs.Gathered.{IsGathered, IsInterleaving, claim, claims, claims_at, numbered}
use Rattle.rb_branch.specs.Owners.{AreDistinct, AreOwners, HoldsReceipt, HasWithin, IsHolder, OwnedWithin, PutsAll, has_number, is_next}
use Rattle.rb_branch.specs.Seats.{SeenSeat}
use Rattle.rb_site.proofs.Public.Lists.{map_at}
use Rattle.rb_site.proofs.Public.Places.{get_set_other, get_set_same}

-- ---- the table with one seat more

claims_of : (site number m : ℕ) (seats : List SeenSeat) (c : SeenSeat) → slice_get seats m ≡ Some c → HoldsReceipt site number seats m
    → (c.site ≡ site) × HasWithin (length c.receipts) number c.receipts
claims_of site number m seats c at h =
    let same : h.seat ≡ c = cc (h.at, at) in
    let P : SeenSeat → Type 0 = λ d. (d.site ≡ site) × HasWithin (length d.receipts) number d.receipts in
    subst P same (h.here, h.has)

not_more : (site number m : ℕ) (seats : List SeenSeat) → ((j : ℕ) → j < m → ¬ HoldsReceipt site number seats j)
    → ¬ HoldsReceipt site number seats m → (j : ℕ) → j < m + 1 → ¬ HoldsReceipt site number seats j
not_more site number m seats below here j b h =
    elim (eqb_tells j m) [
      | inl p ↦ (let P : ℕ → Type 0 = λ n. HoldsReceipt site number seats n in here (subst P p.1 h))
      | inr p ↦ below j (let a = p.1 in omega arith) h
    ]

-- one seat of the site more is in the table
pub owned_more : (site m : ℕ) (seats : List SeenSeat) (c : SeenSeat) (old new : List ℕ) → slice_get seats m ≡ Some c → c.site ≡ site
    → OwnedWithin m site seats old → PutsAll (length c.receipts) c.receipts m old new → OwnedWithin (m + 1) site seats new
owned_more site m seats c old new at here all one i v now =
    elim (one.1 i v now) [
      | inl h ↦
          (let P : ℕ → Type 0 = λ n. HoldsReceipt site (i + 1) seats n in
          let e = h.0 in
          inl ((omega arith), subst P (sym e) (record { seat = c; at = at; here = here; has = h.1 })))
      | inr h ↦
          (elim (all i v h.0) [
            | inl g ↦ inl ((let b = g.0 in omega arith), g.1)
            | inr g ↦ inr (g.0, not_more site (i + 1) m seats g.1 (λ t. h.1 (claims_of site (i + 1) m seats c at t).1))
          ])
    ]

-- one seat of another site more changes nothing
pub owned_same : (site m : ℕ) (seats : List SeenSeat) (c : SeenSeat) (xs : List ℕ) → slice_get seats m ≡ Some c → c.site ≢ site
    → OwnedWithin m site seats xs → OwnedWithin (m + 1) site seats xs
owned_same site m seats c xs at away all i v now =
    elim (all i v now) [
      | inl g ↦ inl ((let b = g.0 in omega arith), g.1)
      | inr g ↦ inr (g.0, not_more site (i + 1) m seats g.1 (λ t. away (claims_of site (i + 1) m seats c at t).0))
    ]

-- ---- who has a number next claims it

has_if : (b : Bool) (rs : List Receipt) (index number : ℕ) → (if b then has_number number (slice_get rs index) else false) ≡ true
    → (b ≡ true) × HasWithin (length rs) number rs
has_if true rs index number h = (refl, has_at (slice_get rs index) refl h)
  where
    has_at : (o : Option Receipt) → slice_get rs index ≡ o → has_number number o ≡ true → HasWithin (length rs) number rs
    has_at None at h = cc
    has_at (Some r) at h = record {
      index = index;
      receipt = r;
      below = slice_get_within rs index r at;
      at = at;
      number_is =
          eqb-true _ _ h;
    }
has_if false rs index number h = cc

-- who has a number next has a receipt of it
pub holder_claims : (site number : ℕ) (seats : List SeenSeat) (next : List ℕ) (k : ℕ) → IsHolder site number seats next k
    → HoldsReceipt site number seats k
holder_claims site number seats next k h =
    let c = h.0 in
    let t = has_if (c.site == site) c.receipts (slice_index next k) number h.2 in
    record { seat = c; at = h.1; here = eqb-true _ _ t.0; has = t.1 }

-- if the table's seat has the number not next, nobody has
pub none_holds : (site i : ℕ) (seats : List SeenSeat) (next owners : List ℕ) (v : ℕ) → AreOwners site seats owners
    → slice_get owners i ≡ Some v → ¬ IsHolder site (i + 1) seats next v
    → AreDistinct site seats → (k : ℕ) → IsHolder site (i + 1) seats next k → ⊥
none_holds site i seats next owners v all at not distinct k h =
    let mine = holder_claims site (i + 1) seats next k h in
    let within = slice_get_within seats k h.0 h.1 in
    elim (all i v at) [
      | inl g ↦
          (let P : ℕ → Type 0 = λ n. IsHolder site (i + 1) seats next n in
          not (subst P (distinct (i + 1) k v mine g.1) h))
      | inr g ↦ g.1 k within mine
    ]

-- ---- numbers of an interleaving are there once

-- an item that is in the list at this place
pub record Occurs {X : Type 0} (lists : List (List X)) (j : ℕ) (x : X) : Type 0 where
  pub items : List X
  pub index : ℕ
  pub there : slice_get lists j ≡ Some items
  pub at : slice_get items index ≡ Some x

-- after a head is taken, it was that one, or it is still there
left_or_head : {X : Type 0} (lists : List (List X)) (k : ℕ) (head : X) (rest : List X) (j : ℕ) (x : X)
    → slice_get lists k ≡ Some (head ∷ rest) → Occurs lists j x
    → ((j ≡ k) × (x ≡ head)) ⊎ Occurs (set lists k rest) j x
left_or_head {X} lists k head rest j x at h =
    elim (eqb_tells j k) [
      | inl e ↦
          (let P : ℕ → Type 0 = λ n. slice_get lists n ≡ Some h.items in
          let there = subst P e.1 h.there in
          let same : h.items ≡ head ∷ rest = cc (there, at) in
          let Q : List X → Type 0 = λ l. slice_get l h.index ≡ Some x in
          by e.1 h.index (subst Q same h.at))
      | inr e ↦ inr (record { items = h.items; index = h.index; there = get_set_other lists k j rest e.1 ∙ h.there; at = h.at })
    ]
  where
    by : j ≡ k → (p : ℕ) → slice_get (head ∷ rest) p ≡ Some x → ((j ≡ k) × (x ≡ head)) ⊎ Occurs (set lists k rest) j x
    by e zero q = inl (e, (cc))
    by e (suc p) q =
        let P : ℕ → Type 0 = λ n. slice_get (set lists k rest) n ≡ Some rest in
        inr (record { items = rest; index = p; there = subst P (sym e) (get_set_same lists k (head ∷ rest) rest at); at = q })

numbers_from : (lists : List (List (ℕ × Entry))) (m : ℕ) (es : List Entry) (j : ℕ) (x : ℕ × Entry) → IsInterleaving lists (numbered m es)
    → Occurs lists j x → m ≤ x.0
numbers_from lists m [] j x h o =
    let gone = h j o.items o.there in
    let P : List (ℕ × Entry) → Type 0 = λ l. slice_get l o.index ≡ Some x in
    let none = subst P gone o.at in
    cc
numbers_from lists m (f ∷ es) j x h o =
    elim (left_or_head lists h.0 (m, f) h.1 j x h.2 o) [
      | inl e ↦ (let n = ap (λ (p : ℕ × Entry). p.0) e.1 in omega arith)
      | inr r ↦ (let later = numbers_from (set lists h.0 h.1) (m + 1) es j x h.3 r in omega arith)
    ]

is_once : (lists : List (List (ℕ × Entry))) (m : ℕ) (es : List Entry) (j k : ℕ) (x y : ℕ × Entry)
    → IsInterleaving lists (numbered m es) → Occurs lists j x → Occurs lists k y → x.0 ≡ y.0 → j ≡ k
is_once lists m [] j k x y h o u same =
    let gone = h j o.items o.there in
    let P : List (ℕ × Entry) → Type 0 = λ l. slice_get l o.index ≡ Some x in
    let none = subst P gone o.at in
    cc
is_once lists m (f ∷ es) j k x y h o u same =
    elim (left_or_head lists h.0 (m, f) h.1 j x h.2 o) [
      | inl e ↦
          (elim (left_or_head lists h.0 (m, f) h.1 k y h.2 u) [
            | inl g ↦ e.0 ∙ sym g.0
            | inr g ↦
                (let later = numbers_from (set lists h.0 h.1) (m + 1) es k y h.3 g in
                let n = ap (λ (p : ℕ × Entry). p.0) e.1 in
                absurd (omega arith))
          ])
      | inr e ↦
          (elim (left_or_head lists h.0 (m, f) h.1 k y h.2 u) [
            | inl g ↦
                (let later = numbers_from (set lists h.0 h.1) (m + 1) es j x h.3 e in
                let n = ap (λ (p : ℕ × Entry). p.0) g.1 in
                absurd (omega arith))
            | inr g ↦ is_once (set lists h.0 h.1) (m + 1) es j k x y h.3 e g same
          ])
    ]

claims_occur : (site number : ℕ) (seats : List SeenSeat) (k : ℕ) → HoldsReceipt site number seats k
    → (x : ℕ × Entry) × (x.0 ≡ number) × Occurs (claims site seats) k x
claims_occur site number seats k h =
    let c = h.seat in
    let r = h.has.receipt in
    let is : (c.site == site) ≡ true = eq-eqb _ _ h.here in
    let here : slice_get (claims site seats) k ≡ Some (claims_at site c) = map_at (claims_at site) seats k c h.at in
    let P : List (ℕ × Entry) → Type 0 = λ l. slice_get l h.has.index ≡ Some (claim r) in
    let all : map claim c.receipts ≡ claims_at site c = λ i. if (sym is i) then map claim c.receipts else [] in (
      claim r,
      h.has.number_is,
      record {
        items = claims_at site c;
        index = h.has.index;
        there = here;
        at =
            subst P all (map_at claim c.receipts h.has.index r h.has.at);
      },
    )

-- the numbers of a gathered history are claimed by one seat each
pub distinct : (site : ℕ) (history : List Entry) (seats : List SeenSeat) → IsGathered site history seats → AreDistinct site seats
distinct site history seats h number j k a b =
    let o = claims_occur site number seats j a in
    let u = claims_occur site number seats k b in
    is_once (claims site seats) 1 history j k o.0 u.0 h o.2 u.2 (o.1 ∙ sym u.1)

-- ---- the test of one seat

-- the seat that was tested has the number next
pub holds_here : (site number : ℕ) (seats : List SeenSeat) (next : List ℕ) (v : ℕ) (c : SeenSeat) (b : Bool) → v < length seats
    → c ≡ get_or seats v c → b ≡ is_next site (slice_index next v) number c → b ≡ true → IsHolder site number seats next v
holds_here site number seats next v c b within is counted positive =
    (c, slice_get-get_or seats v c within ∙ ap Some (sym is), sym counted ∙ positive)

-- the seat that was tested has it not
pub holds_not : (site number : ℕ) (seats : List SeenSeat) (next : List ℕ) (v : ℕ) (c : SeenSeat) (b : Bool) → v < length seats
    → c ≡ get_or seats v c → b ≡ is_next site (slice_index next v) number c → b ≡ false → ¬ IsHolder site number seats next v
holds_not site number seats next v c b within is counted negative h =
    let found : slice_get seats v ≡ Some c = slice_get-get_or seats v c within ∙ ap Some (sym is) in
    let same : h.0 ≡ c = cc (h.1, found) in
    let P : SeenSeat → Type 0 = λ d. is_next site (slice_index next v) number d ≡ true in
    let positive = subst P same h.2 in
    let both : false ≡ true = sym negative ∙ counted ∙ positive in
    cc

-- there is no seat past the last
pub holds_past : (site number : ℕ) (seats : List SeenSeat) (next : List ℕ) (v : ℕ) → length seats ≤ v → ¬ IsHolder site number seats next v
holds_past site number seats next v past h = let within = slice_get_within seats v h.0 h.1 in omega arith

-- all seats are in the table
pub owned_all : (site m : ℕ) (seats : List SeenSeat) (xs : List ℕ) → length seats ≤ m → OwnedWithin m site seats xs
    → AreOwners site seats xs
owned_all site m seats xs past all i v at =
    elim (all i v at) [
      | inl g ↦ inl (slice_get_within seats v g.1.seat g.1.at, g.1)
      | inr g ↦ inr (g.0, λ j b. g.1 j (omega arith))
    ]
