-- Which seat has the receipt of which entry.
use Rattle.std.specs.Prelude.{◌≡◌, ◌≢◌, ◌⊎◌, ℕ, ◌+◌, ◌<◌, List, Bool, true, false, ◌==◌, nat_le, if◌then◌else◌, Option}
use Rattle.std.specs.Prelude.{Some, None, length, slice_get, slice_index}
use Rattle.rb_branch.specs.declared.receipt.Receipt.{Receipt}
use Rattle.rb_branch.specs.Seats.{SeenSeat}

-- ---- the next receipt of each seat

abbrev pub has_number : ℕ → Option Receipt → Bool
has_number n None = false
has_number n (Some r) = r.number == n

-- whether the seat is of this site, and its receipt at this index has the number
abbrev pub is_next : ℕ → ℕ → ℕ → SeenSeat → Bool
is_next site index number seat = if seat.site == site then has_number number (slice_get seat.receipts index) else false

-- whether the seat has no receipt of the site from this index on
abbrev pub is_read : ℕ → ℕ → SeenSeat → Bool
is_read site index seat = if seat.site == site then nat_le (length seat.receipts) index else true

-- the seat at k has the number next
abbrev pub IsHolder : ℕ → ℕ → List SeenSeat → List ℕ → ℕ → Type 0
IsHolder site number seats next k =
    (seat : SeenSeat) × (slice_get seats k ≡ Some seat) × (is_next site (slice_index next k) number seat ≡ true)

-- all receipts of the site are read
abbrev pub AllRead : ℕ → List SeenSeat → List ℕ → Type 0
AllRead site seats next = (k : ℕ) (seat : SeenSeat) → slice_get seats k ≡ Some seat → is_read site (slice_index next k) seat ≡ true

-- ---- the table of owners

-- a receipt at an index below m has this number
pub record HasWithin (m number : ℕ) (rs : List Receipt) : Type 0 where
  pub index : ℕ
  pub receipt : Receipt
  pub below : index < m
  pub at : slice_get rs index ≡ Some receipt
  pub number_is : receipt.number ≡ number

-- the seat at k is of this site, and has a receipt of this number
pub record HoldsReceipt (site number : ℕ) (seats : List SeenSeat) (k : ℕ) : Type 0 where
  pub seat : SeenSeat
  pub at : slice_get seats k ≡ Some seat
  pub here : seat.site ≡ site
  pub has : HasWithin (length seat.receipts) number seat.receipts

-- each number of the site is claimed by one seat alone
abbrev pub AreDistinct : ℕ → List SeenSeat → Type 0
AreDistinct site seats = (number j k : ℕ) → HoldsReceipt site number seats j → HoldsReceipt site number seats k → j ≡ k

-- the table contains k for this number, if it is long enough, and all else is as before
abbrev pub Puts : ℕ → ℕ → List ℕ → List ℕ → Type 0
Puts number k old new =
    (length new ≡ length old)
    × ((i v : ℕ) → slice_get new i ≡ Some v → ((v ≡ k) × (number ≡ i + 1)) ⊎ ((slice_get old i ≡ Some v) × (number ≢ i + 1)))

-- the table contains k for the numbers of the first m receipts, if it is long enough, and all else is as before
abbrev pub PutsAll : ℕ → List Receipt → ℕ → List ℕ → List ℕ → Type 0
PutsAll m rs k old new =
    (length new ≡ length old)
    × ((i v : ℕ) → slice_get new i ≡ Some v → ((v ≡ k) × HasWithin m (i + 1) rs) ⊎ ((slice_get old i ≡ Some v) × ¬ HasWithin m (i + 1) rs))

-- the table contains at each number a seat among the first m that claims it, or the number of seats if none of these
-- does
abbrev pub OwnedWithin : ℕ → ℕ → List SeenSeat → List ℕ → Type 0
OwnedWithin m site seats owners =
    (i v : ℕ) → slice_get owners i ≡ Some v
    → ((v < m) × HoldsReceipt site (i + 1) seats v) ⊎ ((v ≡ length seats) × ((j : ℕ) → j < m → ¬ HoldsReceipt site (i + 1) seats j))

-- the table contains at each number, from 1, a seat that claims it, or the number of seats if none does
abbrev pub AreOwners : ℕ → List SeenSeat → List ℕ → Type 0
AreOwners site seats owners = OwnedWithin (length seats) site seats owners
