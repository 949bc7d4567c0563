-- A deposit at one site while the other is served.
use Rattle.std.specs.Prelude.{◌≡◌, ℕ, List, [], ◌∷◌, All}
use Rattle.rb_branch.specs.Seats.{IsServed, SeenSeat}
use Rattle.rb_branch.specs.declared.receipt.Receipt.{Receipt}
use Rattle.rb_scratch.specs.declared.request.Request.TheVariants.{Deposit}
use Rattle.rb_site.specs.declared.event.Event.TheVariants.{Submit}
use Rattle.rb_uses.specs.Bank.{ann}

-- the seat at site 0 has one receipt, of the deposit
pub record IsDepositor (amount : ℕ) (seat : SeenSeat) : Type 0 where
  pub only : Receipt
  pub seat_is : seat ≡ record { site = 0; receipts = only ∷ [] }
  pub event_is : only.event ≡ Submit (Deposit ann amount)

-- the seat at site 1 has receipts of what came and of what was applied, and no other
pub record IsAttendant (seat : SeenSeat) : Type 0 where
  pub site_is : seat.site ≡ 1
  pub served : All (λ (r : Receipt). IsServed r.event) seat.receipts

-- the seats are that of the deposit at site 0 and that of the receipts at site 1
pub record AreBoth (amount : ℕ) (seats : List SeenSeat) : Type 0 where
  pub depositor : SeenSeat
  pub server : SeenSeat
  pub seats_are : seats ≡ depositor ∷ server ∷ []
  pub deposited : IsDepositor amount depositor
  pub served : IsAttendant server
