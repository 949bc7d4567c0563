-- A teller's promise is that of its number.
use Rattle.std.proofs.Common.{ap, arith}
use Rattle.rb_branch.specs.Seats.{SeenSeat}
use Rattle.rb_run_threads.proofs.crew.Crew.hire_teller.Goals as goal

pub start_teller-requires-clause-fresh : goal.start_teller-requires-clause-fresh
start_teller-requires-clause-fresh g c = λ _ _. ap (λ (s : SeenSeat). s.receipts) c.in-Ok.ensures.ok.0

pub start_teller-requires-clause-within : goal.start_teller-requires-clause-within
start_teller-requires-clause-within g c = λ _ _. omega (arith, ap (λ (s : SeenSeat). s.site) c.in-Ok.ensures.ok.0)
