-- A serving thread's promise is that of its site.
use Rattle.std.proofs.Common.{ap}
use Rattle.rb_branch.specs.Seats.{SeenSeat}
use Rattle.rb_run_threads.proofs.crew.Crew.hire_server.Goals as goal

pub start_server-requires-after_bounds : goal.start_server-requires-after_bounds
start_server-requires-after_bounds g c = λ _ _. ap (λ (s : SeenSeat). s.receipts) c.in-Ok.ensures.ok.0
