use Rattle.std.proofs.Common.{◌≡◌, ℕ, List, Some}
use Rattle.std.specs.Prelude.{slice_get}
use Rattle.std.proofs.lemmas.Result.{IfOk-weaker}
use Rattle.rb_branch.specs.Gathered.{AllGathered}
use Rattle.rb_branch.specs.Seats.{SeenSeat}
use Rattle.rb_site.specs.declared.report.SiteReport.{SiteReport}
use Rattle.rb_run_threads.specs.Tellers.{IsCrew, TellersAt}
use Rattle.rb_run_threads.proofs.Picking.{tellers_at}
use Rattle.rb_run_threads.proofs.running.run_bank.Goals as goal

pub returns-clause-tellers : goal.returns-clause-tellers
returns-clause-tellers g c = IfOk-weaker c.run_with.result
    (λ rs. (seats : List SeenSeat) × IsCrew c.args.seed c.args.tellers c.args.config.sites seats × AllGathered rs.items seats)
    (λ rs. (k : ℕ) (r : SiteReport) → slice_get rs.items k ≡ Some r
    → (r.me ≡ k) × TellersAt c.args.seed c.args.tellers c.args.config.sites k r.history.items)
    (λ rs h k r at.
    let t = h.2 k r at in
    (t.0, tellers_at c.args.seed c.args.tellers c.args.config.sites k r.history.items h.0 h.1 t.1))
    c.run_with.ensures.gathered
