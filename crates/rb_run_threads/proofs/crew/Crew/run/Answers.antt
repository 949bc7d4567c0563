-- The seats are those of the tellers and then those of the serving threads.
use Rattle.std.proofs.Common.{sym, ◌∙◌}
use Rattle.std.proofs.lemmas.Result.{IfOk-from_err, IfOk-weaker}
use Rattle.rb_run_threads.specs.declared.server_of.ServerOf.{ServerOf}
use Rattle.rb_run_threads.specs.declared.teller_of.TellerOf.{TellerOf}
use Rattle.rb_run_threads.specs.Tellers.{IsServer, IsTeller}
use Rattle.rb_run_threads.proofs.Rows.{promised, server_at, teller_at}
use Rattle.rb_run_threads.proofs.crew.Crew.run.Goals as goal

pub returns-in_err-outbox : goal.returns-in_err-outbox
returns-in_err-outbox g c = IfOk-from_err c.from_residual.result _ c.from_residual.ensures.0

pub returns-in_err-servers : goal.returns-in_err-servers
returns-in_err-servers g c = IfOk-from_err c.from_residual-in_err-servers.result _ c.from_residual-in_err-servers.ensures.0

pub returns-in_err-hired : goal.returns-in_err-hired
returns-in_err-hired g c = IfOk-from_err c.from_residual-in_err-hired.result _ c.from_residual-in_err-hired.ensures.0

pub returns-in_err-hired-2 : goal.returns-in_err-hired-2
returns-in_err-hired-2 g c = IfOk-from_err c.from_residual-in_err-hired-2.result _ c.from_residual-in_err-hired-2.ensures.0

pub returns-in_err-servers-2 : goal.returns-in_err-servers-2
returns-in_err-servers-2 g c = IfOk-from_err c.from_residual-in_err-servers-2.result _ c.from_residual-in_err-servers-2.ensures.0

pub hire_servers-requires-after_bounds : goal.hire_servers-requires-after_bounds
hire_servers-requires-after_bounds g c = λ _ _. c.in_ok-outbox.ensures.inlets

pub hire_tellers-requires-after_bounds : goal.hire_tellers-requires-after_bounds
hire_tellers-requires-after_bounds g c = λ _ _. c.requires

pub returns : goal.returns
returns g c = IfOk-weaker c.together.result _ _ (λ seats are. record {
  hired = c.in_ok-hired-2.hired.items;
  serving = c.in_ok-servers-2.servers.items;
  seats_are = are;
  count = sym c.in_ok-hired-2.hired.ok.0 ∙ (c.in_ok-hired-2.ensures.len ∙ c.in_ok-hired.ensures.len);
  each = promised c.in_ok-hired.hired.items c.in_ok-hired-2.hired.items (λ h. h.promise)
      (teller_at c.args.seed c.args.self.now.sites) (λ (p : TellerOf). IsTeller p.first p.site p.sites)
      c.in_ok-hired.ensures.each c.in_ok-hired-2.ensures.each;
  served = sym c.in_ok-servers-2.servers.ok.0 ∙ (c.in_ok-servers-2.ensures.len ∙ c.in_ok-servers.ensures.len);
  servers = promised c.in_ok-servers.servers.items c.in_ok-servers-2.servers.items (λ h. h.promise) server_at
      (λ (p : ServerOf). IsServer p.site) c.in_ok-servers.ensures.each c.in_ok-servers-2.ensures.each;
}) c.together.ensures
