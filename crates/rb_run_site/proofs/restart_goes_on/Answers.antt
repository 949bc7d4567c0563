use Rattle.rb_run_site.proofs.Restarts.{RestartLaws, goes_on, is_taken, new_is_taken, one_run}
use Rattle.rb_run_site.proofs.restart_goes_on.Goals.{After-asked_once}
use Rattle.rb_run_site.proofs.restart_goes_on.Goals as goal

-- the laws that the calls say
laws : (c : After-asked_once) → RestartLaws
laws c = record {
  configs = c.configs_are_read.ensures;
  configured = c.read_configs_are_configured.ensures;
  replays = c.replays_back.ensures;
  ids = c.asked_once.ensures.once;
}

pub returns-clause-site : goal.returns-clause-site
returns-clause-site c = goes_on (laws (goal.at.returns-clause-site c).After-asked_once)

pub returns-clause-run : goal.returns-clause-run
returns-clause-run c = one_run (laws (goal.at.returns-clause-run c).After-asked_once)

pub returns-clause-taken : goal.returns-clause-taken
returns-clause-taken c = is_taken (laws (goal.at.returns-clause-taken c).After-asked_once)

pub returns-clause-new : goal.returns-clause-new
returns-clause-new c = new_is_taken
