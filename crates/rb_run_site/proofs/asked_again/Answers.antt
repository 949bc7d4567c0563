use Rattle.rb_run_site.proofs.Restarts.{asked_once}
use Rattle.rb_run_site.proofs.SameAnswers.{same_answers}
use Rattle.rb_run_site.proofs.Served.{asking_is_serving}
use Rattle.rb_run_site.proofs.asked_again.Goals as goal

pub returns-clause-once : goal.returns-clause-once
returns-clause-once c = asked_once (record {
  configs = c.configs_are_read.ensures;
  configured = c.read_configs_are_configured.ensures;
  replays = c.replays_back.ensures;
  ids = c.asked_once.ensures.once;
})

pub returns-clause-same : goal.returns-clause-same
returns-clause-same c = same_answers c.asked_once.ensures.once c.asked_once.ensures.same

pub returns-clause-serving : goal.returns-clause-serving
returns-clause-serving c = asking_is_serving
