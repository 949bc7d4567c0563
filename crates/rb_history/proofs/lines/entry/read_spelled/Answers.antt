use Rattle.serde_json.specs.View.{view}
use Rattle.rb_history.proofs.EntriesFit.{site_below}
use Rattle.rb_history.proofs.lines.entry.read_spelled.Goals as goal

pub returns-clause-site : goal.returns-clause-site
returns-clause-site c = site_below c.args.config.now c.args.line.now c.asked_entry.new.id (view c.in_ok-value.value)
    c.asked_entry.result c.in_ok-value.ensures c.asked_entry.ensures
