use Rattle.rb_run_site.proofs.Refused.{all_refused}
use Rattle.rb_run_site.proofs.other_banks_change_nothing.Goals as goal

pub returns : goal.returns
returns c = all_refused c.other_banks_are_refused.ensures
