use Rattle.rb_site.proofs.Public.Unchanging
use Rattle.rb_site.proofs.unchanging_events_left_out.Goals as goal

pub returns : goal.returns
returns c = Unchanging.left_out
