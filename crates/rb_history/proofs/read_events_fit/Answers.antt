use Rattle.rb_history.proofs.EntriesFit.{event_fits}
use Rattle.rb_history.proofs.read_events_fit.Goals as goal

pub returns : goal.returns
returns c = event_fits
