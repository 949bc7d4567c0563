use Rattle.rb_history.proofs.EntriesFit.{read_fits}
use Rattle.rb_history.proofs.read_entries_fit.Goals as goal

pub returns : goal.returns
returns c = read_fits
