use Rattle.rb_history.proofs.Public.Banks.{nothing_asked}
use Rattle.rb_history.proofs.other_banks_ask_nothing.Goals as goal

pub returns : goal.returns
returns c = nothing_asked
