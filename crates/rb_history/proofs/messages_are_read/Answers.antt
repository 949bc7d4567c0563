use Rattle.rb_history.proofs.Banked.{sent_read}
use Rattle.rb_history.proofs.messages_are_read.Goals as goal

pub returns : goal.returns
returns c = sent_read
