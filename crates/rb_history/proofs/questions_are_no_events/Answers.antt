use Rattle.rb_history.proofs.Public.Banks.{question_none_to}
use Rattle.rb_history.proofs.questions_are_no_events.Goals as goal

pub returns : goal.returns
returns c = question_none_to
