use Rattle.rb_history.proofs.AnswersFit.{held_fit, replies_fit}
use Rattle.rb_history.proofs.replies_fit.Goals as goal

pub returns-clause-replies : goal.returns-clause-replies
returns-clause-replies c = replies_fit

pub returns-clause-held : goal.returns-clause-held
returns-clause-held c = held_fit
