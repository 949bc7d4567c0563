use Rattle.rb_history.proofs.fast.event.parse_submit.Goals as goal

pub returns : goal.returns
returns c = (tt, c.in_ok-request.ensures.0, c.in_ok-request.ensures.1)
