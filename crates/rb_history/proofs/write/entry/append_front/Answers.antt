use Rattle.rb_history.proofs.Words.{append_assoc}
use Rattle.rb_history.proofs.Public.Appended.{both, failed, then}
use Rattle.rb_history.proofs.write.entry.append_front.Goals as goal

pub returns-in_err-append_event : goal.returns-in_err-append_event
returns-in_err-append_event c =
    failed _ c.args.out.now.items _ _ _ _ c.from_residual-in_err-append_event.ensures.0 c.in_ok-append.ensures c.in_err-append_event.ensures

pub returns-in_err-append_id : goal.returns-in_err-append_id
returns-in_err-append_id c =
    let two = both c.args.out.now.items _ _ _ _ c.in_ok-append.ensures c.in_ok-append_event.ensures in
    failed _ c.args.out.now.items _ _ _ _ c.from_residual-in_err-append_id.ensures.0 two c.in_err-append_id.ensures

pub returns : goal.returns
returns c =
    let two = both c.args.out.now.items _ _ _ _ c.in_ok-append.ensures c.in_ok-append_event.ensures in
    let three = both c.args.out.now.items _ _ _ _ two c.in_ok-append_id.ensures in
    then _ c.args.out.now.items _ _ _ _ _ three c.append-2.ensures (simp append_assoc)
