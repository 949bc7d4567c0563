use Rattle.std.proofs.Common.{sym}
use Rattle.rb_run_threads.proofs.Telling.{teller_first, teller_next}
use Rattle.rb_run_threads.proofs.teller.make_calls.Goals as goal

pub loop-i-init : goal.loop-i-init
loop-i-init g c = teller_first _ _ _ _ (sym c.site-site.ensures.same) c.requires.fresh

pub loop-i-preserved : goal.loop-i-preserved
loop-i-preserved g c =
    teller_next c.args.first c.site-site.result c.args.sites c.loop-i.seat c.send.new.seat c.loop-i.x c.next_x-x.result c.loop-i.last
    c.last_made-last.result c.loop-i._i c.in_ok-_number._number c.call_at-event.result
    c.loop-i.invariant c.next_x-x.ensures c.call_at-event.ensures c.in_ok-_number.ensures.ok c.last_made-last.ensures
