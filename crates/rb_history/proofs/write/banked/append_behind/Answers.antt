use Rattle.std.proofs.Common.{◌∙◌}
use Rattle.rb_history.proofs.Banked.{comma_first}
use Rattle.rb_history.proofs.write.banked.append_behind.Goals as goal

pub returns : goal.returns
returns c = comma_first c.args.config.now c.args.message.now c.args.out.now.items c.append_event.new.out.items c.len-at.result
    c.in_ok-append_event.ensures (c.len-at.ensures ∙ c.args.out.now.ok.0)
