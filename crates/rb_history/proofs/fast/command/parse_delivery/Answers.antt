use Rattle.std.proofs.Common.{◌++◌, codes, ap, ◌∙◌, arith}
use Rattle.rb_history.proofs.OwnLines.{delivery_line}
use Rattle.rb_history.proofs.fast.command.parse_delivery.Goals as goal

pub returns : goal.returns
returns c =
    let s = c.args.config.now in
    let read = c.in_ok-message in
    delivery_line s c.args.first c.in_ok-site.site read.message c.args.text.now read.rest.now read.ensures.0
    (c.in_ok-parse_prefix.ensures ∙ ap (λ l. codes "deliver\":" ++ l) read.ensures.1) (omega arith) c.in_ok-site.ensures
