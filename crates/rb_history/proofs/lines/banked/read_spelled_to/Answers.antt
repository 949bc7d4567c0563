use Rattle.rb_history.proofs.Words.{sym, ◌∙◌, view}
use Rattle.rb_history.proofs.Banked.{reads_alike, some_name, to_named}
use Rattle.rb_history.proofs.lines.banked.read_spelled_to.Goals as goal

pub returns : goal.returns
returns c =
    let bank = c.args.bank.now in
    let some = some_name bank c.as_bytes.result.now c.as_bytes.ensures.same (sym c.is_empty.ensures ∙ c.if-is_empty.false) in
    let both = to_named c.args.config.now bank c.args.line.now (view c.in_ok-value.value) some c.in_ok-value.ensures in
    reads_alike c.event_named.result _ _ _ _ _ both.0 both.1 c.event_named.ensures
