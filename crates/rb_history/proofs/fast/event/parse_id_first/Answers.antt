use Rattle.rb_history.proofs.Words.{may_have_id, codes, rules, true, ◌≡◌}
use Rattle.rb_history.proofs.OwnLines.{id_before}
use Rattle.rb_history.proofs.fast.event.parse_id_first.Goals as goal

pub returns-clause-value : goal.returns-clause-value
returns-clause-value c =
    let read = c.in_ok-id in
    let after = c.in_ok-parse_prefix in
    let own = c.in_ok-behind in
    let last : own.behind.now ≡ codes "}" = search rules in
    let may : may_have_id c.parse_own.new.event ≡ true = search rules in
    id_before c.args.config.now c.requires read.id.now c.parse_own.new.event c.args.line.now read.rest.now
    after.field-0.now own.behind.now read.ensures.1 after.ensures own.ensures last read.ensures.0 may
