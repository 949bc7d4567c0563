use Rattle.rb_history.proofs.Words.{is_id, may_have_id, [], rules, true, ◌≡◌}
use Rattle.rb_history.proofs.OwnLines.{ended_line}
use Rattle.rb_history.proofs.Public.IdText.{id_some}
use Rattle.rb_history.proofs.fast.event.parse_id_last.Goals as goal
use Rattle.rb_history.proofs.fast.event.parse_id_last.Goals.{else-ne-via-then-ne+else-not-may_have_id, else-ne-via-else-ne}

pub returns-clause-value : goal.returns-clause-value
returns-clause-value c =
    let inside = c.in_ok-parse_prefix in
    let own = c.in_ok-behind in
    let id = c.in_ok-id.id.now in
    let event = c.parse_own.new.event in
    let may : is_id id ≡ true → may_have_id event ≡ true = λ is. elim c.else-ne.branch [
      | else-ne-via-then-ne+else-not-may_have_id w ↦ search rules
      | else-ne-via-else-ne w ↦ let none : id ≡ [] = search rules in absurd (id_some id is none)
    ] in
    ended_line c.args.config.now c.requires id event c.args.line.now inside.field-0.now own.behind.now inside.ensures
    own.ensures c.in_ok-id.ensures may
