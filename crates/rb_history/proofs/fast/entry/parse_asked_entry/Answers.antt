use Rattle.rb_history.proofs.Words.{asked_entry_of_line, AskedEntry, may_be_asked, Entry, [], ap, inl, inr, rules, true, ◌∙◌, ◌≡◌, ◌⊎◌}
use Rattle.rb_history.proofs.Receipts.{id_or_none, is_asked, line_written}
use Rattle.rb_history.proofs.OwnLines.{entry_line}
use Rattle.rb_history.proofs.fast.entry.parse_asked_entry.Goals as goal
use Rattle.rb_history.proofs.fast.entry.parse_asked_entry.Goals.{else-ne-via-then-ne+else-not-may_be_asked, else-ne-via-else-ne}

pub returns-clause-id : goal.returns-clause-id
returns-clause-id c = id_or_none c.in_ok-id.id.now c.in_ok-behind.behind.now c.in_ok-id.rest.now c.in_ok-id.ensures

pub returns-clause-read : goal.returns-clause-read
returns-clause-read c =
    let s = c.args.config.now in
    let ended = c.in_ok-site in
    let id = c.in_ok-id in
    let entry : Entry = record { event = c.parse_event.new.event; reply = c.parse_entry_end.new.reply } in
    let x : AskedEntry = record { id = id.id.now; entry = entry } in
    let may : (id.id.now ≡ []) ⊎ (may_be_asked entry ≡ true) = elim c.else-ne.branch [
      | else-ne-via-then-ne+else-not-may_be_asked w ↦ inr (search rules)
      | else-ne-via-else-ne w ↦ inl (search rules)
    ] in
    let text = line_written s ended.site x c.args.line.now c.in_ok-text.text.now c.in_ok-behind.behind.now id.rest.now
    c.in_ok-text.ensures c.in_ok-behind.ensures.1 id.ensures ended.ensures.value.1 in (
      ap (asked_entry_of_line s) text ∙ entry_line s c.sites-sites.ensures.configured ended.site x ended.ensures.site
          c.in_ok-behind.ensures.0 ended.ensures.value.0
          (is_asked id.id.now c.in_ok-behind.behind.now id.rest.now entry id.ensures may),
      ended.ensures.site,
    )

pub returns-clause-written : goal.returns-clause-written
returns-clause-written c =
    let entry : Entry = record { event = c.parse_event.new.event; reply = c.parse_entry_end.new.reply } in
    let x : AskedEntry = record { id = c.in_ok-id.id.now; entry = entry } in
    line_written c.args.config.now c.in_ok-site.site x c.args.line.now c.in_ok-text.text.now c.in_ok-behind.behind.now
    c.in_ok-id.rest.now c.in_ok-text.ensures c.in_ok-behind.ensures.1 c.in_ok-id.ensures c.in_ok-site.ensures.value.1
