use Rattle.rb_history.proofs.Words.{event_json, is_id, compact_text, [], ap, append-nil, codes, rules, subst, true, ◌++◌, ◌∙◌, ◌≡◌}
use Rattle.rb_history.proofs.Banked.{sent_parsed}
use Rattle.rb_history.proofs.fast.event.parse_sent.Goals as goal

pub returns : goal.returns
returns c =
    let s = c.args.config.now in
    let bank = c.args.bank.now in
    let e = c.parse_message.new.event in
    let read = c.in_ok-name in
    let inside = c.in_ok-parse_prefix in
    let message = c.in_ok-end in
    let same : read.name.now ≡ bank = search rules in
    let last : message.end.now ≡ [] = search rules in
    let named : is_id bank ≡ true = subst (λ l. is_id l ≡ true) same read.ensures.0 in
    let whole : codes "{" ++ inside.field-0.now ≡ compact_text (event_json s e) =
    message.ensures.event.1 ∙ ap (λ l. compact_text (event_json s e) ++ l) last ∙ append-nil (compact_text (event_json s e)) in
    sent_parsed s c.sites-sites.ensures.configured bank e c.args.line.now inside.field-0.now named message.ensures.receipt
    message.ensures.event.0 whole (read.ensures.1
    ∙ ap (λ l. codes "{\"bank\":\"" ++ (l ++ (codes "\"" ++ read.rest.now))) same
    ∙ ap (λ l. codes "{\"bank\":\"" ++ (bank ++ (codes "\"" ++ l))) inside.ensures)
