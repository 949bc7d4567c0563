use Rattle.rb_ledger.proofs.Words.{◌-◌, take, Some, sym, ap, ◌∙◌, option_map, Shadow, parts_of}
use Rattle.rb_ledger.proofs.Public.Records
use Rattle.rb_ledger.proofs.ledger.Ledger.record.Goals as goal

pub returns-in_err-entry : goal.returns-in_err-entry
returns-in_err-entry c =
    let s = c.args.self.now.settings in
    let us = c.args.self.now.entries in
    c.from_residual.ensures ∙ ap (option_map (λ (u : Shadow). parts_of s (take (c.args.position - 1) us) u)) c.in_err-entry.ensures
    ∙ sym (Records.record_at-entry s us c.args.position)

pub returns : goal.returns
returns c =
    let s = c.args.self.now.settings in
    let us = c.args.self.now.entries in
    ap Some c.record_of.ensures ∙ ap (option_map (λ (u : Shadow). parts_of s (take (c.args.position - 1) us) u)) c.in_ok-entry.ensures
    ∙ sym (Records.record_at-entry s us c.args.position)
