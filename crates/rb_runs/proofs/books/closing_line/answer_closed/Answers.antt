-- The next configuration, or the account that is above.
use Rattle.rb_runs.proofs.Words.{◌∙◌, ap, length, slice_get, sym, Settings}
use Rattle.rb_runs.proofs.Answered.{count_is, is_account, started_next}
use Rattle.rb_runs.proofs.books.closing_line.answer_closed.Goals as goal

pub above_line-requires-clause-account : goal.above_line-requires-clause-account
above_line-requires-clause-account c =
    rw c.config-config.ensures.same
    (is_account c.args.ledger.now.settings c.args.ledger.now.entries c.in_ok-balances.balances.items c.as_slice.result.now c.in-Some.place
    c.config-config.ensures.configured c.in_ok-balances.ensures c.as_slice.ensures.value c.in-Some.ensures)

pub next_of_balances-requires-clause-each : goal.next_of_balances-requires-clause-each
next_of_balances-requires-clause-each c =
    ap length c.as_slice-2.ensures.value
    ∙ count_is c.args.ledger.now.settings c.args.ledger.now.entries c.in_ok-balances.balances.items c.config-config.ensures.configured
    c.in_ok-balances.ensures
    ∙ ap (λ (t : Settings). length t.names) (sym c.config-config.ensures.same)

pub returns : goal.returns
returns c =
    let same = c.as_slice.ensures.value ∙ sym c.as_slice-2.ensures.value in
    started_next c.args.ask.now c.args.ledger.now.settings c.config-config.result.now _ c.args.ledger.now.entries
    c.in_ok-balances.balances.items c.as_slice-2.result.now _ c.config-config.ensures.same c.in_ok-balances.ensures
    c.as_slice-2.ensures.value (λ i n at. c.in_default.ensures i n (ap (λ l. slice_get l i) same ∙ at))
    c.in_ok-next.ensures c.in_ok-line-2.ensures
