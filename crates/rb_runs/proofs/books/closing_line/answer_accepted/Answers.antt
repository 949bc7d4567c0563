-- Open books, or closed ones.
use Rattle.rb_runs.proofs.Words.{◌∙◌, ap, inl, inr, map, refl, slice_get, sym, open_json, verdict_line, state_of, input_at}
use Rattle.rb_runs.proofs.Answered.{closed_reported, first_applied, lists_of_ended, open_reported, on_found}
use Rattle.rb_runs.proofs.books.closing_line.answer_accepted.Goals as goal

pub returns-then-not-are_empty : goal.returns-then-not-are_empty
returns-then-not-are_empty c =
    let x = input_at c.args.first.now.settings c.args.sites.now in
    let lists = map (λ list. list.items) c.in_ok-lists.lists.items in
    let is = c.in_ok-lists.ensures ∙ lists_of_ended c.args.first.now.settings c.args.sites.now c.requires.ended in
    inr (inl (open_reported c.open_lists_are_lacking.ensures x lists c.in_ok-line.line.items c.requires.configured c.requires.one is
    (λ none. (let yes = c.if-not-are_empty.ensures.1 (λ i list at. none i list
    (ap (λ ls. slice_get (map (λ list. list.items) ls) i) (sym c.as_slice.ensures.value) ∙ at)) in cc))
    (c.in_ok-line.ensures ∙ ap (λ ls. verdict_line (open_json (map (λ list. list.items) ls))) c.as_slice-then-not-are_empty.ensures.value)))

pub returns : goal.returns
returns c =
    let x = input_at c.args.first.now.settings c.args.sites.now in
    let lists = map (λ list. list.items) c.in_ok-lists.lists.items in
    let is = c.in_ok-lists.ensures ∙ lists_of_ended c.args.first.now.settings c.args.sites.now c.requires.ended in
    let closed = closed_reported c.open_lists_are_lacking.ensures x lists c.requires.configured c.requires.one is
    (λ i list at. c.if-not-are_empty.ensures.0 refl i list
    (ap (λ ls. slice_get (map (λ list. list.items) ls) i) c.as_slice.ensures.value ∙ at)) in
    on_found c.args.ask.now x c.ledger.result.now.settings c.ledger.result.now.entries (state_of c.args.first.now).ops
    c.answer_closed.result c.closed_balances_agree.ensures c.requires.configured c.requires.one closed
    (first_applied c.args.first.now.settings c.args.sites.now c.args.first.now c.requires.ended c.requires.first)
    c.ledger.ensures.settings c.ledger.ensures.entries c.answer_closed.ensures
