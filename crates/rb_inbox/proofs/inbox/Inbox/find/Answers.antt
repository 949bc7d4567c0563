use Rattle.std.proofs.Common.{rules, arith, ◌≡◌, ◌∙◌, ap, sym, ◌≤◌, ◌<◌, length, get_or}
use Rattle.rb_inbox.specs.Held.{held_before}
use Rattle.rb_inbox.proofs.Changes.{finds}
use Rattle.rb_inbox.proofs.Order.{find-other, find-past, find-same}
use Rattle.rb_inbox.proofs.inbox.Inbox.find.Goals as goal

pub returns-in-None-clause-held : goal.returns-in-None-clause-held
returns-in-None-clause-held c =
    let row = c.row-row.result in
    let short : length row.now ≤ held_before row.now c.args.name.now =
    omega (arith, c.in-None.ensures.lookup.3, c.index_of-index.ensures.index) in
    sym (find-past row.now c.args.name.now c.row-row.ensures.row.in_order short)
    ∙ finds row.now c.args.self.now.held c.args.name.now c.row.result c.row.ensures c.row-row.ensures.held

pub returns-then-eq-clause-held : goal.returns-then-eq-clause-held
returns-then-eq-clause-held c =
    let row = c.row-row.result in
    let x = c.args.name.now in
    let within : held_before row.now x < length row.now = omega (arith, c.in-Some.ensures.lookup.3.0, c.index_of-index.ensures.index) in
    let same : c.in-Some.shadow.now.name ≡ x = search rules in
    find-same row.now x c.in-Some.shadow.now c.row-row.ensures.row.in_order within
    (c.in-Some.ensures.lookup.1 ∙ ap (λ i. get_or row.now i c.in-Some.shadow.now) c.index_of-index.ensures.index) same
    ∙ finds row.now c.args.self.now.held x c.row.result c.row.ensures c.row-row.ensures.held

pub returns-else-eq-clause-held : goal.returns-else-eq-clause-held
returns-else-eq-clause-held c =
    let row = c.row-row.result in
    let x = c.args.name.now in
    let within : held_before row.now x < length row.now = omega (arith, c.in-Some.ensures.lookup.3.0, c.index_of-index.ensures.index) in
    let other : c.in-Some.shadow.now.name ≡ x → ⊥ = search rules in
    find-other row.now x c.in-Some.shadow.now c.row-row.ensures.row.in_order within
    (c.in-Some.ensures.lookup.1 ∙ ap (λ i. get_or row.now i c.in-Some.shadow.now) c.index_of-index.ensures.index) other
    ∙ finds row.now c.args.self.now.held x c.row.result c.row.ensures c.row-row.ensures.held
