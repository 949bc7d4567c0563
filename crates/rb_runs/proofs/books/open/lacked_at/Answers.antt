-- One name more is looked at.
use Rattle.rb_runs.proofs.Words.{◌≤◌, ◌+◌, ◌∙◌, ap, arith, length, MOST_BLUE, MOST_RED, blue_count, Blue, state_of, applied_by, lacks}
use Rattle.rb_runs.proofs.Lacked.{few_blue, few_red, next_listed}
use Rattle.rb_runs.proofs.books.open.lacked_at.Goals as goal

pub overflow_cast-n : goal.overflow_cast-n
overflow_cast-n c =
    let few : length c.blue_row.result.now ≤ MOST_BLUE =
    few_blue c.ledger-ledger.result.now.settings c.ledger-ledger.result.now.entries c.loop-home.home _ c.config.ensures.configured
    c.config.ensures.valid c.blue_row.ensures.count in
    omega arith

pub overflow_add-n : goal.overflow_add-n
overflow_add-n c =
    let few : length c.blue_row.result.now ≤ MOST_BLUE =
    few_blue c.ledger-ledger.result.now.settings c.ledger-ledger.result.now.entries c.loop-home.home _ c.config.ensures.configured
    c.config.ensures.valid c.blue_row.ensures.count in
    omega arith

pub loop-home-preserved : goal.loop-home-preserved
loop-home-preserved c =
    let us = (state_of c.args.site.now).ops in
    next_listed (lacks (applied_by c.args.sites.now) us) (λ i. Blue i (blue_count us i + 1)) c.loop-home.list.items
    c.add_lacked.new.list.items c.loop-home.home _ c.loop-home.invariant c.in_ok-add_lacked.ensures
    (ap (λ n. Blue c.loop-home.home (n + 1)) (c.blue_row.ensures.count
    ∙ ap (λ vs. blue_count vs c.loop-home.home) c.ledger-ledger.ensures.entries))

pub overflow_cast-n-2 : goal.overflow_cast-n-2
overflow_cast-n-2 c =
    let few : length c.red_row.result.now ≤ MOST_RED =
    few_red c.ledger-ledger.result.now.settings c.ledger-ledger.result.now.entries _ c.config.ensures.configured c.config.ensures.valid
    c.red_row.ensures.count in
    omega arith

pub overflow_add-n-2 : goal.overflow_add-n-2
overflow_add-n-2 c =
    let few : length c.red_row.result.now ≤ MOST_RED =
    few_red c.ledger-ledger.result.now.settings c.ledger-ledger.result.now.entries _ c.config.ensures.configured c.config.ensures.valid
    c.red_row.ensures.count in
    omega arith
