use Rattle.std.proofs.Common.{rules, ◌≡◌, ap, subst, refl, Some, None}
use Rattle.rb_shadow.specs.Operations.{find_in, past}
use Rattle.rb_inbox.specs.Held.{Holding, IsReady}
use Rattle.rb_inbox.specs.Rows.{held_of}
use Rattle.rb_inbox.proofs.Waiting.{are_found, fresh_first, fresh_waits, only_fresh}
use Rattle.rb_inbox.proofs.inbox.Inbox.known_ready.Goals as goal

pub returns-in_default-fresh-clause-none : goal.returns-in_default-fresh-clause-none
returns-in_default-fresh-clause-none c =
    let rows = c.self.inside.rows.items in
    let us = c.args.self.now.held in
    let same : held_of rows ≡ us = ap (λ (b : Holding). b.held) c.self.view_is in
    let only = only_fresh c.self.inside.quiet c.in-Some.quiet c.args.clock.now (held_of rows) us c.in-Some.is same c.self.invariant.known
    c.if-not-reaches.ensures in
    λ u a r. c.in_default-fresh.not-Some u.name (only u a r)

pub returns-in-Some-held-clause-first : goal.returns-in-Some-held-clause-first
unfolding past
returns-in-Some-held-clause-first c =
    let rows = c.self.inside.rows.items in
    let us = c.args.self.now.held in
    let same : held_of rows ≡ us = ap (λ (b : Holding). b.held) c.self.view_is in
    let only = only_fresh c.self.inside.quiet c.in-Some.quiet c.args.clock.now (held_of rows) us c.in-Some.is same c.self.invariant.known
    c.if-not-reaches.ensures in
    fresh_first us c.args.clock.now c.in-Some.quiet.fresh c.in-Some-fresh.name c.in-Some-held.shadow.now
    (are_found rows us c.self.invariant.each same) only c.in-Some-fresh.is (search rules) (c.if-at_least.ensures.names.0 refl)

pub returns-in_default-held-clause-none : goal.returns-in_default-held-clause-none
unfolding past
returns-in_default-held-clause-none c =
    let rows = c.self.inside.rows.items in
    let us = c.args.self.now.held in
    let same : held_of rows ≡ us = ap (λ (b : Holding). b.held) c.self.view_is in
    let only = only_fresh c.self.inside.quiet c.in-Some.quiet c.args.clock.now (held_of rows) us c.in-Some.is same c.self.invariant.known
    c.if-not-reaches.ensures in
    fresh_waits us c.args.clock.now c.in-Some.quiet.fresh c.in-Some-fresh.name
    (are_found rows us c.self.invariant.each same) only c.in-Some-fresh.is (λ v e r.
    let there : Some c.in-Some-held.shadow.now ≡ find_in us c.in-Some-fresh.name = search rules in
    let same : v ≡ c.in-Some-held.shadow.now = cc in
    let short : IsReady c.args.clock.now c.in-Some-held.shadow.now = subst (IsReady c.args.clock.now) same r in
    cc (c.at_least.ensures.names.1 short))

pub returns-in_default-held-2-clause-none : goal.returns-in_default-held-2-clause-none
returns-in_default-held-2-clause-none c =
    let rows = c.self.inside.rows.items in
    let us = c.args.self.now.held in
    let same : held_of rows ≡ us = ap (λ (b : Holding). b.held) c.self.view_is in
    let only = only_fresh c.self.inside.quiet c.in-Some.quiet c.args.clock.now (held_of rows) us c.in-Some.is same c.self.invariant.known
    c.if-not-reaches.ensures in
    fresh_waits us c.args.clock.now c.in-Some.quiet.fresh c.in-Some-fresh.name
    (are_found rows us c.self.invariant.each same) only c.in-Some-fresh.is (λ v e r.
    let there : find_in us c.in-Some-fresh.name ≡ None = search rules in absurd cc)
