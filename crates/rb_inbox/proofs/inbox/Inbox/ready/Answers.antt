use Rattle.std.proofs.Common.{rules, arith, ap, ◌≡◌, length}
use Rattle.std.proofs.lemmas.Option.{IfSome_then}
use Rattle.rb_inbox.specs.Held.{Holding}
use Rattle.rb_inbox.proofs.First.{first_before_red, first_blue, first_red, held_within, none_first, none_then}
use Rattle.rb_inbox.proofs.inbox.Inbox.ready.Goals as goal

pub returns-in-None-clause-first : goal.returns-in-None-clause-first
returns-in-None-clause-first c =
    IfSome_then c.first_blue.result c.first_blue.ensures.some (λ x f.
    first_blue _ _ _ c.len-in-None.result x c.row.ensures.held c.in-None.ensures.none f)

pub returns-in-None-clause-none : goal.returns-in-None-clause-none
returns-in-None-clause-none c =
    let rows = c.self.inside.rows.items in
    let all : c.len-in-None.result ≡ length rows = search rules in
    none_then c.first_blue.result c.first_blue.ensures.none
    (none_first c.args.self.now.held c.row.result.now c.args.clock.now c.len-in-None.result c.row.ensures.held c.in-None.ensures.none
    (λ u a. let low = held_within rows _ u c.self.invariant.each (ap (λ (b : Holding). b.held) c.self.view_is) a in omega arith))

pub returns-in-None-first_blue-clause-some : goal.returns-in-None-first_blue-clause-some
returns-in-None-first_blue-clause-some c =
    let f = first_red _ _ c.args.clock.now c.row_after.result c.in-Some.red.now c.row.ensures.held c.row.ensures.row c.row.ensures.numbered
    (search rules) c.in-Some.ensures.some c.in-None-first_blue.ensures.none in
    (f.0, f.1, f.2.ready)

pub returns-in-None-first_blue-clause-first : goal.returns-in-None-first_blue-clause-first
returns-in-None-first_blue-clause-first c =
    first_red _ _ c.args.clock.now c.row_after.result c.in-Some.red.now c.row.ensures.held c.row.ensures.row c.row.ensures.numbered
    (search rules) c.in-Some.ensures.some c.in-None-first_blue.ensures.none

pub returns-in_default-clause-first : goal.returns-in_default-clause-first
returns-in_default-clause-first c =
    IfSome_then c.first_blue-in-Some.result c.first_blue-in-Some.ensures.some (λ x f.
    first_before_red _ _ c.args.clock.now c.row_after.result c.in-Some.red.now x c.row.ensures.held c.row.ensures.numbered (search rules)
    c.in-Some.ensures.some f)
