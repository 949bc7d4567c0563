use Rattle.std.proofs.Common.{◌≡◌, ◌∙◌, ◌≤◌, [], ap, sym, subst, arith, get_or, length}
use Rattle.std.specs.Prelude.{filter}
use Rattle.std.proofs.lemmas.List.{get_or_past}
use Rattle.rb_inbox.specs.Held.{Holding}
use Rattle.rb_inbox.specs.Rows.{IsHeldRow}
use Rattle.rb_inbox.proofs.Changes.{slice_there}
use Rattle.rb_inbox.proofs.First.{held_numbered}
use Rattle.rb_inbox.proofs.Rows.{empty, is_of, row_at, row_is}
use Rattle.rb_inbox.proofs.inbox.Inbox.row.Goals as goal

-- the row is the one at the place
there : (c : goal.After-as_slice) → c.as_slice.result.now ≡ get_or c.self.inside.rows.items c.args.index []
there c =
    slice_there c.self.inside.rows.items c.deref.result.now c.args.index c.in-Some.row.now c.as_slice.result.now c.deref.ensures.value
    (omega (arith, c.in-Some.ensures.lookup.3.0)) c.in-Some.ensures.lookup.1 c.as_slice.ensures

pub returns-in-Some-clause-held : goal.returns-in-Some-clause-held
returns-in-Some-clause-held c =
    there c ∙ row_is c.self.inside.rows.items c.args.index c.self.invariant.each
    ∙ ap (λ (b : Holding). filter (is_of c.args.index) b.held) c.self.view_is

pub returns-in-Some-clause-row : goal.returns-in-Some-clause-row
returns-in-Some-clause-row c = subst (IsHeldRow c.args.index) (sym (there c)) (row_at c.self.inside.rows.items c.args.index
    c.self.invariant.each)

pub returns-in-Some-clause-numbered : goal.returns-in-Some-clause-numbered
returns-in-Some-clause-numbered c = λ u. held_numbered _ _ u c.self.invariant.each (ap (λ (b : Holding). b.held) c.self.view_is)

pub returns-in-None-clause-held : goal.returns-in-None-clause-held
returns-in-None-clause-held c =
    let past : length c.self.inside.rows.items ≤ c.args.index = omega (arith, c.in-None.ensures.lookup.3, ap length c.deref.ensures.value)
    in
    sym (get_or_past c.self.inside.rows.items c.args.index [] past)
    ∙ row_is c.self.inside.rows.items c.args.index c.self.invariant.each
    ∙ ap (λ (b : Holding). filter (is_of c.args.index) b.held) c.self.view_is

pub returns-in-None-clause-row : goal.returns-in-None-clause-row
returns-in-None-clause-row c = empty c.args.index

pub returns-in-None-clause-numbered : goal.returns-in-None-clause-numbered
returns-in-None-clause-numbered c = λ u. held_numbered _ _ u c.self.invariant.each (ap (λ (b : Holding). b.held) c.self.view_is)
