use Rattle.std.proofs.Common.{◌≡◌, ◌<◌, ◌+◌, ◌∙◌, List, [], ap, subst, arith, rules, set, length, get_or}
use Rattle.std.specs.Prelude.{insert, Err, None, Ok, OnErr, Result}
use Rattle.std.specs.declared.alloc.AllocError.{AllocError}
use Rattle.std.proofs.lemmas.List.{set-get_or}
use Rattle.rb_shadow.specs.Operations.{find_in}
use Rattle.rb_shadow.specs.declared.shadow.Shadow.{Shadow}
use Rattle.rb_inbox.specs.Held.{Holding, with_held}
use Rattle.rb_inbox.specs.Rows.{AreCounted, held_of}
use Rattle.rb_inbox.proofs.Changes.{after_put, changed_there, grown, grown_holds, index_there, row_there}
use Rattle.rb_inbox.proofs.Order.{changed, held_before-bound, unchanged}
use Rattle.rb_inbox.proofs.inbox.Inbox.hold.Goals as goal

on_err : {P : Type 0} (r : Result (Unit {0}) AllocError) → P → OnErr r P
on_err (Ok x) p = tt
on_err (Err e) p = p

pub invariant_of-self : goal.invariant_of-self
invariant_of-self c = grown c.self.inside.rows.items _ c.self.inside.count _ c.self.inside.quiet c.add_rows.ensures.rows.1 c.self.invariant

pub returns-in_err-add_rows-clause-err : goal.returns-in_err-add_rows-clause-err
returns-in_err-add_rows-clause-err c =
    on_err c.from_residual-in_err-add_rows.result (unchanged c.self.inside.limit _ _ c.args.self.now
    (grown_holds c.self.inside.rows.items _ _ c.add_rows.ensures.rows.1) c.self.view_is)

pub insert-requires : goal.insert-requires
insert-requires c =
    let rows : List (List Shadow) = c.add_rows.new.rows.items in
    let row = c.row-row.result in
    let within : row < length rows = omega (arith, c.in_ok-add_rows.ensures.ok) in
    let same = unchanged c.self.inside.limit _ _ c.args.self.now (grown_holds c.self.inside.rows.items rows _ c.add_rows.ensures.rows.1)
    c.self.view_is in
    let all = grown c.self.inside.rows.items rows c.self.inside.count _ c.self.inside.quiet c.add_rows.ensures.rows.1 c.self.invariant in
    let index = index_there rows c.self.inside.limit c.args.self.now c.args.shadow.now.name row c.args.index same c.row-row.ensures all.each
    c.requires.index in
    let long = ap length (row_there rows row c.index_mut.result.now within c.index_mut.ensures.value) in
    omega (arith, index, long, held_before-bound (get_or rows row []) c.args.shadow.now.name)

-- if the row couldn't grow, the rows are as before
as_before : (c : goal.After-from_residual-in_err-insert) → set c.add_rows.new.rows.items c.row-row.result c.insert.new.self
    ≡ c.add_rows.new.rows.items
as_before c =
    ap (set c.add_rows.new.rows.items c.row-row.result) (c.in_err-insert.ensures.err ∙ c.index_mut.ensures.value)
    ∙ set-get_or c.add_rows.new.rows.items c.row-row.result c.index_mut.result.now

pub invariant_of-self-in_err-insert : goal.invariant_of-self-in_err-insert
invariant_of-self-in_err-insert c =
    grown c.self.inside.rows.items _ c.self.inside.count _ c.self.inside.quiet (as_before c ∙ c.add_rows.ensures.rows.1) c.self.invariant

pub returns-in_err-insert-clause-err : goal.returns-in_err-insert-clause-err
returns-in_err-insert-clause-err c =
    on_err c.from_residual-in_err-insert.result
    (unchanged c.self.inside.limit _ _ c.args.self.now (grown_holds c.self.inside.rows.items _ _ (as_before c
    ∙ c.add_rows.ensures.rows.1)) c.self.view_is)

-- the rows with the shadow in its place
with_it : (c : goal.After-note_held) → AreCounted (set c.add_rows.new.rows.items c.row-row.result c.insert.new.self)
    (c.self.inside.count + 1) c.note_held.new.quiet
    × (held_of (set c.add_rows.new.rows.items c.row-row.result c.insert.new.self)
    ≡ with_held c.args.shadow.now (held_of c.self.inside.rows.items))
with_it c =
    let rows : List (List Shadow) = c.add_rows.new.rows.items in
    let row = c.row-row.result in
    let within : row < length rows = omega (arith, c.in_ok-add_rows.ensures.ok) in
    let same = grown_holds c.self.inside.rows.items rows _ c.add_rows.ensures.rows.1 in
    let new : find_in (held_of rows) c.args.shadow.now.name ≡ None =
    ap (λ (us : List Shadow). find_in us c.args.shadow.now.name) same
    ∙ ap (λ (b : Holding). find_in b.held c.args.shadow.now.name) c.self.view_is
    ∙ c.requires.new in
    let all = grown c.self.inside.rows.items rows c.self.inside.count _ c.self.inside.quiet c.add_rows.ensures.rows.1 c.self.invariant in
    let index = index_there rows c.self.inside.limit c.args.self.now c.args.shadow.now.name row c.args.index
    (unchanged c.self.inside.limit _ _ c.args.self.now same c.self.view_is) c.row-row.ensures all.each c.requires.index in
    let put = after_put rows c.self.inside.count c.self.inside.quiet c.note_held.new.quiet c.args.shadow.now row c.insert.new.self all
    c.requires.numbered new c.note_held.ensures c.row-row.ensures
    within
    (changed_there (λ us index. insert us index c.args.shadow.now) c.insert.new.self c.index_mut.result.now
    (get_or rows row []) c.args.index
    c.args.shadow.now.name c.in_ok-insert.ensures.ok (row_there rows row c.index_mut.result.now within c.index_mut.ensures.value) index) in
    (put.0, put.1 ∙ ap (with_held c.args.shadow.now) same)

pub invariant_of-self-2 : goal.invariant_of-self-2
invariant_of-self-2 c =
    let next : c.self.inside.count + 1 ≡ c.in_ok-count.count = search rules in
    let rows : List (List Shadow) = set c.add_rows.new.rows.items c.row-row.result c.insert.new.self in
    subst (λ n. AreCounted rows n c.note_held.new.quiet) next (with_it c).0

pub returns-clause-ok : goal.returns-clause-ok
returns-clause-ok c = changed c.self.inside.limit _ (held_of c.self.inside.rows.items) c.args.self.now (with_held c.args.shadow.now)
    (with_it c).1 c.self.view_is
