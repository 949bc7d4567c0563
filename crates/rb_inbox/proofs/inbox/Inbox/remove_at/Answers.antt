use Rattle.std.proofs.Common.{arith, ◌≡◌, ◌-◌, ap, sym, List, [], Some, get_or, length, set}
use Rattle.std.specs.Prelude.{remove}
use Rattle.rb_shadow.specs.declared.shadow.Shadow.{Shadow}
use Rattle.rb_inbox.specs.Held.{without}
use Rattle.rb_inbox.specs.Rows.{AreCounted, held_of}
use Rattle.rb_inbox.proofs.Changes.{after_remove, changed_there, index_there, index_within, row_there, row_within}
use Rattle.rb_inbox.proofs.Order.{changed, found_inside}
use Rattle.rb_inbox.proofs.inbox.Inbox.remove_at.Goals as goal

pub index_mut-requires : goal.index_mut-requires
index_mut-requires c =
    let (u, held) = c.requires.held in
    let found = found_inside c.self.inside.limit (held_of c.self.inside.rows.items) c.args.self.now c.args.name.now (Some u) c.self.view_is
    (sym held) in
    omega (arith, row_within c.self.inside.rows.items c.args.name.now u c.row-row.result c.row-row.ensures c.self.invariant.each found)

pub remove-requires : goal.remove-requires
remove-requires c =
    let x = c.args.name.now in
    let rows : List (List Shadow) = c.self.inside.rows.items in
    let row = c.row-row.result in
    let (u, held) = c.requires.held in
    let found = found_inside c.self.inside.limit (held_of rows) c.args.self.now x (Some u) c.self.view_is (sym held) in
    let within = row_within rows x u row c.row-row.ensures c.self.invariant.each found in
    let index = index_there rows c.self.inside.limit c.args.self.now x row c.args.index c.self.view_is c.row-row.ensures
    c.self.invariant.each c.requires.index in
    let long = ap length (row_there rows row c.index_mut.result.now within c.index_mut.ensures.value) in
    omega (arith, index, long, index_within rows x u row c.row-row.ensures c.self.invariant.each found)

-- the rows without the name
without_it : (c : goal.After-note_removed) →
    AreCounted (set c.self.inside.rows.items c.row-row.result c.remove.new.self) (c.self.inside.count - 1) c.note_removed.new.quiet
    × (held_of (set c.self.inside.rows.items c.row-row.result c.remove.new.self)
    ≡ without c.args.name.now (held_of c.self.inside.rows.items))
without_it c =
    let x = c.args.name.now in
    let rows : List (List Shadow) = c.self.inside.rows.items in
    let row = c.row-row.result in
    let (u, held) = c.requires.held in
    let found = found_inside c.self.inside.limit (held_of rows) c.args.self.now x (Some u) c.self.view_is (sym held) in
    let within = row_within rows x u row c.row-row.ensures c.self.invariant.each found in
    let index = index_there rows c.self.inside.limit c.args.self.now x row c.args.index c.self.view_is c.row-row.ensures
    c.self.invariant.each c.requires.index in
    after_remove rows c.self.inside.count c.self.inside.quiet c.note_removed.new.quiet x u row c.remove.new.self c.self.invariant found
    c.note_removed.ensures c.row-row.ensures
    (changed_there (λ us index. remove us index) c.remove.new.self c.index_mut.result.now (get_or rows row []) c.args.index x
    c.remove.ensures (row_there rows row c.index_mut.result.now within c.index_mut.ensures.value) index)

pub invariant_of-self : goal.invariant_of-self
invariant_of-self c = (without_it c).0

pub returns : goal.returns
returns c = changed c.self.inside.limit _ (held_of c.self.inside.rows.items) c.args.self.now (without c.args.name.now)
    (without_it c).1 c.self.view_is
