use Rattle.std.proofs.Common.{◌≡◌, ◌<◌, ◌≤◌, Some, length, rules, sym, ap, ◌∙◌}
use Rattle.std.specs.Prelude.{slice_get}
use Rattle.std.proofs.lemmas.Option.{slice_get-get_or}
use Rattle.rb_branch.proofs.Owning.{owned_all}
use Rattle.rb_branch.proofs.owners.owners_of.Goals as goal

pub loop-k-preserved : goal.loop-k-preserved
loop-k-preserved c =
    let within : c.loop-k.k < length c.args.seats.now = search rules in
    let found : slice_get c.args.seats.now c.loop-k.k ≡ Some c.index-seats-k.result =
    slice_get-get_or c.args.seats.now c.loop-k.k c.index-seats-k.result within ∙ ap Some (sym c.index-seats-k.is) in
    (search rules, c.put_seat.ensures.owned c.args.seats.now found c.loop-k.invariant.1)

pub returns-clause-owners : goal.returns-clause-owners
returns-clause-owners c =
    let past : length c.args.seats.now ≤ c.loop-k.k = search rules in
    owned_all c.args.site c.loop-k.k c.args.seats.now c.loop-k.owners.items past c.loop-k.invariant.1
