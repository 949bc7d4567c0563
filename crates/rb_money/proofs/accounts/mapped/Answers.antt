use Rattle.std.proofs.Common.{◌≡◌, rules}
use Rattle.std.specs.Vec.Iter.{into_iter_items}
use Rattle.rb_money.proofs.Places.{filling, one_more}
use Rattle.rb_money.proofs.accounts.mapped.Goals as goal

pub loop-name-init : goal.loop-name-init
loop-name-init c =
    let all = c.args.accounts.items in
    let items : into_iter_items c.into_iter-name-iterator.result ≡ all = c.into_iter-name-iterator.ensures.into_iter_gives.0 in
    rw items (filling c.in_ok-by_name.by_name.entries all c.in_ok-by_name.ensures.empty c.requires)

pub loop-name-preserved : goal.loop-name-preserved
loop-name-preserved c =
    one_more c.loop-name.by_name.entries c.insert.new.self.entries (into_iter_items c.next.new.self) c.args.accounts.items c.in-Some.name
    c.in-Some.start (search rules) c.in_ok-insert.ensures.entries
