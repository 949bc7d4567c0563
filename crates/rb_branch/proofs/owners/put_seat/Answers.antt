use Rattle.std.proofs.Common.{rules}
use Rattle.rb_branch.proofs.Owning.{owned_more, owned_same}
use Rattle.rb_branch.proofs.owners.put_seat.Goals as goal

pub returns-then-site-clause-owned : goal.returns-then-site-clause-owned
returns-then-site-clause-owned c seats at all =
    owned_same c.args.site c.args.k seats c.args.seat.now c.args.owners.now.items at (search rules) all

pub returns-clause-owned : goal.returns-clause-owned
returns-clause-owned c seats at all =
    owned_more c.args.site c.args.k seats c.args.seat.now c.args.owners.now.items c.put_all.new.owners.items at (search rules) all
    (search rules)
