use Rattle.std.proofs.Common.{rules}
use Rattle.rb_branch.proofs.Reports.{is_fault}
use Rattle.rb_branch.proofs.branch.Branch.gather.Goals as goal

pub returns-clause-fault : goal.returns-clause-fault
returns-clause-fault g c =
    is_fault g.E.Entries.settings c.close.result c.args.seats.items _ c.settle.result c.close.ensures.all c.close.ensures.closed
    c.settle.ensures.err c.settle.ensures.first (search rules) c.settle.ensures.every
