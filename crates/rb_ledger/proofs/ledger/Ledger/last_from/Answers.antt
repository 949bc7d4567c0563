use Rattle.std.proofs.Common.{arith}
use Rattle.rb_ledger.proofs.CheckpointFacts
use Rattle.rb_ledger.proofs.SeenLists
use Rattle.rb_ledger.proofs.Public.OnAccount
use Rattle.rb_ledger.proofs.ledger.Ledger.last_from.Goals as goal

pub returns-in-Some-clause-after : goal.returns-in-Some-clause-after
returns-in-Some-clause-after c =
    let are = SeenLists.checkpoints_seen _ _ _ c.self.inside.checkpoints _ c.self.invariant.checkpoints c.self.view_is in
    let (k, behind, first, read) = c.in-Some.ensures.first in
    (CheckpointFacts.start c.args.self.now.settings c.args.self.now.entries c.self.inside.checkpoints c.args.place c.args.limit k _ are
    (omega (arith, are.accounts, c.requires.account)) behind read).1

pub last_from-requires-clause-account : goal.last_from-requires-clause-account
last_from-requires-clause-account c =
    let are = SeenLists.checkpoints_seen _ _ _ c.self.inside.checkpoints _ c.self.invariant.checkpoints c.self.view_is in
    omega (arith, are.accounts, c.requires.account)

pub last_from-requires-clause-rows : goal.last_from-requires-clause-rows
last_from-requires-clause-rows c = c.self.invariant.checkpoints.rows

pub returns-in-None-clause-after : goal.returns-in-None-clause-after
returns-in-None-clause-after c =
    OnAccount.none_in_front c.args.self.now.entries c.args.limit c.args.place c.args.last
    (λ i u within there on. c.requires.last.after i u there on)
