use Rattle.std.proofs.Common.{arith}
use Rattle.rb_ledger.proofs.LinkReads
use Rattle.rb_ledger.proofs.SeenLists
use Rattle.rb_ledger.proofs.Public.OnAccount
use Rattle.rb_ledger.proofs.ledger.Ledger.link_at.Goals as goal

pub on-requires : goal.on-requires
on-requires c =
    let links = SeenLists.links_seen _ _ _ _ _ c.self.invariant.links c.self.view_is in
    omega (arith, c.requires.some, OnAccount.on_within _ c.args.place c.args.position c.requires.on, links.count)

pub returns : goal.returns
returns c =
    let links = SeenLists.links_seen _ _ _ _ _ c.self.invariant.links c.self.view_is in
    let (l, beside, is) = c.on.ensures in
    LinkReads.link_there _ _ _ c.args.place c.args.position l _ links c.requires.on c.requires.some beside is
