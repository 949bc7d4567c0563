use Rattle.rb_ledger.proofs.Words.{◌-◌, subst, sym, refl, take, arith, link_at_place, IsLast}
use Rattle.rb_ledger.proofs.LinkReads
use Rattle.rb_ledger.proofs.SeenLists
use Rattle.rb_ledger.proofs.Public.OnAccount
use Rattle.rb_ledger.proofs.ledger.Ledger.earlier.Goals as goal

pub earlier_on-requires : goal.earlier_on-requires
earlier_on-requires c =
    let links = SeenLists.links_seen _ _ _ _ _ c.self.invariant.links c.self.view_is in
    omega (arith, c.requires.some, OnAccount.on_within _ c.args.place c.args.position c.requires.on, links.count)

pub returns-clause-last : goal.returns-clause-last
returns-clause-last c =
    let links = SeenLists.links_seen _ _ _ _ _ c.self.invariant.links c.self.view_is in
    let (l, beside, is) = c.earlier_on.ensures in
    subst (IsLast (take (c.args.position - 1) c.args.self.now.entries) c.args.place) (sym is)
    (LinkReads.link_there _ _ _ c.args.place c.args.position l (link_at_place l c.args.place) links c.requires.on c.requires.some beside
    refl).earlier

pub returns-clause-before : goal.returns-clause-before
returns-clause-before c =
    let links = SeenLists.links_seen _ _ _ _ _ c.self.invariant.links c.self.view_is in
    let (l, beside, is) = c.earlier_on.ensures in
    let link = LinkReads.link_there _ _ _ c.args.place c.args.position l (link_at_place l c.args.place) links c.requires.on
    c.requires.some beside refl in
    omega (
      arith,
      c.requires.some,
      is,
      OnAccount.on_taken_within c.args.self.now.entries (c.args.position - 1) c.args.place _ link.earlier.on,
    )
