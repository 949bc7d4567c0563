use Rattle.rb_ledger.proofs.Words.{cond, ap, sym, ◌∙◌, own_link, other_link}
use Rattle.rb_ledger.proofs.LinkTables
use Rattle.rb_ledger.proofs.link_list.LinkList.earlier_on.Goals as goal

pub returns-then-eq : goal.returns-then-eq
returns-then-eq c =
    let o = c.index-own.result.now in (
      _,
      LinkTables.link_seen _ _ c.args.index o _ _ c.self.view_is c.requires c.index-own.ensures,
      sym (ap (λ b. (cond b (own_link o) (other_link c.self.inside.second.items o)).earlier) (sym c.eq.ensures ∙ c.if-eq.true)),
    )

pub returns : goal.returns
returns c =
    let o = c.index-own.result.now in (
      _,
      LinkTables.link_seen _ _ c.args.index o _ _ c.self.view_is c.requires c.index-own.ensures,
      sym (ap (λ b. (cond b (own_link o) (other_link c.self.inside.second.items o)).earlier) (sym c.eq.ensures ∙ c.if-eq.false)),
    )
