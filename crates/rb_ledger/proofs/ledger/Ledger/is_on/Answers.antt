use Rattle.rb_ledger.proofs.Words.{◌∙◌, ap, inl, refl, sym, is_on, Book}
use Rattle.rb_ledger.proofs.FoundNames
use Rattle.rb_ledger.proofs.LinkReads
use Rattle.rb_ledger.proofs.SeenLists
use Rattle.rb_ledger.proofs.ledger.Ledger.is_on.Goals as goal

pub returns-in-Some : goal.returns-in-Some
returns-in-Some c =
    let index = SeenLists.seen _ _ _ _ c.self.invariant.index c.self.view_is in
    let here = c.all.ensures ∙ ap (λ (b : Book). b.entries) c.self.view_is in
    let is = c.is_on.ensures ∙ ap (λ us. is_on us c.in-Some.entry c.args.place) here in (
      (λ yes. (LinkReads.own_on _ _ c.args.place c.args.position _ index.clocked.valid c.in-Some.ensures (sym yes ∙ is)).1),
      (λ on. is ∙ LinkReads.entry_on _ _ c.args.place c.args.position _ index.clocked.valid c.in-Some.ensures on),
    )

pub returns-in-None : goal.returns-in-None
returns-in-None c = ((λ yes. inl (FoundNames.none_there _ c.args.position c.in-None.ensures c.requires)), (λ on. refl))
