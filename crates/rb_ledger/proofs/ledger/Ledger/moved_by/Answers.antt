use Rattle.rb_ledger.proofs.Words.{sym, ◌∙◌, target_of}
use Rattle.rb_ledger.proofs.FoundNames
use Rattle.rb_ledger.proofs.OneMore
use Rattle.rb_ledger.proofs.ReadItems
use Rattle.rb_ledger.proofs.ledger.Ledger.moved_by.Goals as goal

pub returns-then-target-eq0-clause-sums : goal.returns-then-target-eq0-clause-sums
returns-then-target-eq0-clause-sums c =
    let us = c.args.self.now.entries in
    let h = c.args.shadow.now in
    OneMore.moved_plain us h _ _ c.moved.ensures.sums (FoundNames.no_target us h (target_of h.kind) c.requires.target
    (sym c.if-target-eq0.true ∙ c.requires.at))

pub moved_back-requires-clause-some : goal.moved_back-requires-clause-some
moved_back-requires-clause-some c = ReadItems.positive _ c.if-target-eq0.false
