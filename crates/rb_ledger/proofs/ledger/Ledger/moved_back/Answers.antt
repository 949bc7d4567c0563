use Rattle.rb_ledger.proofs.Words.{◌≡◌, subst, sym, ◌∙◌, ◌+ℤ◌, pos, Kind, moved, target_of}
use Rattle.rb_ledger.proofs.FoundNames
use Rattle.rb_ledger.proofs.OneMore
use Rattle.rb_ledger.proofs.ledger.Ledger.moved_back.Goals as goal

pub unreachable-requires : goal.unreachable-requires
unreachable-requires c =
    let us = c.args.self.now.entries in
    let (x, is, at) = FoundNames.target_at us (target_of c.args.shadow.now.kind) c.args.target c.requires.at c.requires.some in
    let (t, there, named, found) = FoundNames.found_there us x c.args.target at in
    let none = c.in_default.ensures ∙ there in
    cc

pub returns-then-is_cancelled-clause-sums : goal.returns-then-is_cancelled-clause-sums
returns-then-is_cancelled-clause-sums c =
    let us = c.args.self.now.entries in
    let (x, is, at) = FoundNames.target_at us (target_of c.args.shadow.now.kind) c.args.target c.requires.at c.requires.some in
    OneMore.moved_none us c.args.shadow.now x is (sym (c.is_cancelled.ensures.found x at) ∙ c.if-is_cancelled.true)

pub returns-clause-sums : goal.returns-clause-sums
returns-clause-sums c =
    let us = c.args.self.now.entries in
    let (x, is, at) = FoundNames.target_at us (target_of c.args.shadow.now.kind) c.args.target c.requires.at c.requires.some in
    let (t, there, named, found) = FoundNames.found_there us x c.args.target at in
    OneMore.moved_back us c.args.shadow.now _ x _ _ c.requires.valid.unique c.requires.target is
    (c.in-Some.ensures ∙ there ∙ sym found) (sym c.if-is_cancelled.false ∙ c.is_cancelled.ensures.found x at)
    (subst (λ (k : Kind). pos c.moved-added.result.0 ≡ pos c.moved-added.result.1 +ℤ moved k c.args.shadow.now.amount)
    c.kind.ensures c.moved-added.ensures.sums)
