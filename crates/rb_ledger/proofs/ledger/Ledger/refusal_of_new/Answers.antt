use Rattle.std.proofs.Common.{true, false, refl, sym}
use Rattle.rb_ledger.proofs.Public.Legal
use Rattle.rb_ledger.proofs.ledger.Ledger.refusal_of_new.Goals as goal

pub returns-then-wrong_target : goal.returns-then-wrong_target
returns-then-wrong_target c = Legal.refused_new c.args.self.now.settings c.args.self.now.entries _ c.args.shadow.now true true _ _ refl
    (sym c.requires.new) (sym c.requires.eligible) c.if-wrong_target.ensures refl refl

pub returns-then-not-shows_colour : goal.returns-then-not-shows_colour
returns-then-not-shows_colour c = Legal.refused_new c.args.self.now.settings c.args.self.now.entries _ c.args.shadow.now true false false _
    refl (sym c.requires.new) (sym c.requires.eligible) c.if-wrong_target.ensures c.if-not-shows_colour.ensures refl

pub overdraws-requires-clause-fresh : goal.overdraws-requires-clause-fresh
overdraws-requires-clause-fresh c = Legal.is_new _ _ c.args.shadow.now.name refl (sym c.requires.new)

pub returns-then-overdraws : goal.returns-then-overdraws
returns-then-overdraws c = Legal.refused_new c.args.self.now.settings c.args.self.now.entries _ c.args.shadow.now true false true true refl
    (sym c.requires.new) (sym c.requires.eligible) c.if-wrong_target.ensures c.if-not-shows_colour.ensures c.if-overdraws.ensures

pub returns : goal.returns
returns c = Legal.refused_new c.args.self.now.settings c.args.self.now.entries _ c.args.shadow.now true false true false refl
    (sym c.requires.new) (sym c.requires.eligible) c.if-wrong_target.ensures c.if-not-shows_colour.ensures c.if-overdraws.ensures
