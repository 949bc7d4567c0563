use Rattle.std.proofs.Common.{inl, inr, sym, subst}
use Rattle.rb_inbox.specs.Quiet.{IsCovered, IsQuiet}
use Rattle.rb_inbox.proofs.Public.{held_cases}
use Rattle.rb_inbox.proofs.quiet.note_held.Goals as goal

pub returns-else-not-add : goal.returns-else-not-add
returns-else-not-add c = λ us q u a. elim (held_cases c.args.shadow.now us u a) [
  | inl e ↦ subst (IsCovered c.add.new.self) (sym e) c.if-not-add.ensures.covers
  | inr k ↦ c.if-not-add.ensures.keeps u (subst (λ o. IsQuiet o us) c.in-Some.is q u k)
]
