use Rattle.std.proofs.Common.{◌++◌, ◌∷◌, [], ap, sym, ◌∙◌, refl, arith, inl, inr, rules}
use Rattle.rb_money.specs.declared.refusal.Refusal.{Refusal}
use Rattle.rb_undo.specs.declared.parts.UndoParts.{UndoParts}
use Rattle.rb_scratch.specs.declared.run_fault.RunFault.{RunFault}
use Rattle.rb_scratch.specs.declared.run_fault.RunFault.TheVariants.{Refused as RefusedFault}
use Rattle.rb_scratch.proofs.Tries
use Rattle.rb_scratch.proofs.scratch.try_one.Goals as goal

abbrev refused : Refusal → RunFault
refused why = RefusedFault why

pub returns-in-Ok-clause-ran : goal.returns-in-Ok-clause-ran
returns-in-Ok-clause-ran c = (
  c.in_ok-shadow.shadow,
  refl,
  Tries.added c.args.ledger.now c.apply_valid.new.self c.args.made.now.items c.push_reserved.new.self.items c.args.undos.now.parts
      c.push.new.self.parts c.in_ok-shadow.shadow c.in-Ok.ensures.settings c.in-Ok.ensures.applied.0 (search rules)
      (c.push.ensures ∙ ap (λ (p : UndoParts). c.args.undos.now.parts ++ p ∷ []) c.in-Ok.ensures.applied.1),
  λ known shows. sym (c.in_ok-shadow.ensures.made known shows),
)

pub returns-in-Err-clause-fault : goal.returns-in-Err-clause-fault
returns-in-Err-clause-fault c = λ known shows. record {
  many = λ h. absurd (omega arith);
  few = λ h. inr (c.in_ok-shadow.shadow, sym (c.in_ok-shadow.ensures.made known shows), refl, inl c.in-Err.ensures.err.1);
}
