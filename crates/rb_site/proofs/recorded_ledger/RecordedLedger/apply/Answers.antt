-- The record of the new operation is the last.
use Rattle.std.proofs.Common.{◌∙◌, ◌++◌, ◌∷◌, [], ap, sym}
use Rattle.rb_money.specs.Settings.{Settings}
use Rattle.rb_ledger.specs.Records.{records_of}
use Rattle.rb_ledger.proofs.Public.Records
use Rattle.rb_site.proofs.recorded_ledger.RecordedLedger.apply.Goals as goal

pub invariant_of-self-in-Ok : goal.invariant_of-self-in-Ok
invariant_of-self-in-Ok c =
    c.push_reserved.ensures.parts
    ∙ ap (λ ps. ps ++ c.in-Ok.undo ∷ []) (c.reserve.ensures.parts ∙ c.self.invariant)
    ∙ ap (λ p. records_of c.self.inside.ledger.settings c.self.inside.ledger.entries ++ p ∷ []) c.in-Ok.ensures.applied.1
    ∙ sym (Records.records_of-push c.self.inside.ledger.settings c.self.inside.ledger.entries c.args.shadow.now)
    ∙ ap (records_of c.self.inside.ledger.settings) (sym c.in-Ok.ensures.applied.0)
    ∙ ap (λ (s : Settings). records_of s c.apply-applied.new.self.entries) (sym c.apply-applied.ensures.settings)
