-- The record of the new operation is the last.
use Rattle.std.proofs.Common.{◌∙◌, ◌++◌, ◌∷◌, [], ap, sym}
use Rattle.rb_money.specs.Settings.{Settings}
use Rattle.rb_ledger.specs.Records.{records_of}
use Rattle.rb_ledger.proofs.Public.Records
use Rattle.rb_site.proofs.recorded_ledger.RecordedLedger.apply_made.Goals as goal

pub invariant_of-self-2 : goal.invariant_of-self-2
invariant_of-self-2 c =
    c.push_reserved.ensures.parts
    ∙ ap (λ ps. ps ++ c.in_ok-undo.undo ∷ []) (c.in_ok-reserve.ensures.parts ∙ c.self.invariant)
    ∙ ap (λ p. records_of c.self.inside.ledger.settings c.self.inside.ledger.entries ++ p ∷ []) c.in_ok-undo.ensures.applied.1
    ∙ sym (Records.records_of-push c.self.inside.ledger.settings c.self.inside.ledger.entries c.args.shadow.now)
    ∙ ap (records_of c.self.inside.ledger.settings) (sym c.in_ok-undo.ensures.applied.0)
    ∙ ap (λ (s : Settings). records_of s c.apply_valid.new.self.entries) (sym c.apply_valid.ensures.settings)
