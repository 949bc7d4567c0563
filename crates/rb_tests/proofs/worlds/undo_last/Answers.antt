-- The last record is that of the last operation.
use Rattle.std.proofs.Common.{◌≡◌, ◌∙◌, List, [], ◌∷◌, ◌++◌, ap, inl, inr, sym}
use Rattle.rb_money.specs.Settings.{Settings}
use Rattle.rb_ledger.proofs.Public.Records
use Rattle.rb_ledger.specs.Records.{records_of}
use Rattle.rb_shadow.proofs.Public.Members
use Rattle.rb_shadow.specs.declared.shadow.Shadow.{Shadow}
use Rattle.rb_tests.proofs.worlds.undo_last.Goals as goal

-- lists with one more each are the same without it
same_front : (us ws : List Shadow) (v w : Shadow) → us ++ v ∷ [] ≡ ws ++ w ∷ [] → ws ≡ us
same_front us ws v w e = elim (Members.push_split us ws [] v w e) [
  | inl (none, same, is) ↦ same
  | inr (rest, none, is) ↦ absurd (Members.never_empty rest [] v (sym none))
]

pub undo-requires : goal.undo-requires
undo-requires c =
    let (front, last, longer, is, rest) = Records.records_of-last c.args.ledger.now.settings c.args.ledger.now.entries
    c.pop.new.self.parts c.in-Some.undo (sym c.requires ∙ c.in-Some.ensures.0) in
    (front, last, longer, is)

pub returns-in-Some-clause-records : goal.returns-in-Some-clause-records
returns-in-Some-clause-records c =
    let (front, last, longer, is, rest) = Records.records_of-last c.args.ledger.now.settings c.args.ledger.now.entries
    c.pop.new.self.parts c.in-Some.undo (sym c.requires ∙ c.in-Some.ensures.0) in
    let (taken, same) = c.undo.ensures.entries in
    rest ∙ ap (records_of c.args.ledger.now.settings) (sym (same_front front c.undo.new.self.entries last taken (sym longer ∙ same)))
    ∙ ap (λ (s : Settings). records_of s c.undo.new.self.entries) (sym c.undo.ensures.settings)
