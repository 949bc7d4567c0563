-- One record and one operation less, while there are more than are to be left.
use Rattle.std.proofs.Common.{◌≡◌, ◌∙◌, ◌≤◌, ◌∷◌, [], ap, arith, length, length-append, sym, take}
use Rattle.std.proofs.lemmas.List.{take-append-le, take_all}
use Rattle.rb_ledger.proofs.Public.Records
use Rattle.rb_uses.proofs.reversal.back_to.Goals as goal

pub undo-requires : goal.undo-requires
undo-requires c =
    let (front, last, all, is, rest) = Records.records_of-last c.last.ledger.settings c.last.ledger.entries c.pop.new.self.parts
    c.in-Some.undo (sym c.last.invariant.records ∙ c.in-Some.ensures.0) in
    (front, last, all, is)

pub last-preserved : goal.last-preserved
last-preserved c =
    let (v, shorter) = c.undo.ensures.entries in
    let records = Records.records_of-popped c.last.ledger.settings c.undo.new.self.settings c.last.ledger.entries c.undo.new.self.entries v
    c.last.log.parts c.pop.new.self.parts c.in-Some.undo c.last.invariant.records (c.in-Some.ensures.0) shorter c.undo.ensures.settings
    in
    let left : c.args.position ≤ length c.undo.new.self.entries = omega (
      arith,
      c.last-test.true,
      ap length shorter,
      length-append c.undo.new.self.entries (v ∷ []),
    ) in
    let noted : c.args.position ≤ length c.pop.new.self.parts = omega (
      arith,
      left,
      ap length records,
      Records.logged-length c.undo.new.self.settings [] c.undo.new.self.entries,
    ) in
    record {
      settings = c.undo.ensures.settings ∙ c.last.invariant.settings;
      entries = sym (ap (take c.args.position) shorter ∙ take-append-le c.args.position c.undo.new.self.entries (v ∷ []) left)
          ∙ c.last.invariant.entries;
      log = sym (ap (take c.args.position) c.in-Some.ensures.0 ∙ take-append-le c.args.position c.pop.new.self.parts (c.in-Some.undo
          ∷ []) noted) ∙ c.last.invariant.log;
      records = records;
    }

pub unreachable-requires : goal.unreachable-requires
unreachable-requires c =
    let none : length c.last.ledger.entries ≡ 0 = sym (Records.logged-length c.last.ledger.settings [] c.last.ledger.entries)
    ∙ ap length (sym c.last.invariant.records ∙ c.in-None.ensures.0) in
    omega (arith, c.last-test.true, none)

pub returns-clause-log : goal.returns-clause-log
returns-clause-log c =
    let few : length c.last.log.parts ≤ c.args.position = omega (
      arith,
      c.last-test.false,
      ap length c.last.invariant.records,
      Records.logged-length c.last.ledger.settings [] c.last.ledger.entries,
    ) in
    sym (take_all c.args.position c.last.log.parts few) ∙ c.last.invariant.log
