use Rattle.std.proofs.Common.{[], ◌∷◌, ◌++◌, ◌∙◌, ap, arith, length, length-append}
use Rattle.rb_scratch.proofs.Tries
use Rattle.rb_scratch.proofs.scratch.undo_all.Goals as goal

pub undo-requires : goal.undo-requires
undo-requires c =
    let (made, (base, tried)) = c.requires in
    let (left, now) = c.undos.invariant.tried base made tried in
    let last = Tries.last_record base left c.undos.ledger c.undos.undos.parts c.pop.new.self.parts c.in-Some.undo now c.in-Some.ensures in
    (base ++ last.left, last.last, last.entries, last.record_is)

pub undos-preserved : goal.undos-preserved
undos-preserved c = record {
  settings = c.undo.ensures.settings ∙ c.undos.invariant.settings;
  tried = λ base made tried.
      let (left, now) = c.undos.invariant.tried base made tried in
      let last = Tries.last_record base left c.undos.ledger c.undos.undos.parts c.pop.new.self.parts c.in-Some.undo now c.in-Some.ensures in
      let (v, longer) = c.undo.ensures.entries in (
        last.left,
        Tries.tried_less base c.undos.ledger c.undo.new.self c.pop.new.self.parts c.in-Some.undo v last longer
            c.undo.ensures.settings,
      );
  room = omega (
    arith,
    c.undo.ensures.room,
    c.undos.invariant.room,
    ap length (c.in-Some.ensures),
    length-append c.pop.new.self.parts (c.in-Some.undo ∷ []),
  );
}

pub returns-clause-entries : goal.returns-clause-entries
returns-clause-entries c = λ base made tried. let (left, now) = c.undos.invariant.tried base made tried in
    Tries.tried_all base left c.undos.ledger c.undos.undos.parts now c.in_default.ensures.0

pub returns-clause-room : goal.returns-clause-room
returns-clause-room c = omega (arith, c.undos.invariant.room, ap length (c.in_default.ensures.0))
