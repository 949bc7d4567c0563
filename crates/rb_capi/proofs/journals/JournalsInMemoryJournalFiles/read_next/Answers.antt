-- One journal more was read.
use Rattle.std.proofs.Common.{◌∙◌, ◌+◌, ◌<◌, ◌∷◌, ◌++◌, [], ap, arith, drop, length, sym, take}
use Rattle.rb_capi.specs.Close.{pieces_of}
use Rattle.rb_capi.proofs.CutBytes.{drop_next_one, next_file, take_next_one}
use Rattle.rb_capi.proofs.journals.JournalsInMemoryJournalFiles.read_next.Goals as goal

pub invariant_of-self : goal.invariant_of-self
invariant_of-self c =
    let old = c.args.self.now in
    let less : old.taken < length old.lengths.now = omega (arith, c.if-self.false) in
    let next = next_file old.lengths.now old.bytes.now old.rest.now old.taken less old.place in
    record {
      place = ap (λ r. pieces_of (drop (old.taken + 1) old.lengths.now) r) c.in-Some.ensures.cases.2
          ∙ sym (drop_next_one (pieces_of old.lengths.now old.bytes.now) old.taken _ _ next);
    }

pub returns-clause-bytes : goal.returns-clause-bytes
returns-clause-bytes c =
    let old = c.args.self.now in
    let files = pieces_of old.lengths.now old.bytes.now in
    let less : old.taken < length old.lengths.now = omega (arith, c.if-self.false) in
    let next = next_file old.lengths.now old.bytes.now old.rest.now old.taken less old.place in
    take_next_one files old.taken _ _ next
    ∙ ap (λ journal. take old.taken files ++ journal ∷ []) (sym c.in-Some.ensures.cases.1 ∙ sym c.in-Ok.ensures.items)
