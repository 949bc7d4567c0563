use Rattle.rb_ledger.proofs.Words.{length, ap, arith, refl, slice_get_read}
use Rattle.rb_ledger.proofs.HeadReads
use Rattle.rb_ledger.proofs.Lengths
use Rattle.rb_ledger.proofs.SeenLists
use Rattle.rb_ledger.proofs.ReadItems
use Rattle.rb_ledger.proofs.Public.OnAccount
use Rattle.rb_ledger.proofs.ledger.Ledger.last_on.Goals as goal

pub returns-in-None-clause-last : goal.returns-in-None-clause-last
returns-in-None-clause-last c =
    let index = SeenLists.seen _ _ _ _ c.self.invariant.index c.self.view_is in
    HeadReads.last_absent c.args.self.now.settings c.args.self.now.entries _ c.args.place index.clocked.valid index.heads (omega (
      arith,
      ap length c.deref.ensures.value,
      c.from.ensures,
      c.in-None.ensures.lookup.3,
    ))

pub returns-in-Some : goal.returns-in-Some
returns-in-Some c =
    let index = SeenLists.seen _ _ _ _ c.self.invariant.index c.self.view_is in
    let last = HeadReads.head_last _ _ _ c.args.place _ index.heads
    (ReadItems.read_at _ _ _ _ _ c.deref.ensures.value c.from.ensures (slice_get_read _ _ _ _ refl c.in-Some.ensures.lookup.3.0
    c.in-Some.ensures.lookup.1)) in
    let within = OnAccount.on_within _ c.args.place _ last.on in
    record {
      last = last;
      within = within;
      few = omega (arith, within, Lengths.clocked_length _ _ _ index.clocked);
    }
