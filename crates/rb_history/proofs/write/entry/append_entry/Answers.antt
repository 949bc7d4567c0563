use Rattle.rb_history.proofs.Words.{append_assoc, sym}
use Rattle.rb_history.proofs.Receipts.{line_parts}
use Rattle.rb_history.proofs.Public.Appended.{both, failed, then}
use Rattle.rb_history.proofs.write.entry.append_entry.Goals as goal

pub returns-in_err-append_value : goal.returns-in_err-append_value
returns-in_err-append_value c =
    failed _ c.args.out.now.items _ _ _ _ c.from_residual-in_err-append_value.ensures.0 c.in_ok-append_front.ensures
    c.in_err-append_value.ensures

pub returns : goal.returns
returns c =
    let old = c.args.out.now.items in
    let two = both old _ _ _ _ c.in_ok-append_front.ensures c.in_ok-append_value.ensures in
    let whole = line_parts c.args.config.now c.args.site (record { id = c.args.id.now; entry = c.args.entry.now })
    c.requires in
    then _ old _ _ _ _ _ two c.append_number.ensures (rw (sym whole) (simp append_assoc))
