use Rattle.rb_history.proofs.Words.{append_assoc, arith, length, sym, take, take_all, ap, ◌++◌, ◌∙◌}
use Rattle.rb_history.proofs.Receipts.{line_parts}
use Rattle.rb_history.proofs.Public.Appended.{both, failed, then}
use Rattle.rb_history.proofs.write.entry.append_line_with.Goals as goal

pub returns-in_err-extend_from_slice : goal.returns-in_err-extend_from_slice
returns-in_err-extend_from_slice c =
    let front = c.append_front.new.out.items in
    failed _ c.args.out.now.items front c.extend_from_slice.new.self.items _ _ c.from_residual-in_err-extend_from_slice.ensures.0
    c.in_ok-append_front.ensures
    (ap (take (length front)) c.in_err-extend_from_slice.ensures.items ∙ take_all (length front) front (omega arith))

pub returns : goal.returns
returns c =
    let old = c.args.out.now.items in
    let two = both old _ _ _ _ c.in_ok-append_front.ensures (c.in_ok-extend_from_slice.ensures.items
    ∙ ap (λ l. c.append_front.new.out.items ++ l) c.requires.reply) in
    let whole = line_parts c.args.config.now c.args.site (record { id = c.args.id.now; entry = c.args.entry.now })
    c.requires.id in
    then _ old _ _ _ _ _ two c.append_number.ensures (rw (sym whole) (simp append_assoc))
