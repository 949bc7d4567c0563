use Rattle.rb_history.proofs.Words.{append_assoc, escape_byte}
use Rattle.rb_history.proofs.Public.Appended.{then}
use Rattle.rb_history.proofs.write.statement.append_statement.Goals as goal

pub returns : goal.returns
unfolding escape_byte
returns c =
    let rows = rw c.as_slice-2.ensures at c.append_rows.ensures in
    then _ c.args.out.now.items _ _ _ _ _ c.in_ok-append_number.ensures rows (simp append_assoc)
