use Rattle.rb_history.proofs.Words.{arith, subst, IsUtf8}
use Rattle.rb_history.proofs.Scanned.{cut_after_quote}
use Rattle.rb_history.proofs.fast.id.parse_id_behind.Goals as goal

pub range_from-requires : goal.range_from-requires
range_from-requires c = λ some.
    let bytes = c.as_bytes-bytes in
    cut_after_quote c.in_ok-text.text.now bytes.result.now c.id_len-len.result bytes.ensures.value
    (subst IsUtf8 bytes.ensures.value bytes.ensures.utf8) (omega arith) (omega arith)
