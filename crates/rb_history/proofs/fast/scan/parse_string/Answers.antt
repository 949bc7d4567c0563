use Rattle.rb_history.proofs.Scanned.{cut_after_quote}
use Rattle.rb_history.proofs.fast.scan.parse_string.Goals as goal

pub range_from-requires : goal.range_from-requires
range_from-requires c = λ some. cut_after_quote c.args.text.now c.as_bytes.result.now c.in_ok-len.len c.as_bytes.ensures.value c.utf8.text
    c.in_ok-len.ensures.0 c.in_ok-len.ensures.1
