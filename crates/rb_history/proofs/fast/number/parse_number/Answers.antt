use Rattle.std.proofs.Common.{decimal}
use Rattle.rb_history.proofs.Scanned.{cut_behind}
use Rattle.rb_history.proofs.Utf8.{decimal_utf8}
use Rattle.rb_history.proofs.fast.number.parse_number.Goals as goal

pub range_from-requires : goal.range_from-requires
range_from-requires c = λ some.
    let n = c.in_ok-n.n in
    cut_behind c.args.text.now c.as_bytes.result.now (decimal n) c.in_ok-n.len c.as_bytes.ensures.value c.utf8.text c.in_ok-n.ensures.1
    c.in_ok-n.ensures.2 (decimal_utf8 n)
