use Rattle.rb_history.proofs.Words.{length, subst, ap, IsCharBoundary}
use Rattle.rb_history.proofs.Scanned.{cut_behind}
use Rattle.rb_history.proofs.fast.scan.parse_prefix.Goals as goal

pub range_from-requires : goal.range_from-requires
range_from-requires c = λ some.
    let text = c.args.text.now in
    let front = c.as_bytes-2.result.now in
    let begun = c.begins.ensures c.if-begins.true in
    let here = cut_behind text c.as_bytes.result.now front (length front) c.as_bytes.ensures.value c.utf8.text begun.0 begun.1
    c.as_bytes-2.ensures.utf8 in
    subst (IsCharBoundary text) (ap length c.as_bytes-2.ensures.value) here
