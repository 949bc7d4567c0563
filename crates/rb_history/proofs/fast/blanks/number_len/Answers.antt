use Rattle.std.proofs.Common.{sym, ◌∙◌, arith}
use Rattle.rb_history.proofs.Blanks.{number_at}
use Rattle.rb_history.proofs.fast.blanks.number_len.Goals as goal

pub returns-then-is_mark : goal.returns-then-is_mark
returns-then-is_mark c =
    let read = c.in_ok-len in (
      omega arith,
      omega arith,
      number_at c.args.text.now read.len _ (omega arith) read.ensures.0 read.ensures.2 (sym c.is_mark.ensures ∙ c.if-is_mark.true),
    )
