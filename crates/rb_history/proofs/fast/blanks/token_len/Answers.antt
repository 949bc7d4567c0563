use Rattle.std.proofs.Common.{sym, ◌∙◌, arith}
use Rattle.rb_history.proofs.Blanks.{mark_at}
use Rattle.rb_history.proofs.fast.blanks.token_len.Goals as goal

pub returns-then-is_mark : goal.returns-then-is_mark
returns-then-is_mark c =
    (omega arith, omega arith, mark_at c.args.text.now (omega arith) (sym c.is_mark.ensures ∙ c.if-is_mark.true))
