use Rattle.std.proofs.Common.{◌≡◌, ◌++◌, length}
use Rattle.json.specs.Lex.{between, lex}
use Rattle.rb_history.specs.Blanks.{AreTokens}
use Rattle.rb_history.proofs.fast.blanks.join_tokens.Given as goal

-- what is joined is whole tokens, and is read with what is left as the line is
abbrev pub invariant-loop-left : goal.invariant-loop-left
invariant-loop-left l = record { whole : AreTokens l.text.items; read : lex between (l.text.items ++ l.left) ≡ lex between l.line }

abbrev pub decreases-loop-left : goal.decreases-loop-left
decreases-loop-left l = length l.left
