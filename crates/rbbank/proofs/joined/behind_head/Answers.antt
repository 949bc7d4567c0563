-- Of a text without a byte and one with some, only the second has a first line.
use Rattle.std.proofs.Common.{◌∙◌, sym}
use Rattle.rbbank.proofs.LinesOfFiles.{some_first}
use Rattle.rbbank.proofs.joined.behind_head.Goals as goal

pub returns-else-is_empty-2 : goal.returns-else-is_empty-2
returns-else-is_empty-2 c = some_first c.args.file.now c.args.input.now (sym c.is_empty.ensures ∙ c.if-is_empty.true)
    (sym c.is_empty-then-is_empty.ensures ∙ c.if-is_empty-2.false)

pub returns-then-is_empty-3 : goal.returns-then-is_empty-3
returns-then-is_empty-3 c = λ same. some_first c.args.input.now c.args.file.now (sym c.is_empty-2.ensures ∙ c.if-is_empty-3.true)
    (sym c.is_empty.ensures ∙ c.if-is_empty.false) (sym same)
