use Rattle.std.proofs.Common.{rules, ◌≡◌, true, false, [], refl, ap}
use Rattle.std.proofs.lemmas.Result.{on_ok_weaker}
use Rattle.rb_lines.specs.Lines.{is_blank, is_long}
use Rattle.rb_journal.specs.Lines.{recovered}
use Rattle.rb_journal.proofs.Advance.{long_answered, some_answered}
use Rattle.rb_journal.proofs.OneTurn.{one_turn}
use Rattle.rb_journal.proofs.alone.take_line.Goals as goal

pub returns-then-line-gt-LINE_LIMIT : goal.returns-then-line-gt-LINE_LIMIT
returns-then-line-gt-LINE_LIMIT g c =
    let line = c.args.line.now in
    let long : is_long line ≡ true = search rules in
    let answers = g.R.JournaledResponder.answers in
    let batch = recovered c.args.batch.now.bytes.items in
    let text = c.args.text.now.items in
    on_ok_weaker c.answer_long.result (λ answered. one_turn answers _ _ _ _ [] batch c.args.number line text
    c.answer_long.new.text.items (rw (ap recovered c.requires.batch) (answered line long)) refl c.requires.text
    (long_answered line long)) c.answer_long.ensures.answered

pub returns : goal.returns
returns g c =
    let line = c.args.line.now in
    let some : is_blank line ≡ false = search rules in
    on_ok_weaker c.answer_line.result (λ answered. one_turn g.R.JournaledResponder.answers _ _ _ _ (recovered c.args.batch.now.bytes.items)
    (recovered c.answer_line.new.batch.bytes.items) c.args.number line
    c.args.text.now.items c.answer_line.new.text.items answered (ap recovered c.requires.batch)
    c.requires.text (some_answered line some)) c.answer_line.ensures.answered
