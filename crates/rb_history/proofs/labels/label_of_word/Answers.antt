use Rattle.rb_history.proofs.Words.{◌≡◌, ◌∙◌, sym, [], append-nil, word_of, Label}
use Rattle.rb_history.proofs.labels.label_of_word.Goals as goal
use Rattle.rb_history.proofs.KindWords.{no_word}

-- the text is no kind's word, since it begins with none
unknown : (c : goal.After-from_residual) (label : Label) → c.args.word.now ≡ word_of label → ⊥
unknown c label e = c.strip_word.ensures.none c.in_err-label.was label [] (e ∙ sym (append-nil (word_of label)))

pub returns-in_err-label-clause-value : goal.returns-in_err-label-clause-value
returns-in_err-label-clause-value c = c.from_residual.ensures ∙ sym (no_word c.args.word.now (unknown c))

pub returns-in_err-label-clause-only : goal.returns-in_err-label-clause-only
returns-in_err-label-clause-only c = λ label e. absurd (unknown c label e)
