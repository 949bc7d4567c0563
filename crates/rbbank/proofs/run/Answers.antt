use Rattle.rbbank.proofs.Ends.{any_end, no_memory, unread_end, words_end}
use Rattle.rbbank.proofs.run.Goals as goal

pub returns-in-Err : goal.returns-in-Err
returns-in-Err g c = unread_end _ _ c.report_unread.ensures

pub returns-in_default : goal.returns-in_default
returns-in_default g c = no_memory _ c.out_of_memory.ensures

pub returns-in_default-collect : goal.returns-in_default-collect
returns-in_default-collect g c = no_memory _ c.out_of_memory-in_default-collect.ensures

pub returns : goal.returns
returns g c = words_end _ _ c.report_words.ensures

pub returns-in-Ok-do_words : goal.returns-in-Ok-do_words
returns-in-Ok-do_words g c = any_end _ _ c.in-Ok-do_words.ensures.status
