use Rattle.rbbank.proofs.JournalInputs.{LineLaws, books_are, inputs_are}
use Rattle.rbbank.proofs.journal_inputs.journals_are_inputs.Goals.{After-lines_are_single}
use Rattle.rbbank.proofs.journal_inputs.journals_are_inputs.Goals as goal

-- the laws that the calls say
laws : (c : After-lines_are_single) → LineLaws
laws c = record {
  configs = c.configs_are_read.ensures;
  fit = c.read_entries_fit.ensures;
  config_lines = c.lines_are_single.ensures.configs;
  entry_lines = c.lines_are_single.ensures.entries;
}

pub returns-clause-inputs : goal.returns-clause-inputs
returns-clause-inputs c = inputs_are (laws (goal.at.returns-clause-inputs c).After-lines_are_single)

pub returns-clause-books : goal.returns-clause-books
returns-clause-books c = books_are (laws (goal.at.returns-clause-books c).After-lines_are_single)
