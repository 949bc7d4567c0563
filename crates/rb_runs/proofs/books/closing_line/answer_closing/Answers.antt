-- The sites at the end of one world's histories, or what shows that no world has them.
use Rattle.rb_runs.proofs.Words.{inl, sym, subst, IsConfigured}
use Rattle.rb_runs.proofs.Answered.{IsFirstOf, closing_found, first_of, proper_of}
use Rattle.rb_runs.proofs.Faulted.{faulted}
use Rattle.rb_runs.proofs.NextAccounts.{may_be_next}
use Rattle.rb_runs.proofs.books.closing_line.answer_closing.Goals as goal

-- the first of the sites
first : (c : goal.After-as_slice) → IsFirstOf c.args.auditor.settings c.args.auditor.histories c.as_slice.result.now c.index.result.now
first c =
    first_of c.args.auditor.settings c.args.auditor.histories c.in-Ok._order c.as_slice.result.now c.in-Ok.sites.items
    c.index.result.now c.as_slice.ensures.value c.in-Ok.ensures.sites c.in-Ok.ensures.each
    (subst IsConfigured c.config.ensures.same c.sites-sites.ensures.configured) c.in-Ok.ensures.certified c.index.ensures

pub answer_accepted-answer-requires-clause-configured : goal.answer_accepted-answer-requires-clause-configured
answer_accepted-answer-requires-clause-configured c =
    subst IsConfigured (sym (first c).settings) (subst IsConfigured c.config.ensures.same c.sites-sites.ensures.configured)

pub answer_accepted-answer-requires-clause-ended : goal.answer_accepted-answer-requires-clause-ended
answer_accepted-answer-requires-clause-ended c = (first c).ended

pub answer_accepted-answer-requires-clause-one : goal.answer_accepted-answer-requires-clause-one
answer_accepted-answer-requires-clause-one c = (first c).one

pub answer_accepted-answer-requires-clause-proper : goal.answer_accepted-answer-requires-clause-proper
answer_accepted-answer-requires-clause-proper c =
    proper_of c.args.ask.now c.args.auditor.settings c.index.result.now.settings (first c).settings
    (may_be_next c.args.auditor.settings c.args.ask.now (subst IsConfigured c.config.ensures.same c.sites-sites.ensures.configured)
    c.requires.sites c.requires.added)

pub returns-in-Ok : goal.returns-in-Ok
returns-in-Ok c =
    let f = first_of c.args.auditor.settings c.args.auditor.histories c.in-Ok._order c.as_slice.result.now c.in-Ok.sites.items
    c.index.result.now c.as_slice.ensures.value c.in-Ok.ensures.sites c.in-Ok.ensures.each
    (subst IsConfigured c.config.ensures.same c.sites-sites.ensures.configured) c.in-Ok.ensures.certified c.index.ensures in
    closing_found c.args.ask.now c.args.auditor.settings c.index.result.now.settings c.args.auditor.histories _
    c.answer_accepted-answer.result f.settings f.histories c.answer_accepted-answer.ensures

pub returns-in_ok-fault_line-in-Err : goal.returns-in_ok-fault_line-in-Err
returns-in_ok-fault_line-in-Err c =
    inl (faulted (record { settings = c.args.auditor.settings; histories = c.args.auditor.histories }) c.in-Err.fault _
    c.in-Err.ensures.found c.in-Err.ensures.refuted c.in_ok-fault_line-in-Err.ensures)
