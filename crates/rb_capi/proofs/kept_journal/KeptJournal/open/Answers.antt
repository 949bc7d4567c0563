-- A site is opened over its journal, whose calls C makes.
use Rattle.std.proofs.Common.{◌∙◌, subst}
use Rattle.rb_journal.specs.Calls.{output_of}
use Rattle.rb_journal.specs.Lines.{recovered}
use Rattle.rb_journal.specs.PlannedFiles.{log_planned}
use Rattle.rb_run_site.specs.Journals.{journal_of}
use Rattle.rb_run_site.specs.Openings.{OpensSite}
use Rattle.rb_capi.proofs.JournalCalls.{on_disk, over_calls}
use Rattle.rb_capi.proofs.kept_journal.KeptJournal.open.Goals as goal

pub returns-in-Ok : goal.returns-in-Ok
returns-in-Ok c =
    let o = c.in_ok-opened.opened in
    let x = o.responder.node.site in
    let file = c.args.file.now in
    let old = c.new.result in
    let journal = c.in-Ok.journal in
    let is = c.in-Ok.ensures in
    rw (is.responder, is.sends) (record {
      first = o.first.items;
      opens = subst (λ bank. OpensSite c.args.config.now c.args.me bank c.args.resend file x o.first.items o.sends.items)
          c.none-bank.ensures c.in_ok-opened.ensures;
      found = is.reported ∙ c.new.ensures.made;
      any_moment = over_calls old journal.host (recovered file) (journal_of x) (output_of (log_planned old)) c.new.ensures.usable
          is.settled.usable c.new.ensures.none is.reported is.any_moment;
      on_disk = on_disk journal x o.sends.items is.settled is.lines;
    })
