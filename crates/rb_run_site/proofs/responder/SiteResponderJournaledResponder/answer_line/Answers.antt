use Rattle.std.proofs.Common.{◌++◌, ◌∙◌, Result, Ok, Err, sym, ap, subst, codes, string_bytes}
use Rattle.std.specs.Prelude.{OnErr, OnOk}
use Rattle.std.proofs.lemmas.Result.{on_ok_weaker}
use Rattle.rb_journal.specs.Lines.{IsBatch, recovered}
use Rattle.rb_journal.proofs.Public.Lines.{both_lines, lines-append}
use Rattle.rb_node.specs.Answers.{SeenNode, line_of}
use Rattle.rb_run_site.specs.Journals.{bad_json}
use Rattle.rb_run_site.proofs.Turned.{bad_line, batched, may_have, short_line, turned}
use Rattle.rb_run_site.proofs.responder.SiteResponderJournaledResponder.answer_line.Goals as goal

-- what follows from a call that was done, and from one that failed
either : {T E P Q B : Type 0} (r : Result T E) → OnOk r P → OnErr r Q → (P → B) → (Q → B) → B
either (Ok v) p q done failed = done p
either (Err e) p q done failed = failed q

pub invariant_of-batch : goal.invariant_of-batch
invariant_of-batch g c = record {
  whole = either c.answer.result c.answer.ensures.answered c.answer.ensures.err
      (λ ok. let (text, entries, a, said, lines) = ok in
      subst IsBatch (sym lines) (both_lines c.args.batch.now.bytes.items entries c.args.batch.now.whole
      (batched c.lines_are_single.ensures.entries c.read_events_fit.ensures g.M.Records.ALL c.args.self.now.node.site
      c.answer.new.self.site c.args.line.now text entries c.settings_are_configured.ensures.configured a)))
      (λ err. subst IsBatch (sym err.1) c.args.batch.now.whole);
}

pub returns-in-Ok-clause-answered : goal.returns-in-Ok-clause-answered
returns-in-Ok-clause-answered g c =
    let (text, entries, a, said, lines) = c.in-Ok.ensures.answered in
    turned g.M.Records.ALL c.args.self.now.node.site c.answer.new.self.site c.args.number c.args.line.now text entries
    c.args.text.now.items c.answer.new.answers.items (recovered c.args.batch.now.bytes.items)
    (recovered c.answer.new.entries.items) c.settings_are_configured.ensures.configured
    (short_line c.args.line.now c.requires.short) said
    (ap recovered lines ∙ lines-append c.args.batch.now.bytes.items entries c.args.batch.now.whole)
    c.lines_are_single.ensures.entries c.read_events_fit.ensures a

pub returns-in-Err-Bad-clause-answered : goal.returns-in-Err-Bad-clause-answered
returns-in-Err-Bad-clause-answered g c =
    let bad = c.in-Err-Bad.ensures.bad (ap Err c.in-Err-Bad.field-0-is) in
    on_ok_weaker c.append_bad_line.result
    (λ adds. bad_line g.M.Records.ALL c.args.self.now.node.site c.answer.new.self.site c.args.number adds.0 c.args.line.now
    c.args.text.now.items c.append_bad_line.new.out.items _ _ c.settings_are_configured.ensures.configured
    (may_have string_bytes c.reason_at_site-why.result adds.0 c.reason_at_site-why.ensures.plain adds.1)
    (short_line c.args.line.now c.requires.short) bad.0 bad.1 bad.2 (ap (λ (n : SeenNode). n.site) bad.3)
    (adds.2 ∙ ap (λ l. l ++ line_of (bad_json (codes "line") c.args.number adds.0)) c.in-Err-Bad.ensures.err.0)
    (ap recovered c.in-Err-Bad.ensures.err.1))
    c.append_bad_line.ensures.ok
