-- The books are closed, or not, as the call asks.
use Rattle.std.proofs.Common.{◌∙◌, ◌==◌, Some, ap, length, map, refl, sum, sym}
use Rattle.std.proofs.lemmas.Bool.{eqb-true}
use Rattle.rb_capi.specs.Close.{pieces_of}
use Rattle.rb_capi.proofs.ClosedInMemory.{runs_close}
use Rattle.rb_capi.proofs.close.close.Goals as goal

pub returns-in-Ok-closed_in_memory : goal.returns-in-Ok-closed_in_memory
returns-in-Ok-closed_in_memory c =
    let files = c.run_close-ran.new.files in
    runs_close (record { sites = c.args.sites; names = c.args.names.now; journals = c.args.journals.now; lengths = c.args.lengths.now })
    c.new-ask.result files.taken files.lengths.now files.bytes.now c.run_close-ran.result _ _ _
    c.run_close-ran.new.writer.taken.items _ (c.if-not-may_be_asked.ensures.0 refl)
    (λ none. absurd (cc (c.if-is_empty.ensures ∙ ap (λ ls. length ls == 0) none)))
    (eqb-true (sum c.args.lengths.now) (length c.args.journals.now) (sym c.if-not-are_lengths_of.ensures))
    (c.new-ask.ensures.sites ∙ c.sites_asked.ensures)
    (c.new-ask.ensures.added ∙ ap (map (λ name. name.now)) c.as_slice.ensures.value ∙ c.in-Ok.ensures)
    (c.run_close-ran.ensures.same ∙ (λ k. Some (pieces_of (c.new-files.ensures.lengths k) (c.new-files.ensures.bytes k))))
    c.run_close-ran.ensures.written.2 c.requires.empty c.run_close-ran.ensures.written.1
    (sym c.in-Ok-closed_in_memory.is ∙ c.closed_in_memory.ensures.result) c.closed_in_memory.ensures.text

pub returns : goal.returns
returns c =
    let files = c.run_close-ran.new.files in
    runs_close (record { sites = c.args.sites; names = c.args.names.now; journals = c.args.journals.now; lengths = c.args.lengths.now })
    c.new-ask.result files.taken files.lengths.now files.bytes.now c.run_close-ran.result _ _ _
    c.run_close-ran.new.writer.taken.items _ (c.if-not-may_be_asked.ensures.0 refl)
    (λ none. absurd (cc (c.if-is_empty.ensures ∙ ap (λ ls. length ls == 0) none)))
    (eqb-true (sum c.args.lengths.now) (length c.args.journals.now) (sym c.if-not-are_lengths_of.ensures))
    (c.new-ask.ensures.sites ∙ c.sites_asked.ensures)
    (c.new-ask.ensures.added ∙ ap (map (λ name. name.now)) c.as_slice.ensures.value ∙ c.in-Ok.ensures)
    (c.run_close-ran.ensures.same ∙ (λ k. Some (pieces_of (c.new-files.ensures.lengths k) (c.new-files.ensures.bytes k))))
    c.run_close-ran.ensures.written.2 c.requires.empty c.run_close-ran.ensures.written.1
    (sym c.in-Err.is ∙ c.closed_in_memory.ensures.result) c.closed_in_memory.ensures.text
