-- A site is opened over the journal's own lines.
use Rattle.std.proofs.Common.{rules, ◌≡◌, ◌∙◌, List, ℕ, [], Some, Err, subst}
use Rattle.std.specs.List.{concat}
use Rattle.rb_journal.specs.Lines.{recovered}
use Rattle.rb_run_site.specs.Openings.{IsOpeningCause, OpensSite}
use Rattle.rb_run_site.specs.Starts.{WaitsBehind}
use Rattle.rb_run_site.proofs.Sealing.{starts_alone}
use Rattle.rb_run_site.proofs.seal.replay_alone.Goals as goal

pub returns : goal.returns
returns c =
    let file = c.args.bytes.now in
    let is = c.in_ok-opened.ensures.opened in
    let number = c.in_ok-opened._number in
    let site = c.in_ok-opened.opened in
    let input : c.new-reader.result.rest.now ≡ concat (recovered file) = c.new-reader.ensures.rest ∙ c.count_lines-end.ensures.lines in
    let left = Some c.open_site.new.reader.rest.now in
    starts_alone c.args.me file is.0 number c.open_site.new.buffers.pending left
    (subst (WaitsBehind is.0 number c.open_site.new.buffers.pending left) input is.2) site.responder.node.site site.first.items
    site.sends.items
    (subst (λ bank. OpensSite is.0 c.args.me bank 0 file site.responder.node.site site.first.items site.sends.items)
    c.none-bank.ensures is.1)

pub returns-in_err-opened : goal.returns-in_err-opened
returns-in_err-opened c =
    let file = c.args.bytes.now in
    let fault = c.in_err-opened.field-0.0 in
    let passed : c.from_residual.result ≡ Err fault = search rules in
    let input : c.new-reader.result.rest.now ≡ concat (recovered file) = c.new-reader.ensures.rest ∙ c.count_lines-end.ensures.lines in
    let left = Some c.open_site.new.reader.rest.now in
    rw passed (
      c.in_err-opened.ensures.only,
      (
        left,
        subst (λ (all : List ℕ). IsOpeningCause c.args.me [] (Some all) left file fault) input
            (subst (λ bank. IsOpeningCause c.args.me bank (Some c.new-reader.result.rest.now) left file fault) c.none-bank.ensures
            c.in_err-opened.ensures.cause),
      ),
    )
