use Rattle.std.proofs.Common.{arith, ◌≡◌, ◌<◌, ◌+◌, ◌^◌, sym, subst, drop, length, length-drop, take, Err, rules}
use Rattle.std.specs.Prelude.{IfErr}
use Rattle.rb_run_site.specs.Openings.{EndsOver, IsOpeningCause, OpensSite}
use Rattle.rb_run_site.proofs.Causes.{first_cause, first_line_is, over_cause}
use Rattle.rb_run_site.proofs.Configured.{behind}
use Rattle.rb_run_site.proofs.opening.open_site.Goals as goal

pub returns-clause-opened : goal.returns-clause-opened
returns-clause-opened g c =
    let p = c.first_line.new.buffers.pending in
    let n = c.in_ok-n.n in
    let line = c.in_ok-n.ensures.line.0 in
    let site = c.in_ok-opened.opened in (
      take n p,
      subst (λ l. OpensSite (take n l) c.args.me c.args.bank c.args.resend c.args.bytes.now site.responder.node.site site.first.items
          site.sends.items) c.as_slice.ensures c.in_ok-opened.ensures,
      rw c.skip_line.ensures (behind _ _ c.in_ok-n.number p c.first_line.new.buffers.ended n c.in_ok-n.ensures.input line.0 line.2 line.3
          c.in_ok-n.ensures.end),
    )

pub returns-clause-number : goal.returns-clause-number
returns-clause-number g c =
    let p = c.first_line.new.buffers.pending in
    let n = c.in_ok-n.n in
    let below : c.in_ok-n.number + 1 + length (drop (n + 1) p) < 2 ^ 63 =
    omega (arith, c.in_ok-n.ensures.number.1, length-drop (n + 1) p) in
    rw c.skip_line.ensures below

pub returns-in_err-n-clause-cause : goal.returns-in_err-n-clause-cause
returns-in_err-n-clause-cause g c =
    let input = g.S.Source.remaining c.args.reader.now in
    let left = g.S.Source.remaining c.first_line.new.reader in
    let file = c.args.bytes.now in
    let fault = c.in_err-n.field-0.0 in
    let passed : c.from_residual.result ≡ Err fault = search rules in
    subst (λ r. IfErr r (IsOpeningCause c.args.me c.args.bank input left file)) (sym passed)
    (first_cause c.args.me c.args.bank input left file c.first_line.new.buffers.pending fault
    c.in_err-n.ensures.kind c.in_err-n.ensures.input)

pub returns-in_err-opened-clause-cause : goal.returns-in_err-opened-clause-cause
returns-in_err-opened-clause-cause g c =
    let p = c.first_line.new.buffers.pending in
    let n = c.in_ok-n.n in
    let found = c.in_ok-n.ensures in
    let line = found.line.0 in
    let input = g.S.Source.remaining c.args.reader.now in
    let left = g.S.Source.remaining c.first_line.new.reader in
    let file = c.args.bytes.now in
    let first = first_line_is input left c.in_ok-n.number p c.first_line.new.buffers.ended n found.input line.0 line.2 line.3 found.end in
    let fault = c.in_err-opened.field-0.0 in
    let passed : c.from_residual-in_err-opened.result ≡ Err fault = search rules in
    let ends : EndsOver c.args.me c.args.bank file c.in_ok-n.number (take n p) fault =
    subst (λ l. EndsOver c.args.me c.args.bank file c.in_ok-n.number (take n l) fault) c.as_slice.ensures c.in_err-opened.ensures in
    subst (λ r. IfErr r (IsOpeningCause c.args.me c.args.bank input left file)) (sym passed)
    (over_cause c.args.me c.args.bank input left file c.in_ok-n.number (take n p) found.line.1 first fault ends)
