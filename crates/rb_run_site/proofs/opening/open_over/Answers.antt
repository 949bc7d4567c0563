-- A site is opened over a file by the configuration on a line.
use Rattle.std.proofs.Common.{ap, sym, subst}
use Rattle.rb_node.specs.Answers.{SeenNode}
use Rattle.rb_run_site.specs.Openings.{OpensSite}
use Rattle.rb_run_site.proofs.Configured.{opened}
use Rattle.rb_run_site.proofs.opening.open_over.Goals as goal

pub returns-in-Ok-replay_file : goal.returns-in-Ok-replay_file
returns-in-Ok-replay_file g c =
    let a = c.args in
    let is = c.in-Ok.ensures in
    let first = c.in-Ok-replay_file.first.items in
    let sends = c.replay_file.new.sends.items in
    subst (λ x. OpensSite a.line.now a.me a.bank a.resend a.bytes.now x first sends)
    (ap (λ (y : SeenNode). y.site) (sym c.new-responder.ensures))
    (opened a.line.now a.me a.bank a.resend c.in-Ok.node.site c.replay_file.new.node.site a.bytes.now first sends is.0 is.1
    c.in-Ok-replay_file.ensures)
