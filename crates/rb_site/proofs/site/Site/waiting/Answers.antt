-- At most one shadow is held for each entry of the history.
use Rattle.std.proofs.Common.{ap, arith, length}
use Rattle.rb_site.proofs.Reports.{held_few}
use Rattle.rb_site.proofs.site.Site.waiting.Goals as goal

pub overflow_cast-result : goal.overflow_cast-result
overflow_cast-result g c =
    let standing = c.self.invariant.0 in
    omega (arith, held_few _ c.self.inside.state standing, standing.configured.history.1, ap length c.inbox.ensures.held, c.len.ensures)
