-- The report shows the site's history, and the share counts it.
use Rattle.std.proofs.Common.{length, sym, ap, ◌∙◌}
use Rattle.rb_branch.proofs.ClosedReports.{closed_report, report_history}
use Rattle.rb_branch.proofs.desk.Desk.close.Goals as goal

pub returns-clause-report : goal.returns-clause-report
returns-clause-report g c =
    closed_report g.E.Entries.settings c.self.inside.site _ _ c.close.result c.self.invariant c.close.ensures

pub returns-clause-share : goal.returns-clause-share
returns-clause-share g c =
    let same = report_history g.E.Entries.settings c.self.inside.site _ _ c.close.result c.self.invariant c.close.ensures in
    (c.self.invariant.one_part, c.self.invariant.counted ∙ ap length (sym same))
