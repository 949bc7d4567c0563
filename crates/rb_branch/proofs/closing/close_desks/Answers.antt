use Rattle.std.proofs.Common.{rules}
use Rattle.rb_branch.proofs.Reports.{reports-push, entries_in-push}
use Rattle.rb_branch.proofs.closing.close_desks.Goals as goal

pub loop-k-preserved : goal.loop-k-preserved
loop-k-preserved g c = record {
  here = search rules;
  len = search rules;
  room = search rules;
  parts = search rules;
  amount = entries_in-push c.loop-k.reports.items c.push_reserved.new.self.items c.close-report.result.0 c.loop-k.all.amount
      c.merge.new.self.amount c.push_reserved.ensures.items c.loop-k.invariant.amount (search rules);
  reports = reports-push g.E.Entries.settings c.loop-k.reports.items c.push_reserved.new.self.items c.close-report.result.0
      c.push_reserved.ensures.items c.loop-k.invariant.reports (search rules);
}
