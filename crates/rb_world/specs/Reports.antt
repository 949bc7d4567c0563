-- The reports of the sites of a world as it is closed.
use Rattle.std.specs.Prelude.{Bool, true, false, List, [], ◌∷◌}
use Rattle.rb_money.specs.Settings.{Settings}
use Rattle.rb_site.specs.declared.report.SiteReport.{SiteReport}
use Rattle.rb_site.specs.Events.{ModelSite}
use Rattle.rb_site.specs.Reports.{AreReports, IsReportUnkept}

-- one report for each site that keeps no history, in their order
abbrev pub AreReportsUnkept : Settings → List ModelSite → List SiteReport → Type 0
AreReportsUnkept s [] [] = Unit {0}
AreReportsUnkept s (t ∷ ts) (r ∷ rs) = IsReportUnkept s t r × AreReportsUnkept s ts rs
AreReportsUnkept s [] (r ∷ rs) = ⊥
AreReportsUnkept s (t ∷ ts) [] = ⊥

-- one report for each site, of sites that keep their histories, or don't
abbrev pub AreReportsOf : Bool → Settings → List ModelSite → List SiteReport → Type 0
AreReportsOf true s ts rs = AreReports s ts rs
AreReportsOf false s ts rs = AreReportsUnkept s ts rs
