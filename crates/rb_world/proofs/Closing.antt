-- The reports of a world's sites.
use Rattle.std.proofs.Common.{◌≡◌, ◌∙◌, Bool, true, false, List, [], ◌∷◌, ◌++◌, Some, ap, arith, length, map, refl, suc}
use Rattle.std.proofs.Common.{reverse, subst, append_assoc}
use Rattle.std.proofs.lemmas.List.{append-nil, reverse-append}
use Rattle.std.proofs.lemmas.List.Elements.{All-pop}
use Rattle.rb_money.specs.Settings.{Settings}
use Rattle.rb_site.specs.declared.report.SiteReport.{SiteReport}
use Rattle.rb_site.specs.Events.{ModelSite}
use Rattle.rb_site.specs.Reports.{IsReportOf}
use Rattle.rb_site.specs.Seen.{SeenSite, state_of}
use Rattle.rb_world.specs.Reports.{AreReportsOf}
use Rattle.rb_world.proofs.Stepping.{AreOf}

-- the last sites gave their reports, the last of all first, and those that are left are of the configuration
pub record IsClosing (keeps : Bool) (s : Settings) (all : List ModelSite) (rs : List SiteReport) (left : List SeenSite) : Type 0 where
  pub closed : List SeenSite
  pub together : map state_of (left ++ closed) ≡ all
  pub reports : AreReportsOf keeps s (map state_of closed) (reverse rs)
  pub settings : AreOf s left

-- no site gave no report
none_reported : (keeps : Bool) (s : Settings) → AreReportsOf keeps s [] []
none_reported true s = tt
none_reported false s = tt

-- a site gave its report before the others
one_reported : (keeps : Bool) (s : Settings) (t : ModelSite) (ts : List ModelSite) (r : SiteReport) (rs : List SiteReport)
    → IsReportOf keeps s t r → AreReportsOf keeps s ts rs → AreReportsOf keeps s (t ∷ ts) (r ∷ rs)
one_reported true s t ts r rs is are = (is, are)
one_reported false s t ts r rs is are = (is, are)

-- before any report all sites are left, each of the configuration
pub closing-first : (keeps : Bool) (s : Settings) (all : List ModelSite) (xs : List SeenSite) → map state_of xs ≡ all → AreOf s xs
    → IsClosing keeps s all [] xs
closing-first keeps s all xs sites settings = record {
  closed = [];
  together = ap (map state_of) (append-nil xs) ∙ sites;
  reports = none_reported keeps s;
  settings = settings;
}

-- the last of the sites that are left gives its report
pub closing-next : (keeps : Bool) (s : Settings) (all : List ModelSite) (before left : List SeenSite) (rs : List SiteReport) (x : SeenSite)
    (r : SiteReport) → before ≡ left ++ x ∷ [] → IsClosing keeps s all rs before
    → IsReportOf keeps x.settings (state_of x) r → IsClosing keeps s all (rs ++ r ∷ []) left
closing-next keeps s all before left rs x r popped far is =
    let kept : AreOf s left × (x.settings ≡ s) = All-pop (λ (y : SeenSite). y.settings ≡ s) before left (Some x) popped far.settings in
    record {
      closed = x ∷ far.closed;
      together = cc (append_assoc left (x ∷ []) far.closed, popped, far.together);
      reports = rw (reverse-append rs (r ∷ []))
          (one_reported keeps s (state_of x) (map state_of far.closed) r (reverse rs)
          (subst (λ (z : Settings). IsReportOf keeps z (state_of x) r) kept.1 is) far.reports);
      settings = kept.0;
    }

-- there are as many reports as sites
pub as_many : (keeps : Bool) (s : Settings) (ts : List ModelSite) (rs : List SiteReport) → AreReportsOf keeps s ts rs
    → length rs ≡ length ts
as_many true s [] [] h = refl
as_many true s [] (r ∷ rs) h = absurd h
as_many true s (t ∷ ts) [] h = absurd h
as_many true s (t ∷ ts) (r ∷ rs) h = ap suc (as_many true s ts rs h.1)
as_many false s [] [] h = refl
as_many false s [] (r ∷ rs) h = absurd h
as_many false s (t ∷ ts) [] h = absurd h
as_many false s (t ∷ ts) (r ∷ rs) h = ap suc (as_many false s ts rs h.1)

-- if no site is left, the reports, the last one first, are those of all sites in their order
pub closing-whole : (keeps : Bool) (s : Settings) (all : List ModelSite) (rs : List SiteReport) (left : List SeenSite) → length left ≡ 0
    → IsClosing keeps s all rs left → AreReportsOf keeps s all (reverse rs)
closing-whole keeps s all rs (x ∷ left) none far = absurd (omega arith)
closing-whole keeps s all rs [] none far = rw far.together at far.reports
