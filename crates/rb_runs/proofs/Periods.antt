-- Periods, each of which goes on if the one before ends, are one bank.
use Rattle.rb_runs.proofs.Words.{◌≡◌, ◌<◌, ℕ, List, [], ◌∷◌, length, Some, ap, ◌∙◌, arith, pos, ◌+ℤ◌, slice_get, ints, get_or_past}
use Rattle.rb_runs.proofs.Words.{length-map, slice_get-get_or, IsConfigured, Settings, start_of, Place, delta, kept, total, IsValid}
use Rattle.rb_runs.proofs.Words.{covers, get_front, ModelSite, AreOneWorlds, world_of_run, sites_of_run, applied_from}
use Rattle.rb_runs.proofs.Words.{AnswersArePeriods, ArePeriods, Period, PeriodsAreOne, applied_over, kept_over, period_of, settings_after}
use Rattle.rb_runs.proofs.Words.{settings_behind}
use Rattle.rb_runs.proofs.AtRest.{AllLaws}
use Rattle.rb_runs.proofs.Carried.{balance_is, starts_with}
use Rattle.rb_runs.proofs.OneWorlds.{applied_are}
use Rattle.rb_runs.proofs.OpenLists.{valid_list}

-- the site has applied what it says
site_list : (s : Settings) (p : Period) → p.site < s.sites → AreOneWorlds s p.histories →
    slice_get (applied_from s 0 p.histories) p.site ≡ Some (applied_over s p)
site_list s p h one =
    let many : length (applied_from s 0 p.histories) ≡ s.sites =
    ap length (applied_are s p.histories one)
    ∙ length-map (world_of_run s one.events).sites (λ (t : ModelSite). t.ops) ∙ sites_of_run s one.events in
    slice_get-get_or (applied_from s 0 p.histories) p.site [] (omega arith)

-- what an account starts with after one period
behind : AllLaws → (s : Settings) (p : Period) → IsConfigured s → p.site < s.sites → AreOneWorlds s p.histories → (a : Place) →
    pos (start_of (settings_behind s p) a) ≡ pos (start_of s a) +ℤ total (λ u. delta u a) (kept (applied_over s p))
behind laws s p c h one a =
    starts_with s (applied_over s p) p.ask a (valid_list laws s p.histories c one p.site (applied_over s p) (site_list s p h one))
    ∙ balance_is s (applied_over s p) a

-- what an account starts with after all periods
after : AllLaws → (s : Settings) (ps : List Period) → ArePeriods s ps → (a : Place) →
    pos (start_of (settings_after s ps) a) ≡ pos (start_of s a) +ℤ kept_over s ps a
after laws s [] h a = omega (arith, ints)
after laws s (p ∷ ps) h a =
    let rest : pos (start_of (settings_after (settings_behind s p) ps) a) ≡ pos (start_of (settings_behind s p) a)
    +ℤ kept_over (settings_behind s p) ps a = after laws (settings_behind s p) ps h.4 a in
    let one : pos (start_of (settings_behind s p) a) ≡ pos (start_of s a) +ℤ total (λ u. delta u a) (kept (applied_over s p)) =
    behind laws s p h.0 h.1 h.2 a in
    omega (arith, ints)

-- each account keeps its place
same_place : (s : Settings) (ps : List Period) (i : ℕ) (name : List ℕ) → slice_get s.names i ≡ Some name →
    slice_get (settings_after s ps).names i ≡ Some name
same_place s [] i name at = at
same_place s (p ∷ ps) i name at = same_place (settings_behind s p) ps i name (get_front s.names p.ask.added i name at)

-- any number of periods are one bank
pub one_bank : AllLaws → PeriodsAreOne
one_bank laws s ps c periods c' hs one i us at =
    let valid : IsValid (settings_after s ps) us = valid_list laws (settings_after s ps) hs c' one i us at in
    record {
      names = same_place s ps;
      balances = λ a.
          balance_is (settings_after s ps) us a
          ∙ ap (λ z. z +ℤ total (λ u. delta u a) (kept us)) (after laws s ps periods a);
      added = λ a h. get_or_past s.starts a.0 0 (let same : length s.starts ≡ length s.names = c.starts_of_all in omega arith);
      never_negative = λ a. covers (settings_after s ps) us a valid;
    }

-- what closing answers is the configuration after a period
pub answered : AnswersArePeriods
answered x ask line c next site h = (
  (c, h, next.one, next.closed, tt),
  next.line_is site (applied_over x.settings (period_of x site ask)) (site_list x.settings (period_of x site ask) h next.one),
)
