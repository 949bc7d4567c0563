-- The events that crashes lose, and the reports that a deeper crash would lose.
use Rattle.std.proofs.Common.{◌≡◌, suc, List, [], ◌∷◌, length, take, refl, ap, arith}
use Rattle.std.specs.Prelude.{slice_set}
use Rattle.std.proofs.lemmas.List.{length-append, length-take-le}
use Rattle.rb_money.specs.Settings.{Settings}
use Rattle.rb_site.specs.declared.event.Event.{Event}
use Rattle.rb_site.specs.declared.event.Event.TheVariants.{Pass}
use Rattle.rb_site.specs.Events.{ModelSite, after_event, first_site}
use Rattle.rb_world.specs.Crashes.{Restarts}
use Rattle.rb_world.specs.CrashLaws.{CrashesLoseEvents, ForgetsTheReported, reports_at, reports_of}
use Rattle.rb_world.proofs.DiskStepping
use Rattle.rb_world.proofs.DiskStepping.{IsReached, disk}

-- ---- a deeper crash

length-reports : (s : Settings) (es : List Event) (t : ModelSite) → length (reports_of s t es) ≡ length es
length-reports s [] t = refl
length-reports s (e ∷ es) t = ap (λ n. suc n) (length-reports s es (after_event s t e))

-- fewer events have fewer reports
pub forgets : ForgetsTheReported
forgets s i n d fewer within (more, is) =
    let whole = length-reports s d.events (first_site i) in
    absurd (omega (
      arith,
      length-reports s (take n d.events) (first_site i),
      length-take-le n d.events (omega arith),
      length-take-le d.reported (reports_at s i d) (omega (arith, whole)),
      length-append (take d.reported (reports_at s i d)) more,
      ap length is,
    ))

-- ---- a crash that loses an event

-- of two events the first is written and reported, and the crash takes the second
pub loses : CrashesLoseEvents
loses s some two =
    let e = Pass 0 in
    let first = DiskStepping.acted s 0 (disk 0 0 []) e tt (omega arith) (DiskStepping.first_reached s 0 (omega arith)) in
    let r = DiskStepping.first_reported s 0 e (e ∷ []) (DiskStepping.acted s 0 (disk 0 0 (e ∷ [])) e tt (omega arith) first) in
    record {
      before = r.world;
      after = slice_set r.world 0 (disk 1 1 (e ∷ []));
      led = r.led;
      crash = DiskStepping.takes s r.world 0 (disk 1 1 (e ∷ e ∷ [])) (Restarts 1) r.at (omega arith, omega arith) tt;
      kept = 1;
      restarts = refl;
      reported = omega arith;
      lost = omega arith;
    }
