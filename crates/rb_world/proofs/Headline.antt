-- All laws, of every run, and of every world that is the run of its events.
use Rattle.std.proofs.Common.{◌≤◌, List, sym, subst, arith}
use Rattle.rb_money.specs.Settings.{Settings}
use Rattle.rb_money.specs.declared.limits.TheConstants.{MOST_SITES}
use Rattle.rb_site.specs.declared.world_event.WorldEvent.{WorldEvent}
use Rattle.rb_site.specs.Worlds.{AreOwn, World, world_of_run}
use Rattle.rb_world.specs.Laws.{Headline, IsRunOf, OtherLaws, SeenWorld}
use Rattle.rb_world.proofs.CaughtUp
use Rattle.rb_world.proofs.Good
use Rattle.rb_world.proofs.Lawful
use Rattle.rb_world.proofs.Ready
use Rattle.rb_world.proofs.Reversal
use Rattle.rb_world.proofs.Token

-- all laws hold
abbrev pub Holds : Settings → World → Type 0
Holds s w = Headline s w × OtherLaws s w

-- they do of a world of 1 to MOST_SITES sites after every run in which messages come by deliveries alone
pub holds : (s : Settings) (es : List WorldEvent) → 1 ≤ s.sites → s.sites ≤ MOST_SITES → AreOwn es → Holds s (world_of_run s es)
holds s es some few own =
    let w = world_of_run s es in
    let g = Good.good_run s es some few own in (
      record {
        exact_reversal = Reversal.exact_reversal s w;
        red_blue = Lawful.red_blue s w g;
        agreement = Lawful.agreement s w g;
        never_negative = Lawful.never_negative s w g;
      },
      record {
        one_token = Token.one_holder s w g.place;
        clocks = Lawful.clocks s w g;
        funds = Lawful.funds s w g;
        valid_lists = Lawful.valid_lists s w g;
        never_stuck = Ready.never_stuck s w g;
        trusts_its_own = Ready.trusts_its_own s w g;
        can_catch_up = CaughtUp.can_catch_up s w g;
      },
    )

-- and of a world that is the run of its own events
pub holds_of_run : (x : SeenWorld) → IsRunOf x → Holds x.settings x.world
holds_of_run x run =
    subst (Holds x.settings) (sym run.is)
    (holds x.settings x.events (let some : 2 ≤ x.settings.sites = run.some_sites in omega arith) run.few_sites run.own)
