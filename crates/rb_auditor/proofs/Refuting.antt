-- The findings of an audit show that no world has the histories.
use Rattle.std.proofs.Common.{◌≡◌, ℕ, ◌<◌, List, [], ◌∷◌, length, refl}
use Rattle.rb_site.specs.declared.event.Event.{Event}
use Rattle.rb_auditor.specs.Replays.{seen_at}
use Rattle.rb_site.proofs.Public.Lists.{map_back}
use Rattle.std.proofs.Common.{sym, subst, inl, inr, arith, Some, false}
use Rattle.std.specs.Prelude.{slice_get}
use Rattle.std.proofs.lemmas.Bool.Decides.{nat_tests}
use Rattle.rb_money.specs.Settings.{Settings}
use Rattle.rb_shadow.proofs.Public.Members
use Rattle.rb_site.specs.declared.entry.Entry.{Entry}
use Rattle.rb_site.specs.declared.world_event.WorldEvent.{WorldEvent}
use Rattle.rb_site.specs.Events.{ModelSite, after_event, first_site, is_full, reply_to}
use Rattle.rb_site.specs.Histories.{AreOneWorlds, history_of, site_of}
use Rattle.rb_site.specs.Seen.{entry}
use Rattle.rb_site.specs.Worlds.{AreOwn, World, first_world, is_recorded, world_after, world_after_all, world_of_run}
use Rattle.rb_site.proofs.Public.Recorded
use Rattle.rb_site.proofs.Public.Recorded.{IsRecorded}
use Rattle.rb_site.proofs.Public.Runs as SiteRuns
use Rattle.rb_site.proofs.Public.Runs.{IsRunOfItsHistory}
use Rattle.rb_site.proofs.Public.Seen
use Rattle.rb_site.proofs.Public.Stuck
use Rattle.std.proofs.lemmas.List.{length-map}
use Rattle.std.proofs.lemmas.List.FromFn.{length-map-range_with_len}
use Rattle.rb_auditor.specs.Certificates.{Certifies}
use Rattle.rb_auditor.specs.Findings.{IsFirstWrong, IsReplay, IsStuckAt}
use Rattle.rb_auditor.specs.Progress.{site_after}
use Rattle.rb_auditor.proofs.Lists
use Rattle.rb_auditor.proofs.Replaying
use Rattle.rb_auditor.proofs.Runs

-- a site's state is what its history leads to, and that replays
pub record IsAtItsHistory (s : Settings) (i : ℕ) (t : ModelSite) : Type 0 where
  pub run : IsRunOfItsHistory s t
  pub stands : site_after s i (history_of s t) ≡ t
  pub replays : IsReplay s i (history_of s t)

abbrev AllAtTheirs : Settings → World → Type 0
AllAtTheirs s w = (i : ℕ) (t : ModelSite) → slice_get w.sites i ≡ Some t → IsAtItsHistory s i t

room_below : (s : Settings) (t : ModelSite) → is_full s t ≡ false → length (history_of s t) < s.limits.history
room_below s t free = grind (arith, nat_tests, Seen.entries-length s (first_site t.me) t.history)

goes_on : (s : Settings) (i : ℕ) (t : ModelSite) (e : Event) → is_full s t ≡ false → IsAtItsHistory s i t
    → IsAtItsHistory s i (after_event s t e)
goes_on s i t e free a =
    let grown = Seen.history-noted s t e free a.run in
    record {
      run = SiteRuns.run_goes_on s t e a.run;
      stands = cc (grown, a.stands, Replaying.after_more s (first_site i) (history_of s t) (entry e (reply_to s t e)));
      replays = rw grown (rw a.stands at
          (Seen.replayed-stepped (seen_at s i (history_of s t)) e (room_below s t free) a.replays));
    }

recorded_at : (s : Settings) (w : World) (e : WorldEvent) → IsRecorded s w e → AllAtTheirs s w → AllAtTheirs s (world_after s w e)
recorded_at s w e r all = rw r.is (Lists.each_set w.sites (site_of e) r.site (after_event s r.site r.event) (IsAtItsHistory s) r.at
    (goes_on s (site_of e) r.site r.event r.room (all (site_of e) r.site r.at)) (λ j t ne. all j t))

run_at : (s : Settings) (es : List WorldEvent) (w : World) → AreOwn es → AllAtTheirs s w → AllAtTheirs s (world_after_all s w es)
run_at s [] w own all = all
run_at s (e ∷ es) w own all =
    let owns : AreOwn (e ∷ []) × AreOwn es = Recorded.split_own e es own in
    run_at s es (world_after s w e) owns.1 (elim (Members.bool_cases (is_recorded s w e)) [
      | inl h ↦ recorded_at s w e (Recorded.is_recorded_event s w e owns.0 h) all
      | inr h ↦ subst (AllAtTheirs s) (sym (SiteRuns.unrecorded s w e h)) all
    ])

first_all : (s : Settings) → AllAtTheirs s (first_world s)
first_all s i t at =
    let (less, is) = Lists.at_number first_site s.sites i t at in
    rw is (record { run = refl; stands = refl; replays = record { within = less; replays = tt; room = omega arith } })

-- the histories of one world replay
pub one_worlds_replay : (s : Settings) (hs : List (List Entry)) (i : ℕ) (h : List Entry) → AreOneWorlds s hs → slice_get hs i ≡ Some h →
    IsReplay s i h
one_worlds_replay s hs i h one at =
    let (t, there, is) = map_back (history_of s) (world_of_run s one.events).sites i h (cc (one.gives)) in
    rw is (run_at s one.events (first_world s) one.own (first_all s) i t there).replays

-- an entry that its site doesn't record
pub wrong_is_final : (s : Settings) (hs : List (List Entry)) (site event : ℕ) → IsFirstWrong s hs site event → ¬ AreOneWorlds s hs
wrong_is_final s hs site event f one =
    f.wrong (Replaying.replay-take s site event f.history (one_worlds_replay s hs site f.history one f.there))

-- receipts of messages that no entry before sent
pub stuck_is_final : (s : Settings) (hs : List (List Entry)) (next : List ℕ) → IsStuckAt s hs next → ¬ AreOneWorlds s hs
stuck_is_final s hs next f one = Stuck.stuck_final s hs f.fronts f.stuck one

-- what is certified is one world's
pub one_worlds : (s : Settings) (hs : List (List Entry)) (order : List ℕ) → Certifies s hs order → AreOneWorlds s hs
one_worlds s hs order c = record { events = c.events; own = c.own; gives = c.gives }

-- and there is one history for each site
pub one_for_each : (s : Settings) (hs : List (List Entry)) (order : List ℕ) → Certifies s hs order → length hs ≡ s.sites
one_for_each s hs order c = cc (
  c.gives,
  length-map (world_of_run s c.events).sites (history_of s),
  Runs.same_sites s c.events (first_world s),
  length-map-range_with_len first_site 0 s.sites,
)
