-- A run of a site, as steps of a site with a disk.
use Rattle.std.specs.Prelude.{◌≡◌, ◌⊎◌, ℕ, true, List, [], ◌∷◌, ◌++◌, length, map, take, Some, None}
use Rattle.rb_lines.specs.Lines.{is_long}
use Rattle.rb_money.specs.Settings.{Settings}
use Rattle.rb_shadow.specs.declared.op_name.OpName.{OpName}
use Rattle.rb_site.specs.declared.event.Event.{Event}
use Rattle.rb_site.specs.declared.event.Event.TheVariants.{Apply, Receive}
use Rattle.rb_site.specs.Events.{first_site}
use Rattle.rb_site.specs.Histories.{events_of, with_replies}
use Rattle.rb_site.specs.Seen.{next_sites}
use Rattle.rb_world.specs.Crashes.{Acts, DiskSite, DiskStep, MayAllHappen, Receives, Reports, Syncs, after_steps}
use Rattle.rb_journal.specs.Lines.{recovered}
use Rattle.rb_history.specs.Ids.{AskedEntry, AskedEvent}
use Rattle.rb_node.specs.Answers.{asked_event_on}
use Rattle.rb_node.specs.Asked.{SeenAsked, entries_alone, without_ids}
use Rattle.rb_journal.specs.Turns.{Turn}
use Rattle.rb_run_site.specs.Journals.{journal_of}
use Rattle.rb_run_site.specs.Runs.{Found, HasNotRun, HasRun, SiteRun}

-- a site that restarts with its journal: all of its events are on its disk, and any of them may have been reported
-- before
abbrev pub restarted : SeenAsked → DiskSite
restarted x = record {
  events = events_of (entries_alone x.asked);
  on_disk = length x.asked;
  reported = length x.asked;
}

-- these lines are a journal of the events that a site has on its disk, each with its reply, and some with an id
pub record IsJournalOnDisk (s : Settings) (me : ℕ) (d : DiskSite) (lines : List (List ℕ)) : Type 0 where
  pub asked : List AskedEntry
  pub entries_are : entries_alone asked ≡ with_replies s (first_site me) (take d.on_disk d.events)
  pub lines_are : lines ≡ journal_of (record { settings = s; me = me; bank = []; asked = asked })

-- an event as a step: a message is delivered, or it is an event of the site's own
abbrev pub step_of : Event → DiskStep
step_of (Receive m) = Receives m
step_of e = Acts e

-- the events that a line's turn recorded: the one on it, or nothing, as it wasn't recorded or its id is known; and then
-- what is applied after it. Or none, if there is none on it or it is too long
abbrev pub AreEventsOf : Settings → List ℕ → List ℕ → List Event → Type 0
AreEventsOf s bank line events =
    ((asked : AskedEvent) × (applied : List OpName) × (asked_event_on s bank line ≡ Some asked)
    × ((events ≡ asked.event ∷ map Apply applied) ⊎ (events ≡ map Apply applied)))
    ⊎ ((events ≡ []) × ((asked_event_on s bank line ≡ None) ⊎ (is_long line ≡ true)))

-- the steps of a turn: the events that it recorded; then all that the site has is on its disk; and only then it is
-- reported
pub record IsTurnInSteps (x : SeenAsked) (t : Turn SeenAsked) (steps : List DiskStep) : Type 0 where
  pub events : List Event
  pub on_line : AreEventsOf x.settings x.bank t.line events
  pub after : without_ids t.after ≡ next_sites (without_ids x) events
  pub steps_are : steps ≡ map step_of events ++ Syncs (length t.after.asked) ∷ Reports (length t.after.asked) ∷ []

-- the steps of turns, one after another
abbrev pub AreStepsOf : SeenAsked → List (Turn SeenAsked) → List DiskStep → Type 0
AreStepsOf x [] steps = steps ≡ []
AreStepsOf x (t ∷ turns) steps = (first : List DiskStep) × (later : List DiskStep) × (steps ≡ first ++ later)
    × IsTurnInSteps x t first × AreStepsOf t.after turns later

-- the turns of a site that restarts are steps, each of which may happen at it alone; after them the lines of the file
-- are the journal of what it has on its disk, and all of that was reported
pub record AreSteps (x : SeenAsked) (turns : List (Turn SeenAsked)) (file : List ℕ) : Type 0 where
  pub steps : List DiskStep
  pub are_theirs : AreStepsOf x turns steps
  pub may : MayAllHappen x.settings (restarted x) steps
  pub last : DiskSite
  pub last_is : last ≡ after_steps x.settings (restarted x) steps
  pub lines_are : IsJournalOnDisk x.settings x.me last (recovered file)
  pub reported : last.reported ≡ length last.events

-- at any moment nothing has changed yet, or the journal is still new, or the run of the site is one of steps: so what
-- was put out is a prefix of what is sent again and of the texts of turns whose events are on the disk and count as
-- reported
abbrev pub IsRunOfSteps : SiteRun → Found → List ℕ → List ℕ → Type 0
IsRunOfSteps run old c d = HasNotRun run old c d
    ⊎ ((has : HasRun run (recovered old.file) old.output c d) × AreSteps has.start has.answered.turns c)
