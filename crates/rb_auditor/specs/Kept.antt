-- Notes of histories that are read entry by entry.
use Rattle.std.specs.Prelude.{◌≡◌, ℕ, ◌+◌, ◌<◌, ◌≤◌, List, [], ◌∷◌, ◌++◌, length, map, take, drop, Option, Some, None, slice_get}
use Rattle.rb_money.specs.Settings.{Settings}
use Rattle.rb_site.specs.declared.entry.Entry.{Entry}
use Rattle.rb_site.specs.declared.event.Event.{Event}
use Rattle.rb_site.specs.declared.event.Event.TheVariants.{Receive}
use Rattle.rb_site.specs.declared.message.Message.{Message}
use Rattle.rb_site.specs.Events.{sent_at}
use Rattle.rb_site.specs.Histories.{IsAmong}
use Rattle.rb_site.specs.Seen.{IsReplayed, SeenSite, state_of}
use Rattle.rb_auditor.specs.declared.notes.Notes.{Notes}
use Rattle.rb_auditor.specs.declared.step.Step.{Step}
use Rattle.rb_auditor.specs.declared.step.Step.TheVariants.{Alone, Receives, Sends}
use Rattle.rb_auditor.specs.Findings.{IsReplay}
use Rattle.rb_auditor.specs.Progress.{site_after}
use Rattle.rb_auditor.specs.Replays.{seen_at}

-- the entries of a history
abbrev pub entries_noted : Notes → List Entry
entries_noted n = map (λ x. x.value) n.entries.items

-- the entries of each history
abbrev pub histories_in : List Notes → List (List Entry)
histories_in ns = map entries_noted ns

-- steps, and one more if there is one
abbrev pub one_step_more : List Step → Option Step → List Step
one_step_more steps None = steps
one_step_more steps (Some step) = steps ++ step ∷ []

-- messages, and more after them
pub record IsMore (ms all : List Message) : Type 0 where
  pub more : List Message
  pub is : all ≡ ms ++ more

-- the event is no receipt
abbrev pub IsNoReceipt : Event → Type 0
IsNoReceipt (Receive m) = ⊥
IsNoReceipt _ = Unit {0}

-- the place among these messages of the one that the event receives, or none if it is no receipt
abbrev pub IsPlaced : List Message → Event → Option ℕ → Type 0
IsPlaced ms e None = IsNoReceipt e
IsPlaced ms e (Some at) = (m : Message) × (e ≡ Receive m) × (slice_get ms at ≡ Some m)

-- a step says, by places among these messages, which message the event receives and which it sends
abbrev pub IsStep : List Message → Event → List Message → Step → Type 0
IsStep ms e sent Alone = IsNoReceipt e × (sent ≡ [])
IsStep ms e sent (Receives at) = ((m : Message) × (e ≡ Receive m) × (slice_get ms at ≡ Some m)) × (sent ≡ [])
IsStep ms e sent (Sends count at) = IsNoReceipt e × (at + count ≤ length ms) × (sent ≡ take count (drop at ms))

-- the site recorded the entry, whose step this is; or it doesn't record it
abbrev pub IsStepOf : SeenSite → SeenSite → Entry → List Message → Option Step → Type 0
IsStepOf old new x ms None = ¬ IsReplayed (seen_at old.settings old.me (old.entries ++ x ∷ []))
IsStepOf old new x ms (Some step) =
    (new ≡ record old { entries = old.entries ++ x ∷ [] }) × IsReplayed new
    × IsStep ms x.event (sent_at old.settings (state_of old) x.event) step

-- the steps of a history's first entries
abbrev pub HaveSteps : Settings → ℕ → List Entry → List Message → List Step → Type 0
HaveSteps s i h ms steps = (k : ℕ) (x : Entry) (step : Step) → slice_get h k ≡ Some x → slice_get steps k ≡ Some step
    → IsStep ms x.event (sent_at s (site_after s i (take k h)) x.event) step

-- there are steps for the entries of the history of the site i up to the first that the site doesn't record
pub record IsJudged (s : Settings) (i : ℕ) (n : Notes) (ms : List Message) : Type 0 where
  pub within : length n.steps.items ≤ length (entries_noted n)
  pub replays : IsReplay s i (take (length n.steps.items) (entries_noted n))
  pub wrong : length n.steps.items < length (entries_noted n) → ¬ IsReplay s i (take (length n.steps.items + 1) (entries_noted n))
  pub steps : HaveSteps s i (entries_noted n) ms n.steps.items

-- they are those of a site, which recorded the entries if it records all
pub record AreNotes (s : Settings) (i : ℕ) (x : SeenSite) (n : Notes) (ms : List Message) : Type 0 where
  pub settings : x.settings ≡ s
  pub me : x.me ≡ i
  pub entries : length n.steps.items ≡ length (entries_noted n) → x.entries ≡ entries_noted n
  pub judged : IsJudged s i n ms

-- there is a site, and what is kept of its history, for each site number
pub record AreAllNotes (s : Settings) (xs : List SeenSite) (ns : List Notes) (ms : List Message) : Type 0 where
  pub sites : length xs ≡ s.sites
  pub notes : length ns ≡ s.sites
  pub each : (i : ℕ) (x : SeenSite) (n : Notes) → slice_get xs i ≡ Some x → slice_get ns i ≡ Some n → AreNotes s i x n ms

-- what is kept of the history of each site
pub record AreJudged (s : Settings) (ns : List Notes) (ms : List Message) : Type 0 where
  pub notes : length ns ≡ s.sites
  pub each : (i : ℕ) (n : Notes) → slice_get ns i ≡ Some n → IsJudged s i n ms

-- what is kept of histories without entries
abbrev pub HaveNoEntries : List Notes → Type 0
HaveNoEntries ns = (i : ℕ) (n : Notes) → slice_get ns i ≡ Some n → (n.entries.items ≡ []) × (n.steps.items ≡ [])

-- each site records all its entries
abbrev pub AreWhole : List Notes → Type 0
AreWhole ns = (i : ℕ) (n : Notes) → slice_get ns i ≡ Some n → length n.steps.items ≡ length (entries_noted n)

-- the places that a step speaks of are among these messages
abbrev pub HasPlaces : List Message → Step → Type 0
HasPlaces ms Alone = Unit {0}
HasPlaces ms (Receives at) = at < length ms
HasPlaces ms (Sends count at) = at + count ≤ length ms

-- what a step sends, or none if it is the receipt of a message that isn't among those sent
abbrev pub IsTakenAs : List Message → List Message → Step → Option (List Message) → Type 0
IsTakenAs sent ms Alone posted = posted ≡ Some []
IsTakenAs sent ms (Receives at) None = (m : Message) × (slice_get ms at ≡ Some m) × ¬ IsAmong m sent
IsTakenAs sent ms (Receives at) (Some posted) = (m : Message) × (slice_get ms at ≡ Some m) × IsAmong m sent × (posted ≡ [])
IsTakenAs sent ms (Sends count at) posted = posted ≡ Some (take count (drop at ms))
