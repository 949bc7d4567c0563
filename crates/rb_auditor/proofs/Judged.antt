-- Histories of which it is known what each entry does with messages.
use Rattle.std.proofs.Common.{◌≡◌, ℕ, ◌+◌, ◌-◌, ◌<◌, ◌≤◌, List, [], length, take, get_or, refl}
use Rattle.std.proofs.Common.{ap, sym, subst, ◌∙◌, inl, inr}
use Rattle.std.proofs.Common.{arith, drop, Some, None}
use Rattle.std.specs.Prelude.{slice_get}
use Rattle.std.proofs.lemmas.List.{length-map, length-take-le, take_all}
use Rattle.std.proofs.lemmas.Option.{slice_get-get_or, slice_get_read, slice_get_within}
use Rattle.rb_money.specs.declared.limits.TheConstants.{MOST_HISTORY}
use Rattle.rb_money.specs.Settings.{IsConfigured, Settings}
use Rattle.rb_site.specs.declared.entry.Entry.{Entry}
use Rattle.rb_site.specs.declared.event.Event.{Event}
use Rattle.rb_site.specs.declared.event.Event.TheVariants.{Receive}
use Rattle.rb_site.specs.declared.message.Message.{Message}
use Rattle.rb_site.specs.Events.{sent_at}
use Rattle.rb_site.specs.Histories.{IsFrom}
use Rattle.rb_site.proofs.Public.Lists.{map_at, map_back}
use Rattle.rb_site.proofs.Public.Places.{same_number}
use Rattle.rb_auditor.specs.declared.notes.Notes.{Notes}
use Rattle.rb_auditor.specs.declared.step.Step.{Step}
use Rattle.rb_auditor.specs.declared.step.Step.TheVariants.{Alone, Receives, Sends}
use Rattle.rb_auditor.specs.Findings.{IsFirstWrong, IsReplay}
use Rattle.rb_auditor.specs.Kept.{AreJudged, HaveSteps, AreWhole, IsJudged, IsTakenAs, IsNoReceipt, IsStep}
use Rattle.rb_auditor.specs.Kept.{HasPlaces, entries_noted, histories_in}
use Rattle.rb_auditor.specs.Progress.{IsTaking, Progress, Rests, first_progress, site_after}
use Rattle.rb_auditor.specs.Walks.{AreReplays}
use Rattle.rb_auditor.proofs.Lists
use Rattle.rb_auditor.proofs.Resting
use Rattle.rb_auditor.proofs.Takings

-- ---- whole histories

-- if each entry has a step, the site records all
pub replays : (s : Settings) (i : ℕ) (n : Notes) (ms : List Message) → IsJudged s i n ms → length n.steps.items ≡ length (entries_noted n)
    → IsReplay s i (entries_noted n)
replays s i n ms j whole = subst (IsReplay s i) (take_all (length n.steps.items) (entries_noted n) (omega arith)) j.replays

-- if that is so of each history, all replay
pub all_replay : {s : Settings} {ns : List Notes} {ms : List Message} → AreJudged s ns ms → AreWhole ns
    → AreReplays s (histories_in ns)
all_replay {s} {ns} {ms} all whole i h at =
    let (n, there, is) = map_back entries_noted ns i h at in rw is (replays s i n ms (all.each i n there) (whole i n there))

-- and before any entry is taken all is as a world could have it
pub first_taken : {s : Settings} {ns : List Notes} {ms : List Message} → AreJudged s ns ms → AreWhole ns
    → IsTaking (first_progress s (histories_in ns))
first_taken {s} {ns} all whole =
    Takings.first_taken s (histories_in ns) (length-map ns entries_noted ∙ all.notes) (all_replay all whole)

-- ---- the first entry that isn't recorded

-- the entries of the histories below n all have a step
abbrev pub WholeBelow : List Notes → ℕ → Type 0
WholeBelow ns n = (i : ℕ) (m : Notes) → i < n → slice_get ns i ≡ Some m → length m.steps.items ≡ length (entries_noted m)

-- one history more
pub whole_more : (ns : List Notes) (k : ℕ) (n : Notes) → WholeBelow ns k → slice_get ns k ≡ Some n
    → length n.steps.items ≡ length (entries_noted n) → WholeBelow ns (k + 1)
whole_more ns k n old at whole i m less there = elim (same_number k i) [
  | inl e ↦ (let same : m ≡ n = cc (at, e, there) in rw same whole)
  | inr ne ↦ old i m (let q : i < k + 1 = less in omega (arith, ne)) there
]

-- if an entry has no step, and all have one below, it is the first that its site doesn't record
pub wrong_found : (s : Settings) (ns : List Notes) (ms : List Message) (k : ℕ) (n : Notes) → AreJudged s ns ms → WholeBelow ns k
    → slice_get ns k ≡ Some n → ¬ (length n.steps.items ≡ length (entries_noted n))
    → IsFirstWrong s (histories_in ns) k (length n.steps.items + 1)
wrong_found s ns ms k n all below at not =
    let judged = all.each k n at in
    let back : length n.steps.items + 1 - 1 ≡ length n.steps.items = omega arith in
    record {
      below = λ i h less there. (let (m, here, is) = map_back entries_noted ns i h there in
          rw is (replays s i m ms (all.each i m here) (below i m less here)));
      history = entries_noted n;
      there = map_at entries_noted ns k n at;
      before = rw back judged.replays;
      wrong = judged.wrong (omega (arith, not, judged.within));
    }

-- there are no more steps than a history may have entries
pub steps_few : (s : Settings) (i : ℕ) (n : Notes) (ms : List Message) → IsConfigured s → IsJudged s i n ms
    → length n.steps.items ≤ MOST_HISTORY
steps_few s i n ms c j = omega (arith, length-take-le (length n.steps.items) (entries_noted n) j.within, j.replays.room)

-- ---- the next entry, as the code reads it

-- what the code reads of a site: how many entries were taken, and the notes of the history
pub record IsReadAt (p : Progress) (ms : List Message) (i t : ℕ) (n : Notes) : Type 0 where
  pub there : slice_get p.histories i ≡ Some (entries_noted n)
  pub at : slice_get p.taken i ≡ Some t
  pub steps : HaveSteps p.settings i (entries_noted n) ms n.steps.items
  pub whole : length n.steps.items ≡ length (entries_noted n)

-- what is read at a place of the notes
pub read : {p : Progress} {ns : List Notes} {ms : List Message} {i t : ℕ} {n : Notes} → p.histories ≡ histories_in ns
    → IsTaking p → AreJudged p.settings ns ms → AreWhole ns → i < length ns → t ≡ get_or p.taken i t → n ≡ get_or ns i n
    → IsReadAt p ms i t n
read {p} {ns} {ms} {i} {t} {n} is v all whole less e f =
    let here = slice_get_read ns (length ns) i n refl less f in
    let within : i < length p.taken = omega (arith, ap length is, length-map ns entries_noted) in
    record {
      there = cc (map_at entries_noted ns i n here);
      at = slice_get_read p.taken (length p.taken) i t refl within e;
      steps = (all.each i n here).steps;
      whole = whole i n here;
    }

-- a place of the histories that a client sees is one of the notes
pub has_notes : {p q : Progress} (ns : List Notes) {i : ℕ} → p ≡ q → p.histories ≡ histories_in ns
    → i < length q.histories → i < length ns
has_notes ns same is less =
    omega (arith, ap (λ (r : Progress). length r.histories) same, ap length is, length-map ns entries_noted)

-- and there it is known how many entries were taken
pub has_taken : {p : Progress} (ns : List Notes) {i len : ℕ} → IsTaking p → p.histories ≡ histories_in ns
    → len ≡ length p.taken → i < length ns → i < len
has_taken ns v is e less = omega (arith, ap length is, length-map ns entries_noted)

-- a site rests whose entries were all taken
pub rests_past : {p : Progress} {ms : List Message} {i t : ℕ} {n : Notes} → IsReadAt p ms i t n
    → length n.steps.items ≤ t → Rests p i
rests_past {p} {ms} {i} {t} {n} r past = Resting.rests_past p i t (entries_noted n) r.there r.at (omega arith)

-- the next entry and its step
pub record IsNextStep (p : Progress) (ms : List Message) (i t : ℕ) (n : Notes) (step : Step) : Type 0 where
  pub entry : Entry
  pub next : slice_get (entries_noted n) t ≡ Some entry
  pub says : IsStep ms entry.event (sent_at p.settings (site_after p.settings i (take t (entries_noted n))) entry.event) step

-- each step has an entry
pub next_step : {p : Progress} {ms : List Message} {i t : ℕ} {n : Notes} {step : Step} → IsReadAt p ms i t n
    → slice_get n.steps.items t ≡ Some step → IsNextStep p ms i t n step
next_step {p} {ms} {i} {t} {n} {step} r at =
    let x = Lists.item_at (entries_noted n) t (omega (arith, slice_get_within n.steps.items t step at)) in
    record { entry = x.0; next = x.1; says = r.steps t x.0 step x.1 at }

-- the places of a step are among the messages
pub step_within : (ms : List Message) (e : Event) (sent : List Message) (step : Step) → IsStep ms e sent step → HasPlaces ms step
step_within ms e sent Alone h = tt
step_within ms e sent (Receives at) ((m, is, there), none) = slice_get_within ms at m there
step_within ms e sent (Sends count at) (own, fits, is) = fits

-- an event that is no receipt may always come
own_comes : (before : List Message) (e : Event) → IsNoReceipt e → IsFrom before e
own_comes before (Receive m) h = absurd h
own_comes before _ h = tt

-- if the step says nothing that is sent, the entry can't come
pub held : (before ms : List Message) (e : Event) (sent : List Message) (step : Step) → IsStep ms e sent step
    → IsTakenAs before ms step None
    → ¬ IsFrom before e
held before ms e sent Alone h k come = cc
held before ms e sent (Receives at) ((m, is, there), none) (n, here, not) come =
    let same : m ≡ n = cc (there, here) in not (rw (is, same) at come)
held before ms e sent (Sends count at) h k come = cc

-- if it says what is sent, the entry may come, and sends that
pub comes : (before ms : List Message) (e : Event) (sent : List Message) (step : Step) (posted : List Message) → IsStep ms e sent step
    → IsTakenAs before ms step (Some posted) → IsFrom before e × (posted ≡ sent)
comes before ms e sent Alone posted (own, none) k = (own_comes before e own, (let q : posted ≡ [] = cc in q) ∙ sym none)
comes before ms e sent (Receives at) posted ((m, is, there), none) (n, here, among, nothing) = (
  (let same : m ≡ n = cc (there, here) in rw (is, same) among),
  nothing ∙ sym none,
)
comes before ms e sent (Sends count at) posted (own, fits, is) k = (own_comes before e own, same ∙ sym is)
  where
    same : posted ≡ take count (drop at ms)
    same = cc

-- ---- how many entries of each history were taken

-- the histories below n are taken whole
abbrev pub DoneBelow : Progress → ℕ → Type 0
DoneBelow p n =
    (i k : ℕ) (h : List Entry) → i < n → slice_get p.histories i ≡ Some h → slice_get p.taken i ≡ Some k → k ≡ length h

-- one history more is taken whole
pub done_more : (p : Progress) → IsTaking p → (j t : ℕ) (g : List Entry) → slice_get p.histories j ≡ Some g
    → slice_get p.taken j ≡ Some t → length g ≤ t → DoneBelow p j → DoneBelow p (j + 1)
done_more p v j t g there place past old i k h less at taken = elim (same_number j i) [
  | inl e ↦ (let is : t ≡ k = cc (place, taken) in
      let same : g ≡ h = cc (there, at) in
      omega (arith, ap length same, v.within i k h at taken))
  | inr ne ↦ old i k h (omega (arith, less, ne)) at taken
]

-- no more entries were taken than a history may have
pub taken_fits : (p : Progress) (ks : List ℕ) (i : ℕ) → IsTaking p → IsConfigured p.settings → ks ≡ p.taken
    → i < length ks → get_or ks i 0 ≤ MOST_HISTORY
taken_fits p ks i v c same less =
    let at : slice_get p.taken i ≡ Some (get_or ks i 0) = rw (← same) (slice_get-get_or ks i 0 less) in
    let (h, there) = Lists.item_at p.histories i (omega (arith, v.counts, ap length same)) in
    omega (arith, v.within i (get_or ks i 0) h there at, (v.replays i h there).room, c.history.1)
