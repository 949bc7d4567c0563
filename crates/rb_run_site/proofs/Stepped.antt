-- The turns of a site, as steps of a site with a disk.
use Rattle.std.proofs.Common.{◌≡◌, ◌≤◌, ◌<◌, ◌+◌, ℕ, Bool, true, false, cond, List, [], ◌∷◌, ◌++◌, length, take, refl}
use Rattle.std.proofs.Common.{sym, ap, subst, ◌∙◌, arith}
use Rattle.std.proofs.Common.{append_assoc, append-nil, length-append, inl, inr}
use Rattle.std.specs.Prelude.{◌⊎◌, map, nat_le}
use Rattle.std.specs.List.{concat}
use Rattle.std.proofs.Math.Seq.{take-length}
use Rattle.std.proofs.lemmas.Bool.Decides.{nat_tests}
use Rattle.std.proofs.lemmas.List.{length-map, map-append}
use Rattle.rb_money.specs.Settings.{Settings}
use Rattle.rb_shadow.specs.declared.op_name.OpName.{OpName}
use Rattle.rb_site.specs.declared.entry.Entry.{Entry}
use Rattle.rb_site.specs.declared.event.Event.{Event}
use Rattle.rb_site.specs.declared.event.Event.TheVariants.{Apply, Receive}
use Rattle.rb_site.specs.Events.{first_site, is_full, reply_to}
use Rattle.rb_site.specs.Histories.{events_of, with_replies}
use Rattle.rb_site.specs.Seen.{IsReplayed, SeenSite, entry, next_site, next_sites, state_of, stepped}
use Rattle.rb_site.proofs.Public.Seen.{entries_replayed, history-state, replayed-stepped, settings-next}
use Rattle.rb_world.specs.Crashes.{DiskSite, DiskStep, MayAllHappen, MayHappenAlone, Reports, Syncs, after_step, after_steps, with_event}
use Rattle.rb_world.proofs.Public.{after_both, both_may}
use Rattle.rb_journal.specs.Lines.{recovered}
use Rattle.rb_journal.specs.Turns.{AreTurns, Turn, lines_added, state_after}
use Rattle.std.proofs.Common.{Some, None}
use Rattle.std.specs.Str.{is_utf8}
use Rattle.rb_history.specs.declared.question.Question.{Question}
use Rattle.rb_history.specs.Ids.{AskedEntry}
use Rattle.rb_history.specs.Banks.{event_to, is_of_other, question_to}
use Rattle.rb_history.proofs.Public.Banks.{question_none_to, nothing_asked}
use Rattle.rb_node.specs.Answers.{IsSiteAnswer, asked_event_on, is_kept, other_bank_on}
use Rattle.rb_node.specs.Asked.{SeenAsked, entries_alone, without_ids}
use Rattle.rb_node.specs.LineAnswers.{question_on}
use Rattle.rb_lines.specs.Lines.{is_long}
use Rattle.rb_run_site.specs.Journals.{AnswersEither, IsAnswer, SiteAnswers, journal_of}
use Rattle.rb_run_site.specs.Runs.{Found, IsSiteRun, SiteRun}
use Rattle.rb_run_site.specs.Steps.{AreEventsOf, AreSteps, AreStepsOf, IsRunOfSteps, IsJournalOnDisk, IsTurnInSteps, restarted, step_of}
use Rattle.rb_run_site.proofs.Turned.{me_kept, settings_kept}

-- the events of a site, with these numbers of those on the disk and of those reported
abbrev disk_of : SeenSite → ℕ → ℕ → DiskSite
disk_of x on_disk reported = record { events = events_of x.entries; on_disk = on_disk; reported = reported }

-- ---- one event

-- an event and its step record the same
records : (s : Settings) (d : DiskSite) (e : Event) → after_step s d (step_of e) ≡ with_event s d e
records s d (Receive m) = refl
records s d _ = refl

-- messages come by deliveries, and else the event is the site's own
alone : (d : DiskSite) (e : Event) → MayHappenAlone d (step_of e)
alone d (Receive m) = tt
alone d _ = tt

-- the history is full if its length says so
fullness : (x : SeenSite) → IsReplayed x → nat_le x.settings.limits.history (length (events_of x.entries)) ≡ is_full x.settings (state_of x)
fullness x is = ap (λ h. nat_le x.settings.limits.history (length h)) (sym (history-state x is))

one_event : (s : Settings) (x : SeenSite) (e : Event) (k r : ℕ) → s ≡ x.settings → IsReplayed x
    → after_step s (disk_of x k r) (step_of e) ≡ disk_of (next_site x e) k r
one_event s x e k r same is =
    records s (disk_of x k r) e
    ∙ ap (λ t. with_event t (disk_of x k r) e) same
    ∙ ap (λ b. cond b (disk_of x k r) more) (fullness x is)
    ∙ by (is_full x.settings (state_of x))
  where
    more : DiskSite
    more = record { events = events_of x.entries ++ e ∷ []; on_disk = k; reported = r }

    grown : events_of (stepped x e).entries ≡ events_of x.entries ++ e ∷ []
    grown = map-append (λ (y : Entry). y.event) x.entries (entry e (reply_to x.settings (state_of x) e) ∷ [])

    by : (b : Bool) → cond b (disk_of x k r) more ≡ disk_of (cond b x (stepped x e)) k r
    by true = refl
    by false = ap (λ es. record { events = es; on_disk = k; reported = r }) (sym grown)

-- a history that replays does so with an event more
replayed_next : (x : SeenSite) (e : Event) → IsReplayed x → IsReplayed (next_site x e)
replayed_next x e is = by (is_full x.settings (state_of x)) refl
  where
    by : (b : Bool) → is_full x.settings (state_of x) ≡ b → IsReplayed (cond b x (stepped x e))
    by true full = is
    by false free =
        let test : nat_le x.settings.limits.history (length (events_of x.entries)) ≡ false = fullness x is ∙ free in
        let same : length (events_of x.entries) ≡ length x.entries = length-map x.entries (λ (y : Entry). y.event) in
        let spare : length (events_of x.entries) < x.settings.limits.history = grind (arith, nat_tests) in
        replayed-stepped x e (omega arith) is

-- and so it does with a list of events more
pub all_replayed : (x : SeenSite) (es : List Event) → IsReplayed x → IsReplayed (next_sites x es)
all_replayed x [] is = is
all_replayed x (e ∷ es) is = all_replayed (next_site x e) es (replayed_next x e is)

-- no event takes an entry away
longer_next : (x : SeenSite) (e : Event) → length x.entries ≤ length (next_site x e).entries
longer_next x e = by (is_full x.settings (state_of x))
  where
    by : (b : Bool) → length x.entries ≤ length (cond b x (stepped x e)).entries
    by true = omega arith
    by false = let more : length (x.entries ++ entry e (reply_to x.settings (state_of x) e) ∷ []) ≡ length x.entries + 1 =
        length-append x.entries _ in omega arith

longer : (x : SeenSite) (es : List Event) → length x.entries ≤ length (next_sites x es).entries
longer x [] = omega arith
longer x (e ∷ es) =
    let one : length x.entries ≤ length (next_site x e).entries = longer_next x e in
    let rest : length (next_site x e).entries ≤ length (next_sites (next_site x e) es).entries = longer (next_site x e) es in
    omega arith

-- ---- some events

-- the steps of these events lead to the site after them, and may happen
record Records (s : Settings) (x : SeenSite) (es : List Event) (k r : ℕ) : Type 0 where
  after : after_steps s (disk_of x k r) (map step_of es) ≡ disk_of (next_sites x es) k r
  may : MayAllHappen s (disk_of x k r) (map step_of es)

events_recorded : (s : Settings) (x : SeenSite) (es : List Event) (k r : ℕ) → s ≡ x.settings → IsReplayed x → Records s x es k r
events_recorded s x [] k r same is = record { after = refl; may = tt }
events_recorded s x (e ∷ es) k r same is =
    let one = one_event s x e k r same is in
    let rest : Records s (next_site x e) es k r =
    events_recorded s (next_site x e) es k r (same ∙ sym (settings-next x e)) (replayed_next x e is) in
    record {
      after = ap (λ d. after_steps s d (map step_of es)) one ∙ rest.after;
      may = (alone (disk_of x k r) e, subst (λ d. MayAllHappen s d (map step_of es)) (sym one) rest.may);
    }

-- ---- one turn

-- the events that a turn recorded lead to the site after it
record HasEvents (x : SeenAsked) (t : Turn SeenAsked) : Type 0 where
  events : List Event
  on_line : AreEventsOf x.settings x.bank t.line events
  after : without_ids t.after ≡ next_sites (without_ids x) events
  bank : t.after.bank ≡ x.bank

-- a question is no event
pub no_event : (s : Settings) (bank l : List ℕ) (q : Question) → question_on bank l ≡ Some q → asked_event_on s bank l ≡ None
unfolding question_on asked_event_on
no_event s bank l q asked = at (is_utf8 l) asked
  where
    at : (b : Bool) → cond b (question_to bank l) None ≡ Some q → cond b (event_to s bank l) None ≡ None
    at true asked = question_none_to s bank l q asked
    at false asked = refl

-- nor is a line of another bank
pub other_no_event : (s : Settings) (bank l : List ℕ) → other_bank_on s bank l ≡ true → asked_event_on s bank l ≡ None
unfolding other_bank_on asked_event_on
other_no_event s bank l other = at (is_utf8 l) other
  where
    at : (b : Bool) → cond b (is_of_other s bank l) false ≡ true → cond b (event_to s bank l) None ≡ None
    at true other = (nothing_asked s bank l other).0
    at false other = refl

-- a site after two lists of events
sites_both : (x : SeenSite) (es fs : List Event) → next_sites x (es ++ fs) ≡ next_sites (next_sites x es) fs
sites_both x [] fs = refl
sites_both x (e ∷ es) fs = sites_both (next_site x e) es fs

-- the event, or nothing, and then applications
kept_or_not : (b : Bool) (e : Event) (names : List OpName)
    → (cond b (e ∷ []) [] ++ map Apply names ≡ e ∷ map Apply names) ⊎ (cond b (e ∷ []) [] ++ map Apply names ≡ map Apply names)
kept_or_not true e names = inl refl
kept_or_not false e names = inr refl

-- the events of an answer to an event
events_kept : (all : Bool) (x : SeenAsked) (t : Turn SeenAsked) (entries : List ℕ)
    → IsSiteAnswer all x t.after t.line t.text entries
    → HasEvents x t
events_kept all x t entries own =
    let keep : Bool = is_kept all (without_ids x) own.asked.event in
    let e : Event = own.asked.event in
    let es : List Event = cond keep (e ∷ []) [] in
    let names : List Event = map Apply own.applied in
    record {
      events = es ++ names;
      on_line = inl (own.asked, own.applied, own.is_event, kept_or_not keep e own.applied);
      after = own.after ∙ ap (λ m. next_sites m names) own.mid_is ∙ sym (sites_both (without_ids x) es names);
      bank = ap (λ (y : SeenAsked). y.bank) own.recorded_are;
    }

events_in : (x : SeenAsked) (t : Turn SeenAsked) → AnswersEither x t.number t.line t.added t.text t.after
    → HasEvents x t
events_in x t (all, a) = by (is_long t.line) refl a.answered
  where
    same : t.after ≡ x → AreEventsOf x.settings x.bank t.line [] → HasEvents x t
    same is on =
        record { events = []; on_line = on; after = ap without_ids is; bank = ap (λ (y : SeenAsked). y.bank) is }

    by : (b : Bool) → is_long t.line ≡ b → IsAnswer all b x t.number t.line t.added t.text t.after → HasEvents x t
    by true long bad = same bad.same (inr (refl, inr long))
    by false short (inl (inl own)) = events_kept all x t (concat t.added) own
    by false short (inl (inr (inl known))) = same known.after (inl (known.asked, [], known.is_event, inr refl))
    by false short (inl (inr (inr (inl asked)))) =
        same asked.after (inr (refl, inl (no_event x.settings x.bank t.line asked.question asked.is_question)))
    by false short (inl (inr (inr (inr o)))) =
        same o.after (inr (refl, inl (other_no_event x.settings x.bank t.line o.is_other)))
    by false short (inr bad) = same bad.3.same (inr (refl, inl bad.0))

-- the steps of a turn lead from a site that restarts to one that does
pub record TakesTurn (s : Settings) (x : SeenAsked) (t : Turn SeenAsked) : Type 0 where
  pub steps : List DiskStep
  pub theirs : IsTurnInSteps x t steps
  pub after : after_steps s (restarted x) steps ≡ restarted t.after
  pub may : MayAllHappen s (restarted x) steps
  pub replayed : IsReplayed (without_ids t.after)
  pub settings : t.after.settings ≡ x.settings
  pub me : t.after.me ≡ x.me
  pub bank : t.after.bank ≡ x.bank

-- a turn is steps
pub turn_taken : (s : Settings) (x : SeenAsked) (t : Turn SeenAsked) → s ≡ x.settings → IsReplayed (without_ids x)
    → AnswersEither x t.number t.line t.added t.text t.after → TakesTurn s x t
turn_taken s x t same is a = record {
  steps = map step_of es ++ (Syncs m ∷ Reports m ∷ []);
  theirs = record { events = es; on_line = (events_in x t a).on_line; after = next; steps_are = refl };
  after = after_both s (restarted x) (map step_of es) (Syncs m ∷ Reports m ∷ [])
      ∙ ap (λ d. after_steps s d (Syncs m ∷ Reports m ∷ [])) recorded;
  may = both_may s (restarted x) (map step_of es) (Syncs m ∷ Reports m ∷ []) some.may
      (subst (λ d. MayAllHappen s d (Syncs m ∷ Reports m ∷ [])) (sym recorded)
      ((grown, here), ((grown, omega arith), tt)));
  replayed = subst IsReplayed (sym next) (all_replayed (without_ids x) es is);
  settings = ap (λ (y : SeenSite). y.settings) next ∙ settings_kept (without_ids x) es;
  me = ap (λ (y : SeenSite). y.me) next ∙ me_kept (without_ids x) es;
  bank = (events_in x t a).bank;
}
  where
    es : List Event
    es = (events_in x t a).events

    n : ℕ
    n = length x.asked

    m : ℕ
    m = length t.after.asked

    next : without_ids t.after ≡ next_sites (without_ids x) es
    next = (events_in x t a).after

    some : Records s (without_ids x) es n n
    some = events_recorded s (without_ids x) es n n same is

    recorded : after_steps s (restarted x) (map step_of es) ≡ disk_of (without_ids t.after) n n
    recorded = some.after ∙ ap (λ y. disk_of y n n) (sym next)

    many : (y : SeenAsked) → length (entries_alone y.asked) ≡ length y.asked
    many y = length-map y.asked (λ (a : AskedEntry). a.entry)

    grown : n ≤ m
    grown =
        let more : length (entries_alone x.asked) ≤ length (entries_alone t.after.asked) =
        subst (λ (y : SeenSite). length (entries_alone x.asked) ≤ length y.entries) (sym next) (longer (without_ids x) es) in
        omega (arith, more, many x, many t.after)

    here : m ≤ length (events_of (entries_alone t.after.asked))
    here =
        let all : length (events_of (entries_alone t.after.asked)) ≡ length (entries_alone t.after.asked) =
        length-map (entries_alone t.after.asked) (λ (y : Entry). y.event) in
        omega (arith, all, many t.after)

-- ---- all turns

-- the steps of turns lead from a site that restarts to one that does, and the turns' lines are added to its journal
pub record TakesTurns (s : Settings) (x : SeenAsked) (turns : List (Turn SeenAsked)) : Type 0 where
  pub steps : List DiskStep
  pub theirs : AreStepsOf x turns steps
  pub after : after_steps s (restarted x) steps ≡ restarted (state_after x turns)
  pub may : MayAllHappen s (restarted x) steps
  pub replayed : IsReplayed (without_ids (state_after x turns))
  pub settings : (state_after x turns).settings ≡ x.settings
  pub me : (state_after x turns).me ≡ x.me
  pub bank : (state_after x turns).bank ≡ x.bank
  pub journal : journal_of (state_after x turns) ≡ journal_of x ++ lines_added turns

-- turns are steps
pub turns_taken : (s : Settings) (x : SeenAsked) (turns : List (Turn SeenAsked)) → s ≡ x.settings
    → IsReplayed (without_ids x)
    → AreTurns AnswersEither x turns → TakesTurns s x turns
turns_taken s x [] same is are = record {
  steps = [];
  theirs = refl;
  after = refl;
  may = tt;
  replayed = is;
  settings = refl;
  me = refl;
  bank = refl;
  journal = sym (append-nil (journal_of x));
}
turns_taken s x (t ∷ turns) same is are =
    let one : TakesTurn s x t = turn_taken s x t same is are.0 in
    let rest : TakesTurns s t.after turns = turns_taken s t.after turns (same ∙ sym one.settings) one.replayed are.1 in
    record {
      steps = one.steps ++ rest.steps;
      theirs = (one.steps, rest.steps, refl, one.theirs, rest.theirs);
      after = after_both s (restarted x) one.steps rest.steps ∙ ap (λ d. after_steps s d rest.steps) one.after ∙ rest.after;
      may = both_may s (restarted x) one.steps rest.steps one.may
          (subst (λ d. MayAllHappen s d rest.steps) (sym one.after) rest.may);
      replayed = rest.replayed;
      settings = rest.settings ∙ one.settings;
      me = rest.me ∙ one.me;
      bank = rest.bank ∙ one.bank;
      journal = rest.journal ∙ ap (λ ls. ls ++ lines_added turns) are.0.1.after
          ∙ append_assoc (journal_of x) t.added (lines_added turns);
    }

-- the turns of one run are turns by one choice or the other
pub by_either : (all : Bool) (x : SeenAsked) (turns : List (Turn SeenAsked)) → AreTurns (SiteAnswers all) x turns
    → AreTurns AnswersEither x turns
by_either all x [] are = tt
by_either all x (t ∷ turns) are = ((all, are.0), by_either all t.after turns are.1)

-- the journal of a site is one of all of its events, which are on its disk
on_disk : (s : Settings) (me : ℕ) (x : SeenAsked) (lines : List (List ℕ)) → x.settings ≡ s → x.me ≡ me
    → IsReplayed (without_ids x)
    → lines ≡ journal_of x → IsJournalOnDisk s me (restarted x) lines
on_disk s me x lines f g is same = record {
  asked = x.asked;
  entries_are = sym (ap (λ t. with_replies t (first_site me) (take (length x.asked) (events_of ys))) (sym f)
      ∙ ap (λ i. with_replies x.settings (first_site i) (take (length x.asked) (events_of ys))) (sym g)
      ∙ ap (with_replies x.settings (first_site x.me)) whole ∙ entries_replayed x.settings (first_site x.me) ys is.replays);
  lines_are = same ∙ ap (λ t. journal_of (record { settings = t; me = x.me; bank = []; asked = x.asked })) f
      ∙ ap (λ i. journal_of (record { settings = s; me = i; bank = []; asked = x.asked })) g;
}
  where
    ys : List Entry
    ys = entries_alone x.asked

    whole : take (length x.asked) (events_of ys) ≡ events_of ys
    whole = ap (λ n. take n (events_of ys))
        (sym (length-map ys (λ (y : Entry). y.event) ∙ length-map x.asked (λ (a : AskedEntry). a.entry))) ∙ take-length (events_of ys)

-- the turns of a site over its journal are steps
pub are_steps : (x : SeenAsked) (turns : List (Turn SeenAsked)) (file : List ℕ) → IsReplayed (without_ids x)
    → AreTurns AnswersEither x turns
    → recovered file ≡ journal_of x ++ lines_added turns → AreSteps x turns file
are_steps x turns file is are lines =
    let all : TakesTurns x.settings x turns = turns_taken x.settings x turns refl is are in
    let last : SeenAsked = state_after x turns in
    record {
      steps = all.steps;
      are_theirs = all.theirs;
      may = all.may;
      last = restarted last;
      last_is = sym all.after;
      lines_are = on_disk x.settings x.me last (recovered file) all.settings all.me all.replayed (lines ∙ sym all.journal);
      reported = sym (length-map (entries_alone last.asked) (λ (y : Entry). y.event)
          ∙ length-map last.asked (λ (a : AskedEntry). a.entry));
    }

-- what has run is steps
pub stepped_run : (run : SiteRun) (old : Found) (c d : List ℕ) → IsSiteRun run old c d → IsRunOfSteps run old c d
stepped_run run old c d (inl at) = inl at
stepped_run run old c d (inr has) = inr (
  has,
  are_steps has.start has.answered.turns c has.starts.replayed (by_either run.all has.start has.answered.turns has.answered.are)
      has.answered.lines_are,
)
