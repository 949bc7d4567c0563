-- Notes of histories, as entries are read.
use Rattle.std.proofs.Common.{◌≡◌, ℕ, ◌+◌, ◌<◌, ◌≤◌, List, [], ◌∷◌, ◌++◌, length, take, refl, ap, sym, subst, ◌∙◌, inl, inr, arith}
use Rattle.std.proofs.Common.{Option, Some, None, length-append}
use Rattle.std.proofs.Common.{zero, suc, get_or, append_assoc, append-nil}
use Rattle.std.specs.Prelude.{slice_get, slice_set, map, replicate}
use Rattle.std.specs.List.{range_with_len}
use Rattle.std.proofs.lemmas.Option.{slice_get_read, slice_get_within, get_or_from_slice_get}
use Rattle.std.proofs.lemmas.List.FromFn.{length-map-range_with_len}
use Rattle.std.proofs.lemmas.List.{length-set, map-set, take-append-le, take_all, set-get_or}
use Rattle.rb_money.specs.Settings.{Settings}
use Rattle.rb_site.specs.declared.entry.Entry.{Entry}
use Rattle.rb_site.specs.declared.message.Message.{Message}
use Rattle.rb_site.specs.Events.{sent_at}
use Rattle.rb_site.specs.Seen.{IsReplayed, SeenSite, first_seen, state_of}
use Rattle.rb_site.proofs.Public.Lists.{map_at}
use Rattle.rb_site.proofs.Public.Places
use Rattle.rb_site.proofs.Public.Places.{same_number}
use Rattle.rb_auditor.specs.declared.notes.Notes.{Notes}
use Rattle.rb_auditor.specs.declared.step.Step.{Step}
use Rattle.rb_auditor.specs.Findings.{IsReplay}
use Rattle.rb_auditor.specs.Audits.{Audited, HasMore}
use Rattle.rb_auditor.specs.Kept.{HaveNoEntries, AreAllNotes, AreJudged, AreNotes, HaveSteps, IsJudged, IsMore, IsStep, IsStepOf}
use Rattle.rb_auditor.specs.Kept.{entries_noted, histories_in, one_step_more}
use Rattle.rb_auditor.specs.Replays.{seen_at}
use Rattle.rb_auditor.proofs.Lists
use Rattle.rb_auditor.proofs.Steps

-- ---- more messages

-- what is kept of a history stays with more messages after those that it speaks of
pub judged_more : (s : Settings) (i : ℕ) (n : Notes) (ms all : List Message) → IsMore ms all → IsJudged s i n ms → IsJudged s i n all
judged_more s i n ms all m j =
    let steps : HaveSteps s i (entries_noted n) all n.steps.items =
    rw m.is (Steps.steps_more s i (entries_noted n) ms m.more n.steps.items j.steps) in
    record { within = j.within; replays = j.replays; wrong = j.wrong; steps = steps }

-- the same with the site
pub notes_more : {s : Settings} {i : ℕ} {x : SeenSite} {n : Notes} {ms all : List Message} → IsMore ms all
    → AreNotes s i x n ms → AreNotes s i x n all
notes_more m a =
    record { settings = a.settings; me = a.me; entries = a.entries; judged = judged_more _ _ _ _ _ m a.judged }

-- the same messages are no fewer
pub no_more : (ms : List Message) → IsMore ms ms
no_more ms = record { more = []; is = sym (append-nil ms) }

-- messages after others that have more than these
pub more_still : {ms mid all : List Message} → IsMore ms mid → IsMore mid all → IsMore ms all
more_still {ms} m n =
    record { more = m.more ++ n.more; is = n.is ∙ ap (λ xs. xs ++ n.more) m.is ∙ append_assoc ms m.more n.more }

-- the entries and steps of one history
abbrev Judged : Settings → ℕ → List Entry → List Step → List Message → Type 0
Judged s i h steps ms =
    (length steps ≤ length h) × IsReplay s i (take (length steps) h)
    × (length steps < length h → ¬ IsReplay s i (take (length steps + 1) h)) × HaveSteps s i h ms steps

-- what is kept is as it was if the entries and the steps are
judged_as : (s : Settings) (i : ℕ) (n : Notes) (ms : List Message) (h : List Entry) (steps : List Step) → entries_noted n ≡ h
    → n.steps.items ≡ steps → Judged s i h steps ms → IsJudged s i n ms
judged_as s i n ms h steps e f j =
    let all : Judged s i (entries_noted n) n.steps.items ms = rw (e, f) j in
    record { within = all.0; replays = all.1; wrong = all.2; steps = all.3 }

-- if nothing is added, what is kept stays
pub unchanged : {s : Settings} {i : ℕ} {x later : SeenSite} {old new : Notes} {ms all : List Message} → IsMore ms all
    → later ≡ x → entries_noted new ≡ entries_noted old → new.steps.items ≡ old.steps.items → AreNotes s i x old ms
    → AreNotes s i later new all
unchanged {s} {i} {x} {later} {old} {new} {ms} {all} m same entries steps a =
    let b = judged_more s i old ms all m a.judged in
    let judged = judged_as s i new all _ _ entries steps (b.within, b.replays, b.wrong, b.steps) in
    record { settings = cc; me = cc; entries = rw (same, entries, steps) a.entries; judged = judged }

-- ---- one entry more

-- an entry comes that has no step: with it, the entries up to the first without one don't replay
without_step : (s : Settings) (i : ℕ) (later : SeenSite) (old new : Notes) (ms : List Message) (y : Entry) → later.settings ≡ s
    → later.me ≡ i → IsJudged s i old ms → ¬ IsReplay s i (take (length old.steps.items + 1) (entries_noted old ++ y ∷ []))
    → entries_noted new ≡ entries_noted old ++ y ∷ [] → new.steps.items ≡ old.steps.items → AreNotes s i later new ms
without_step s i later old new ms y settings me j wrong grown same =
    let h = entries_noted old in
    let size = length-append h (y ∷ []) in
    record {
      settings = settings;
      me = me;
      entries = λ e. absurd (omega (arith, ap length grown, ap length same, size));
      judged = judged_as s i new ms (h ++ y ∷ []) old.steps.items grown same (
        omega (arith, size),
        rw (take-append-le (length old.steps.items) h (y ∷ []) (omega arith)) j.replays,
        λ _. wrong,
        Steps.steps_longer s i h (y ∷ []) ms old.steps.items (omega arith) j.steps,
      );
    }

-- an entry comes after others, of which not all have a step
pub past_wrong : {s : Settings} {i : ℕ} {x : SeenSite} {old new : Notes} {ms : List Message} (y : Entry)
    → AreNotes s i x old ms → ¬ (length old.steps.items ≡ length (entries_noted old))
    → entries_noted new ≡ entries_noted old ++ y ∷ [] → new.steps.items ≡ old.steps.items → AreNotes s i x new ms
past_wrong {s} {i} {x} {old} {new} {ms} y a not grown same =
    let wrong = a.judged.wrong (omega (arith, not, a.judged.within)) in
    without_step s i x old new ms y a.settings a.me a.judged
    (rw (take-append-le (length old.steps.items + 1) (entries_noted old) (y ∷ []) (omega (arith, not, a.judged.within))) wrong) grown same

-- an entry that the site doesn't record is the first
first_wrong : (s : Settings) (i : ℕ) (x later : SeenSite) (old new : Notes) (ms : List Message) (y : Entry) → AreNotes s i x old ms
    → length old.steps.items ≡ length (entries_noted old) → ¬ IsReplayed (seen_at x.settings x.me (x.entries ++ y ∷ []))
    → later.settings ≡ x.settings → later.me ≡ x.me
    → entries_noted new ≡ entries_noted old ++ y ∷ [] → new.steps.items ≡ old.steps.items → AreNotes s i later new ms
first_wrong s i x later old new ms y a whole not e f grown same =
    let h = entries_noted old in
    let here : ¬ IsReplay s i (h ++ y ∷ []) = λ r. not (rw (a.settings, a.me, a.entries whole) r) in
    without_step s i later old new ms y (e ∙ a.settings) (f ∙ a.me) a.judged
    (rw (take_all (length old.steps.items + 1) (h ++ y ∷ []) (omega (arith, length-append h (y ∷ [])))) here) grown same

-- a site that records all its entries is the one after them
pub site_is : {s : Settings} {i : ℕ} {x : SeenSite} {n : Notes} {ms : List Message} → AreNotes s i x n ms
    → length n.steps.items ≡ length (entries_noted n) → x ≡ seen_at s i (entries_noted n)
site_is {s} {i} {x} a whole =
    ap (λ t. record x { settings = t }) a.settings ∙ ap (λ k. record x { settings = s; me = k }) a.me
    ∙ ap (seen_at s i) (a.entries whole)

-- the site records one entry more
one_recorded : (s : Settings) (i : ℕ) (x later : SeenSite) (old new : Notes) (ms : List Message) (y : Entry) (step : Step)
    → AreNotes s i x old ms → length old.steps.items ≡ length (entries_noted old) → later ≡ record x { entries = x.entries ++ y ∷ [] }
    → IsReplayed later → IsStep ms y.event (sent_at x.settings (state_of x) y.event) step
    → entries_noted new ≡ entries_noted old ++ y ∷ [] → new.steps.items ≡ old.steps.items ++ step ∷ [] → AreNotes s i later new ms
one_recorded s i x later old new ms y step a whole is replayed new_step grown more =
    let h = entries_noted old in
    let steps = old.steps.items in
    let size = length-append h (y ∷ []) in
    let count = length-append steps (step ∷ []) in
    let now : x ≡ seen_at s i h = site_is a whole in
    record {
      settings = cc;
      me = cc;
      entries = λ _. cc;
      judged = judged_as s i new ms (h ++ y ∷ []) (steps ++ step ∷ []) grown more (
        omega (arith, size, count),
        rw (take_all (length (steps ++ step ∷ [])) (h ++ y ∷ []) (omega (arith, size, count))) (rw (is, now) at replayed),
        λ less. absurd (omega (arith, size, count)),
        Steps.steps_next s i h ms steps y step whole a.judged.steps (rw now at new_step),
      );
    }

-- one entry more, by its step if the site records it
pub one_more : {s : Settings} {i : ℕ} {x later : SeenSite} {old new : Notes} {ms : List Message} (y : Entry)
    (o : Option Step) → AreNotes s i x old ms → length old.steps.items ≡ length (entries_noted old)
    → IsStepOf x later y ms o → later.settings ≡ x.settings → later.me ≡ x.me
    → entries_noted new ≡ entries_noted old ++ y ∷ [] → new.steps.items ≡ one_step_more old.steps.items o
    → AreNotes s i later new ms
one_more y None a whole h e f grown same = first_wrong _ _ _ _ _ _ _ y a whole h e f grown same
one_more y (Some step) a whole h e f grown more = one_recorded _ _ _ _ _ _ _ y step a whole h.0 h.1 h.2 grown more

-- a site that records all its entries is replayed
pub replayed_now : {x : SeenSite} {n : Notes} {ms : List Message} → AreNotes x.settings x.me x n ms
    → length n.steps.items ≡ length (entries_noted n) → IsReplayed x
replayed_now {x} {n} a whole =
    let r = a.judged.replays in
    rw (a.entries whole) (rw (take_all (length n.steps.items) (entries_noted n) (omega arith)) at r)

-- ---- all sites

-- the site and the notes that are read at a place belong together
pub at_place : {s : Settings} {xs : List SeenSite} {ns : List Notes} {ms : List Message} {i : ℕ} {x : SeenSite}
    {n : Notes} → AreAllNotes s xs ns ms → i < s.sites → x ≡ get_or xs i x → n ≡ get_or ns i n
    → AreNotes x.settings x.me x n ms
at_place {s} {xs} {ns} {ms} {i} {x} {n} all less e f =
    let a = all.each i x n (slice_get_read xs s.sites i x (sym all.sites) less e) (slice_get_read ns s.sites i n (sym all.notes) less f) in
    subst (λ t. AreNotes t x.me x n ms) (sym a.settings) (subst (λ k. AreNotes s k x n ms) (sym a.me) a)

-- the site and the notes at a place go on
pub set_place : {s : Settings} {xs : List SeenSite} {ns : List Notes} {ms later : List Message} {i : ℕ} {x y : SeenSite}
    {n m : Notes} → AreAllNotes s xs ns ms → IsMore ms later → i < s.sites → x ≡ get_or xs i x → n ≡ get_or ns i n
    → AreNotes x.settings x.me y m later → AreAllNotes s (slice_set xs i y) (slice_set ns i m) later
set_place {s} {xs} {ns} {ms} {later} {i} {x} {y} {n} {m} all more less e f new =
    let here = slice_get_read xs s.sites i x (sym all.sites) less e in
    let there = slice_get_read ns s.sites i n (sym all.notes) less f in
    let old = all.each i x n here there in
    let now : AreNotes s i y m later = rw (← old.settings, ← old.me) new in
    record {
      sites = length-set xs i y ∙ all.sites;
      notes = length-set ns i m ∙ all.notes;
      each = λ j u w at is. Lists.each_set xs i x y (λ j u. slice_get (slice_set ns i m) j ≡ Some w → AreNotes s j u w later) here
          (λ is. (let same : w ≡ m = cc (Places.get_set_same ns i n m there, is) in rw same now))
          (λ j u ne at is. notes_more more (all.each j u w at (cc (Places.get_set_other ns i j m ne, is)))) j u at is;
    }

-- to set what is there changes nothing
pub set_same : {A : Type 0} (xs : List A) (i : ℕ) (x : A) → slice_get xs i ≡ Some x → slice_set xs i x ≡ xs
set_same xs i x h = cc (set-get_or xs i x, get_or_from_slice_get xs i x x h)

-- the histories go on if the notes at a place do
pub histories_set : (ns : List Notes) (i : ℕ) (m : Notes) (h : List Entry) → entries_noted m ≡ h
    → histories_in (slice_set ns i m) ≡ slice_set (histories_in ns) i h
histories_set ns i m h e = cc (map-set entries_noted ns i m)

-- what a client sees with more entries at a place
pub has_more : {old : Audited} {s : Settings} (ns : List Notes) {i : ℕ} {n : Notes} (m : Notes) {xs : List Entry}
    → record { settings = s; histories = histories_in ns } ≡ old → length ns ≡ s.sites → i < s.sites → n ≡ get_or ns i n
    → entries_noted m ≡ entries_noted n ++ xs → HasMore old (record { settings = s; histories = histories_in (slice_set ns i m) }) i xs
has_more {old} {s} ns {i} {n} m {xs} seen count less f grown = rw (← seen) (record {
  history = entries_noted n;
  there = map_at entries_noted ns i n (slice_get_read ns s.sites i n (sym count) less f);
  is = cc (histories_set ns i m (entries_noted n ++ xs) grown);
})

-- a client sees nothing if no entry is added
pub has_same : {old : Audited} {s : Settings} (ns : List Notes) {i : ℕ} {n : Notes} (m : Notes)
    → record { settings = s; histories = histories_in ns } ≡ old → length ns ≡ s.sites → i < s.sites → n ≡ get_or ns i n
    → entries_noted m ≡ entries_noted n → record { settings = s; histories = histories_in (slice_set ns i m) } ≡ old
has_same {old} {s} ns {i} {n} m seen count less f same =
    let here = map_at entries_noted ns i n (slice_get_read ns s.sites i n (sym count) less f) in
    cc (histories_set ns i m (entries_noted n) same, set_same (histories_in ns) i (entries_noted n) here)

-- before any entry
pub none_read : (s : Settings) (xs : List SeenSite) (ns : List Notes) (ms : List Message)
    → xs ≡ map (first_seen s) (range_with_len 0 s.sites)
    → length ns ≡ s.sites → HaveNoEntries ns → AreAllNotes s xs ns ms
none_read s xs ns ms is count none = record {
  sites = ap length is ∙ length-map-range_with_len (first_seen s) 0 s.sites;
  notes = count;
  each = λ i x n at there.
      (let (less, e) = Lists.at_number (first_seen s) s.sites i x (rw is at at) in
      let f : entries_noted n ≡ [] = ap (map (λ z. z.value)) (none i n there).0 in
      record {
        settings = cc;
        me = cc;
        entries = λ _. cc;
        judged = judged_as s i n ms [] [] f (none i n there).1 (
          omega arith,
          record { within = less; replays = tt; room = omega arith },
          λ q. absurd (omega arith),
          λ k y st p q. cc,
        );
      });
}

-- what is kept of one history more without entries
pub no_entries_more : (ns : List Notes) (n : Notes) → HaveNoEntries ns → n.entries.items ≡ [] → n.steps.items ≡ []
    → HaveNoEntries (ns ++ n ∷ [])
no_entries_more ns n none entries steps i m at = elim (Lists.before_or_last ns n m i at) [
  | inl before ↦ none i m before
  | inr (_, same) ↦ (cc, cc)
]

-- histories of no entries
pub no_histories : (ns : List Notes) (n : ℕ) → length ns ≡ n → HaveNoEntries ns → histories_in ns ≡ replicate n []
no_histories [] zero e none = refl
no_histories [] (suc n) e none = absurd (omega arith)
no_histories (m ∷ ns) zero e none = absurd (omega arith)
no_histories (m ∷ ns) (suc n) e none =
    cc (ap (map (λ z. z.value)) (none 0 m refl).0, no_histories ns n (omega arith) (λ i. none (suc i)))

-- what is kept of each history, without the sites
pub judged_all : {s : Settings} {xs : List SeenSite} {ns : List Notes} {ms : List Message} → AreAllNotes s xs ns ms
    → AreJudged s ns ms
judged_all {s} {xs} {ns} all = record {
  notes = all.notes;
  each = λ i n at. (let x = Lists.item_at xs i (omega (arith, slice_get_within ns i n at, all.notes, all.sites)) in
      (all.each i x.0 n x.1 at).judged);
}
