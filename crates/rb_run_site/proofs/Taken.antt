-- The file that a crash left is never at fault.
use Rattle.std.proofs.Common.{◌≡◌, ◌≤◌, ℕ, true, List, [], ◌∷◌, ◌++◌, length, refl, sym, ap, subst, ◌∙◌, inl, inr, arith}
use Rattle.std.proofs.Common.{◌+◌, length-append, ⊎_elim}
use Rattle.std.specs.Prelude.{nat_le}
use Rattle.std.proofs.lemmas.Bool.Decides.{nat_tests}
use Rattle.std.proofs.lemmas.List.{append_cancel_right, map-append}
use Rattle.json.proofs.Found.{Some_inj}
use Rattle.serde_json.specs.Written.{compact_text}
use Rattle.rb_money.specs.Settings.{Settings}
use Rattle.rb_journal.specs.Lines.{IsIntact, recovered}
use Rattle.rb_site.specs.declared.entry.Entry.{Entry}
use Rattle.rb_site.specs.Events.{ModelSite, after_event, after_events, first_site, is_full, reply_to}
use Rattle.rb_site.specs.Histories.{events_of}
use Rattle.rb_site.specs.Seen.{IsReplayed, Replays, SeenSite, next_sites, state_of}
use Rattle.rb_site.proofs.Public.Outcomes.{is_full-state}
use Rattle.rb_history.specs.Entries.{asked_entry_json, asked_entry_on}
use Rattle.rb_history.specs.Fits.{Each}
use Rattle.rb_history.specs.Ids.{AskedEntry}
use Rattle.rb_node.specs.Asked.{AreIdsOnce, SeenAsked, asked_state, entries_alone, first_asked, without_ids}
use Rattle.rb_node.specs.Replays.{IsReadBack, IsReadWhole}
use Rattle.rb_run_site.specs.Files.{BeginsClosed, BeginsWith, IsNew}
use Rattle.rb_run_site.specs.Journals.{journal_head, journal_of, lines_of_entries}
use Rattle.rb_run_site.specs.Openings.{EndsFile}
use Rattle.rb_run_site.specs.Replays.{IsNoEntry, IsOtherwise, StopsReplay}
use Rattle.rb_run_site.specs.Restarts.{IsFileFault}
use Rattle.rb_run_site.specs.declared.fault.SiteFault.{SiteFault}
use Rattle.rb_run_site.specs.declared.fault.SiteFault.TheVariants.{AnotherJournal, BadEntry, Damaged, Sealed, WrongReply}
use Rattle.rb_journal.proofs.Public.Seals.{intact_unsealed}
use Rattle.rb_run_site.proofs.EntryLines.{fed}
use Rattle.rb_run_site.proofs.Configured.{first_replayed}
use Rattle.rb_run_site.proofs.Ids.{unknown_before}
use Rattle.rb_run_site.proofs.Replayed.{state_after}
use Rattle.rb_run_site.proofs.Stepped.{all_replayed}

-- entries of a site that are read from the same line are the same
pub same_entry : (s : Settings) (me : ℕ) (x y : AskedEntry) → IsReadBack s me x → IsReadBack s me y
    → compact_text (asked_entry_json s me x) ≡ compact_text (asked_entry_json s me y) → x ≡ y
same_entry s me x y h k text = ap (λ (p : ℕ × AskedEntry). p.1) (Some_inj (me, x) (me, y) (sym h ∙ ap (asked_entry_on s) text ∙ k))

-- the entry at which a replay of a site's journal stopped, after those that were replayed
record StopsAt (s : Settings) (me : ℕ) (xs ys : List AskedEntry) (line : List ℕ) : Type 0 where
  next : AskedEntry
  rest : List AskedEntry
  is : xs ≡ ys ++ next ∷ rest
  line_is : line ≡ compact_text (asked_entry_json s me next)
  read : IsReadBack s me next

stops_at : (s : Settings) (me : ℕ) (xs ys : List AskedEntry) (line : List ℕ) (later : List (List ℕ))
    → Each (IsReadBack s me) xs
    → Each (IsReadBack s me) ys → lines_of_entries s me xs ≡ lines_of_entries s me ys ++ (line ++ 10 ∷ []) ∷ later → StopsAt s me xs ys line
stops_at s me [] [] line later h k e = absurd (cc)
stops_at s me [] (y ∷ ys) line later h k e = absurd (cc)
stops_at s me (x ∷ xs) [] line later h k e =
    let fed_is : compact_text (asked_entry_json s me x) ++ 10 ∷ [] ≡ line ++ 10 ∷ [] = cc in
    record { next = x; rest = xs; is = refl; line_is = sym (append_cancel_right _ _ (10 ∷ []) fed_is); read = h.0 }
stops_at s me (x ∷ xs) (y ∷ ys) line later h k e =
    let front : fed s me x ≡ fed s me y = cc in
    let behind : lines_of_entries s me xs ≡ lines_of_entries s me ys ++ (line ++ 10 ∷ []) ∷ later = cc in
    let same : x ≡ y = same_entry s me x y h.0 k.0 (append_cancel_right _ _ (10 ∷ []) front) in
    let more : StopsAt s me xs ys line = stops_at s me xs ys line later h.1 k.1 behind in
    record {
      next = more.next;
      rest = more.rest;
      is = ap (λ z. z ∷ xs) same ∙ ap (λ zs. y ∷ zs) more.is;
      line_is = more.line_is;
      read = more.read;
    }

-- the reply of an entry of a history that replays is the one that the run gives there
reply_there : (s : Settings) (t : ModelSite) (ys : List Entry) (x : Entry) (zs : List Entry) → Replays s t (ys ++ x ∷ zs)
    → x.reply ≡ reply_to s (after_events s t (events_of ys)) x.event
reply_there s t [] x zs r = r.0
reply_there s t (y ∷ ys) x zs r = reply_there s (after_event s t y.event) ys x zs r.1

-- a site's whole journal, in a file whose first line is the configuration's
record IsWhole (x : SeenAsked) (file : List ℕ) : Type 0 where
  lines_are : recovered file ≡ journal_of x
  replayed : IsReplayed (without_ids x)
  read : IsReadWhole x
  once : AreIdsOnce x.asked

module _ (x : SeenAsked) (file entries : List ℕ) (number : ℕ) (w : IsWhole x file)
    (begins : BeginsWith file (journal_head x.settings) entries)
    (P : SeenAsked → List ℕ → Type 0) (stop : StopsReplay (first_asked x.settings x.me x.bank) (recovered entries) number P) where
  -- where a replay of it would stop
  at_entry : StopsAt x.settings x.me x.asked stop.entries stop.line
  at_entry =
      let both : journal_head x.settings ∷ recovered entries ≡ journal_head x.settings ∷ lines_of_entries x.settings x.me x.asked =
      sym begins.0 ∙ w.lines_are in
      let lines : recovered entries ≡ lines_of_entries x.settings x.me x.asked = cc in
      stops_at x.settings x.me x.asked stop.entries stop.line stop.later w.read stop.read (sym lines ∙ stop.lines_are)

  -- the site there has the entries before
  mid_is : stop.mid ≡ record { settings = x.settings; me = x.me; bank = x.bank; asked = stop.entries }
  mid_is = stop.goes_on.entries

-- no line of it is no entry
no_bad_entry : (x : SeenAsked) (file entries : List ℕ) (number : ℕ) → IsWhole x file
    → BeginsWith file (journal_head x.settings) entries
    → StopsReplay (first_asked x.settings x.me x.bank) (recovered entries) number IsNoEntry → ⊥
no_bad_entry x file entries number w begins stop =
    let at = at_entry x file entries number w begins IsNoEntry stop in
    let none : IsNoEntry (record { settings = x.settings; me = x.me; bank = x.bank; asked = stop.entries }) stop.line =
    subst (λ y. IsNoEntry y stop.line) (mid_is x file entries number w begins IsNoEntry stop) stop.stops in
    let unknown = unknown_before x.settings x.me x.bank stop.entries at.rest at.next (subst AreIdsOnce at.is w.once) in
    none at.next (ap (asked_entry_on x.settings) at.line_is ∙ at.read) unknown at.line_is

-- the entries before it aren't a full history
not_full : (x mid : SeenSite) (ys : List Entry) (y : Entry) (zs : List Entry) → IsReplayed x → IsReplayed mid → mid.settings ≡ x.settings
    → mid.entries ≡ ys → x.entries ≡ ys ++ y ∷ zs → is_full mid.settings (state_of mid) ≡ true → ⊥
not_full x mid ys y zs is was s has parts full =
    let some : nat_le mid.settings.limits.history (length mid.entries) ≡ true = is_full-state mid was ∙ full in
    let most : mid.settings.limits.history ≤ length mid.entries = grind (arith, nat_tests) in
    let limit : mid.settings.limits.history ≡ x.settings.limits.history = ap (λ (c : Settings). c.limits.history) s in
    omega (arith, most, limit, is.room, ap length has, ap length parts, length-append ys (y ∷ zs))

-- each is the site's next
no_wrong_reply : (x : SeenAsked) (file entries : List ℕ) (number : ℕ) → IsWhole x file
    → BeginsWith file (journal_head x.settings) entries
    → StopsReplay (first_asked x.settings x.me x.bank) (recovered entries) number IsOtherwise → ⊥
no_wrong_reply x file entries number w begins stop =
    by (subst (λ y. IsOtherwise y stop.line) (mid_is x file entries number w begins IsOtherwise stop) stop.stops)
  where
    old : SeenSite
    old = without_ids (first_asked x.settings x.me x.bank)

    ys : List Entry
    ys = entries_alone stop.entries

    mid : SeenAsked
    mid = record { settings = x.settings; me = x.me; bank = x.bank; asked = stop.entries }

    at : StopsAt x.settings x.me x.asked stop.entries stop.line
    at = at_entry x file entries number w begins IsOtherwise stop

    after : without_ids mid ≡ next_sites old (events_of ys)
    after = ap without_ids (sym (mid_is x file entries number w begins IsOtherwise stop)) ∙ stop.goes_on.after

    t : asked_state mid ≡ after_events x.settings (first_site x.me) (events_of ys)
    t = ap state_of after ∙ state_after old (events_of ys)

    was : IsReplayed (without_ids mid)
    was = subst IsReplayed (sym after)
        (all_replayed old (events_of ys) (first_replayed (first_asked x.settings x.me x.bank) x.me x.bank w.replayed.within refl))

    parts : entries_alone x.asked ≡ ys ++ at.next.entry ∷ entries_alone at.rest
    parts = ap entries_alone at.is ∙ map-append (λ (e : AskedEntry). e.entry) stop.entries (at.next ∷ at.rest)

    there : at.next.entry.reply ≡ reply_to x.settings (after_events x.settings (first_site x.me) (events_of ys)) at.next.entry.event
    there = reply_there x.settings (first_site x.me) ys at.next.entry (entries_alone at.rest)
        (subst (Replays x.settings (first_site x.me)) parts w.replayed.replays)

    given : (e : AskedEntry) → e ≡ at.next → e.entry.reply ≡ reply_to x.settings (asked_state mid) e.entry.event
    given e same =
        ap (λ (y : AskedEntry). y.entry.reply) same ∙ there
        ∙ ap (λ (y : AskedEntry). reply_to x.settings (after_events x.settings (first_site x.me) (events_of ys)) y.entry.event) (sym same)
        ∙ ap (λ u. reply_to x.settings u e.entry.event) (sym t)

    equal : (e : AskedEntry) → stop.line ≡ compact_text (asked_entry_json x.settings x.me e)
        → IsReadBack x.settings x.me e → e ≡ at.next
    equal e line read = same_entry x.settings x.me e at.next read at.read (sym line ∙ at.line_is)

    by : IsOtherwise mid stop.line → ⊥
    by (e, line, read, inl full) =
        not_full (without_ids x) (without_ids mid) ys at.next.entry (entries_alone at.rest) w.replayed was refl refl parts full
    by (e, line, read, inr other) = other (given e (equal e line read))

-- so the file isn't at fault, if it isn't damaged
pub not_at_fault : (x : SeenAsked) (file : List ℕ) → recovered file ≡ journal_of x → IsIntact file
    → IsReplayed (without_ids x)
    → IsReadWhole x → AreIdsOnce x.asked → (fault : SiteFault) → IsFileFault fault
    → EndsFile (first_asked x.settings x.me x.bank) file fault → ⊥
not_at_fault x file lines intact is read once AnotherJournal of ends = ends.0 _ lines
not_at_fault x file lines intact is read once (Damaged n) of (inl ends) = absurd (cc (lines, ends.1.0))
not_at_fault x file lines intact is read once (Damaged n) of (inr ends) = ends.damaged intact
not_at_fault x file lines intact is read once (BadEntry n) of (entries, begins, stop) =
    no_bad_entry x file entries n (record { lines_are = lines; replayed = is; read = read; once = once }) begins stop
not_at_fault x file lines intact is read once (WrongReply n) of (entries, begins, stop) =
    no_wrong_reply x file entries n (record { lines_are = lines; replayed = is; read = read; once = once }) begins stop
not_at_fault x file lines intact is read once Sealed of ends = intact_unsealed file intact ends
not_at_fault x file lines intact is read once _ of ends = absurd of

-- nor is a new journal
pub new_not_at_fault : (old : SeenAsked) (file : List ℕ) → IsNew file (journal_head old.settings) → (fault : SiteFault)
    → IsFileFault fault
    → EndsFile old file fault → ⊥
new_not_at_fault old file (none, is) AnotherJournal of ends =
    let (some, other) = ends.1 none in
    ⊎_elim some (λ (new : BeginsClosed file × (length file ≤ length (journal_head old.settings) + 1)). other new.0) is
new_not_at_fault old file (none, inl is) (Damaged n) of (inl ends) = subst BeginsClosed is ends.1.1
new_not_at_fault old file (none, inr is) (Damaged n) of (inl ends) = omega (arith, is.1, ends.1.2)
new_not_at_fault old file (none, is) (Damaged n) of (inr ends) = absurd (cc (none, ends.lines_are))
new_not_at_fault old file (none, is) (BadEntry n) of (entries, begins, stop) = absurd (cc (none, begins.0))
new_not_at_fault old file (none, is) (WrongReply n) of (entries, begins, stop) = absurd (cc (none, begins.0))
new_not_at_fault old file (none, is) Sealed of ends = ends.0 none
new_not_at_fault old file new _ of ends = absurd of
