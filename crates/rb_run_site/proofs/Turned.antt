-- An answer of a site is a turn of it over its journal.
use Rattle.std.proofs.Common.{◌≡◌, ℕ, Bool, true, false, cond, List, [], ◌∷◌, ◌++◌, Some, None, refl, sym, ap, subst, ◌∙◌}
use Rattle.std.proofs.Common.{Option, append-nil, inl, inr}
use Rattle.std.specs.Prelude.{◌⊎◌, IfSome, codes, map, option_map}
use Rattle.std.specs.Str.{is_utf8}
use Rattle.std.specs.List.{concat}
use Rattle.std.proofs.lemmas.List.{map-append}
use Rattle.rb_money.specs.Settings.{IsConfigured, Settings}
use Rattle.rb_site.specs.declared.entry.Entry.{Entry}
use Rattle.rb_site.specs.declared.event.Event.{Event}
use Rattle.rb_site.specs.Events.{is_full}
use Rattle.rb_site.specs.Seen.{SeenSite, next_site, next_sites, state_of, stepped}
use Rattle.rb_site.proofs.Public.Seen.{settings-next}
use Rattle.rb_history.specs.Ids.{AskedEntry, AskedEvent, IsIdOrNone, is_id, may_have_id}
use Rattle.rb_history.specs.OneLine.{EntriesAreLines}
use Rattle.rb_history.specs.Banks.{ReadEventsFit, event_to}
use Rattle.rb_journal.specs.Lines.{IsBatch, recovered}
use Rattle.rb_journal.specs.Turns.{IsTurn}
use Rattle.rb_lines.specs.Lines.{is_long}
use Rattle.rb_lines.specs.declared.limits.TheConstants.{LINE_LIMIT}
use Rattle.std.proofs.Common.{◌≤◌, length, arith}
use Rattle.std.proofs.lemmas.Bool.Decides.{nat_tests}
use Rattle.rb_reasons.specs.Reasons.{IsPlain}
use Rattle.rb_node.specs.Answers.{IsKnownAnswer, IsOtherBankAnswer, IsSiteAnswer, asked_event_on, line_of, other_bank_on}
use Rattle.rb_node.specs.Asked.{SeenAsked, with_id, with_more}
use Rattle.rb_node.specs.LineAnswers.{IsLineAnswer, IsQuestionAnswer, question_on}
use Rattle.rb_run_site.specs.Journals.{IsAnswer, IsBadAnswer, MayHaveReason, SiteAnswers}
use Rattle.rb_run_site.specs.Journals.{bad_json, journal_head, journal_of, lines_of_entries}
use Rattle.rb_run_site.proofs.EntryLines.{are_theirs, fed, ids_had, joined_lines}

-- events keep a site's configuration and its number
pub settings_kept : (x : SeenSite) (es : List Event) → (next_sites x es).settings ≡ x.settings
settings_kept x [] = refl
settings_kept x (e ∷ es) = settings_kept (next_site x e) es ∙ settings-next x e

-- nor does one event change the number
pub me_next : (x : SeenSite) (e : Event) → (next_site x e).me ≡ x.me
me_next x e = by (is_full x.settings (state_of x))
  where
    by : (b : Bool) → (cond b x (stepped x e)).me ≡ x.me
    by true = refl
    by false = refl

-- nor does a list of events
pub me_kept : (x : SeenSite) (es : List Event) → (next_sites x es).me ≡ x.me
me_kept x [] = refl
me_kept x (e ∷ es) = me_kept (next_site x e) es ∙ me_next x e

-- a site with more entries has their lines more in its journal
pub journal_grows : (x : SeenAsked) (more : List AskedEntry) → journal_of (with_more x more) ≡ journal_of x
    ++ lines_of_entries x.settings x.me more
journal_grows x more = ap (λ ls. journal_head x.settings ∷ ls) (map-append (fed x.settings x.me) x.asked more)

-- what was recorded for an event, with its ids
abbrev pub recorded_with : List ℕ → List Entry → List AskedEntry
recorded_with id xs = map (with_id id) xs

-- the id that is read from a line is one, or there is none
pub id_read : ReadEventsFit → (s : Settings) (bank l : List ℕ) (x : AskedEvent) → asked_event_on s bank l ≡ Some x
    → IsIdOrNone x.id
unfolding asked_event_on
id_read fit s bank l x is = at (is_utf8 l) is
  where
    of : (x.id ≡ []) ⊎ ((is_id x.id ≡ true) × (may_have_id x.event ≡ true)) → IsIdOrNone x.id
    of (inl none) = inl none
    of (inr some) = inr some.0

    at : (b : Bool) → cond b (event_to s bank l) None ≡ Some x → IsIdOrNone x.id
    at true h = of (fit s bank l x h).1
    at false h = absurd (cc)

-- what a site adds to the entries are lines of a journal
pub batched : EntriesAreLines → ReadEventsFit → (all : Bool) (old new : SeenAsked) (line text entries : List ℕ)
    → IsConfigured old.settings → IsLineAnswer all old new line text entries → IsBatch entries
batched are fit all old new line text entries ok (inl a) =
    let ids = ids_had a.asked.id a.recorded (id_read fit old.settings old.bank line a.asked a.is_event) in
    subst IsBatch (sym a.entries_are) (are_theirs are old.settings ok old.me (recorded_with a.asked.id a.recorded) ids).batch
batched are fit all old new line text entries ok (inr (inl a)) = subst IsBatch (sym a.entries_are) refl
batched are fit all old new line text entries ok (inr (inr (inl a))) = subst IsBatch (sym a.entries_are) refl
batched are fit all old new line text entries ok (inr (inr (inr a))) = subst IsBatch (sym a.entries_are) refl

-- a line that isn't too long
pub short_line : (l : List ℕ) → length l ≤ LINE_LIMIT → is_long l ≡ false
short_line l few = grind (arith, nat_tests)

module _ (all : Bool) (old new : SeenAsked) (number : ℕ) (line words entries text text_after : List ℕ)
    (batch batch_after : List (List ℕ)) (ok : IsConfigured old.settings) (short : is_long line ≡ false)
    (said : text_after ≡ text ++ words) (more : batch_after ≡ batch ++ recovered entries) where
  -- the site took the line of an event: it is a turn
  event_turned : EntriesAreLines → ReadEventsFit → IsSiteAnswer all old new line words entries
      → IsTurn (SiteAnswers all) old new (journal_of old) (journal_of new) batch batch_after number line text text_after
  event_turned are fit a =
      let xs = recorded_with a.asked.id a.recorded in
      let added = lines_of_entries old.settings old.me xs in
      let theirs = are_theirs are old.settings ok old.me xs
      (ids_had a.asked.id a.recorded (id_read fit old.settings old.bank line a.asked a.is_event)) in
      let lines : recovered entries ≡ added = ap recovered a.entries_are ∙ theirs.lines in
      let grown : journal_of new ≡ journal_of old ++ added = ap journal_of a.recorded_are ∙ journal_grows old xs in
      let bytes : entries ≡ concat added = a.entries_are ∙ sym (joined_lines old.settings old.me xs) in
      record {
        added = added;
        words = words;
        answered = record {
          configured = ok;
          answered = subst (λ b. IsAnswer all b old number line added words new) (sym short)
              (inl (inl (subst (IsSiteAnswer all old new line words) bytes a)));
          after = grown;
        };
        lines_are = grown;
        batch_is = more ∙ ap (λ ls. batch ++ ls) lines;
        text_is = said;
      }

  -- the site stayed as it was, and recorded nothing: it is a turn that changes nothing
  same_turned : new ≡ old → entries ≡ [] → (entries ≡ [] → IsLineAnswer all old new line words [])
      → IsTurn (SiteAnswers all) old new (journal_of old) (journal_of new) batch batch_after number line text text_after
  same_turned same none a =
      let grown : journal_of new ≡ journal_of old ++ [] = ap journal_of same ∙ sym (append-nil (journal_of old)) in
      record {
        added = [];
        words = words;
        answered = record {
          configured = ok;
          answered = subst (λ b. IsAnswer all b old number line [] words new) (sym short) (inl (a none));
          after = grown;
        };
        lines_are = grown;
        batch_is = more ∙ ap (λ l. batch ++ recovered l) none;
        text_is = said;
      }

  -- the site answered a line: it is a turn
  pub turned : EntriesAreLines → ReadEventsFit → IsLineAnswer all old new line words entries
      → IsTurn (SiteAnswers all) old new (journal_of old) (journal_of new) batch batch_after number line text text_after
  turned are fit (inl a) = event_turned are fit a
  turned are fit (inr (inl a)) =
      same_turned a.after a.entries_are (λ none. inr (inl (subst (IsKnownAnswer old new line words) none a)))
  turned are fit (inr (inr (inl a))) =
      same_turned a.after a.entries_are (λ none. inr (inr (inl (subst (IsQuestionAnswer old new line words) none a))))
  turned are fit (inr (inr (inr a))) =
      same_turned a.after a.entries_are (λ none. inr (inr (inr (subst (IsOtherBankAnswer old new line words) none a))))

-- the answer has the reason that there is, which is plain, or none
pub may_have : {S : Type 0} (bytes : S → List ℕ) (why : Option S) (said : Option (List ℕ)) → IfSome why (λ s. IsPlain (bytes s))
    → (said ≡ option_map bytes why) ⊎ (said ≡ None) → MayHaveReason said
may_have bytes (Some s) said plain (inl is) = subst MayHaveReason (sym is) plain
may_have bytes None said plain (inl is) = subst MayHaveReason (sym is) tt
may_have bytes why said plain (inr is) = subst MayHaveReason (sym is) tt

-- the line is no event, no question and of no other bank: it is a turn that changes nothing
pub bad_line : (all : Bool) (old new : SeenAsked) (number : ℕ) (why : Option (List ℕ)) (line text text_after : List ℕ)
    (batch batch_after : List (List ℕ)) → IsConfigured old.settings → MayHaveReason why
    → is_long line ≡ false → asked_event_on old.settings old.bank line ≡ None
    → other_bank_on old.settings old.bank line ≡ false → question_on old.bank line ≡ None → new ≡ old
    → text_after ≡ text ++ line_of (bad_json (codes "line") number why) → batch_after ≡ batch
    → IsTurn (SiteAnswers all) old new (journal_of old) (journal_of new) batch batch_after number line text text_after
bad_line all old new number why line text text_after batch batch_after ok reason short none own unasked same said kept =
    let words = line_of (bad_json (codes "line") number why) in
    let grown : journal_of new ≡ journal_of old ++ [] = ap journal_of same ∙ sym (append-nil (journal_of old)) in
    let bad : IsBadAnswer (codes "line") MayHaveReason old new number [] words =
    record { why = why; reason = reason; text_is = refl; same = same; none = refl } in
    record {
      added = [];
      words = words;
      answered = record {
        configured = ok;
        answered = subst (λ b. IsAnswer all b old number line [] words new) (sym short) (inr (none, own, unasked, bad));
        after = grown;
      };
      lines_are = grown;
      batch_is = kept ∙ sym (append-nil batch);
      text_is = said;
    }
