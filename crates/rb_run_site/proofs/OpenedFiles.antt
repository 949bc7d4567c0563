-- A file's entries, replayed.
use Rattle.std.proofs.Common.{◌≡◌, ◌-◌, ℕ, List, [], ◌∷◌, ◌++◌, length, refl, sym, ap, subst, ◌∙◌, inr}
use Rattle.std.proofs.lemmas.List.{length-map}
use Rattle.rb_journal.specs.Lines.{IsIntact, recovered}
use Rattle.rb_site.specs.Events.{first_site}
use Rattle.rb_site.specs.Seen.{IsReplayed}
use Rattle.rb_site.specs.Histories.{events_of}
use Rattle.rb_history.specs.Ids.{AskedEntry}
use Rattle.rb_history.specs.Fits.{Each}
use Rattle.rb_node.specs.Asked.{SeenAsked, asked_state, entries_alone, first_asked, without_ids}
use Rattle.rb_node.specs.Replays.{IsReadBack}
use Rattle.rb_node.specs.Resends.{resent}
use Rattle.rb_run_site.specs.Files.{BeginsWith}
use Rattle.rb_run_site.specs.Journals.{journal_head, journal_of, lines_of_entries}
use Rattle.rb_run_site.specs.Openings.{OpensFile}
use Rattle.rb_run_site.specs.Replays.{ReplaysLines}
use Rattle.rb_run_site.proofs.EntryLines.{fed}
use Rattle.rb_run_site.proofs.Stepped.{all_replayed}

-- the lines of a file that isn't damaged are replayed: it is the journal of the site after them
pub replayed_file : (old new : SeenAsked) (file entries sends sends_after : List ℕ) (most count : ℕ)
    → old ≡ first_asked old.settings old.me old.bank
    → IsIntact file → BeginsWith file (journal_head old.settings) entries → count ≡ length (recovered entries) → sends ≡ []
    → ReplaysLines old new (recovered entries) (count - most) sends sends_after → OpensFile old new file [] sends_after most
replayed_file old new file entries sends sends_after most count first intact begins counted none r =
    let s : new.settings ≡ old.settings = ap (λ (x : SeenAsked). x.settings) r.goes_on.entries in
    let m : new.me ≡ old.me = ap (λ (x : SeenAsked). x.me) r.goes_on.entries in
    let k : new.bank ≡ old.bank = ap (λ (x : SeenAsked). x.bank) r.goes_on.entries in
    let has : new.asked ≡ r.entries =
    ap (λ (x : SeenAsked). x.asked) r.goes_on.entries ∙ ap (λ (x : SeenAsked). x.asked ++ r.entries) first in
    let alone : entries_alone new.asked ≡ entries_alone r.entries = ap entries_alone has in
    let journal : recovered file ≡ journal_of new =
    begins.0 ∙ ap (λ ls. journal_head old.settings ∷ ls) r.lines_are
    ∙ sym (ap (λ c. journal_head c ∷ lines_of_entries c new.me new.asked) s
    ∙ ap (λ i. journal_head old.settings ∷ lines_of_entries old.settings i new.asked) m
    ∙ ap (λ xs. journal_head old.settings ∷ lines_of_entries old.settings old.me xs) has) in
    let many : count ≡ length (entries_alone new.asked) =
    counted ∙ ap length r.lines_are ∙ length-map r.entries (fed old.settings old.me) ∙ ap length (sym has)
    ∙ sym (length-map new.asked (λ (x : AskedEntry). x.entry)) in
    record {
      settings = s;
      me = m;
      bank = k;
      replayed = λ was. subst IsReplayed (sym r.goes_on.after) (all_replayed (without_ids old) (events_of (entries_alone r.entries)) was);
      read = λ was. subst (Each (IsReadBack new.settings new.me)) (sym has)
          (subst (λ i. Each (IsReadBack new.settings i) r.entries) (sym m)
          (subst (λ c. Each (IsReadBack c old.me) r.entries) (sym s) r.read));
      once = r.goes_on.once;
      journal = inr journal;
      begins = inr (journal, refl);
      undamaged = inr (λ nothing. absurd (cc (journal, nothing)), intact);
      sends_are = r.sends_are ∙ ap (λ l. l ++ resent old.settings old.bank (asked_state old) (count - most) (entries_alone r.entries)) none
          ∙ ap (λ t. resent old.settings old.bank t (count - most) (entries_alone r.entries)) (ap asked_state first)
          ∙ ap (λ n. resent old.settings old.bank (first_site old.me) (n - most) (entries_alone r.entries)) many
          ∙ sym (ap (λ c. resent c new.bank (first_site new.me) (length (entries_alone new.asked) - most) (entries_alone new.asked)) s
          ∙ ap (λ b. resent old.settings b (first_site new.me) (length (entries_alone new.asked) - most) (entries_alone new.asked)) k
          ∙ ap (λ i. resent old.settings old.bank (first_site i) (length (entries_alone new.asked) - most) (entries_alone new.asked)) m
          ∙ ap (λ xs. resent old.settings old.bank (first_site old.me) (length (entries_alone new.asked) - most) xs) alone);
    }
