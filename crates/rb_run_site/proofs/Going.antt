-- A site goes on over its journal: the configuration's line, what is sent again, and then turns.
use Rattle.std.proofs.Common.{◌≡◌, inl, inr, ℕ, Bool, ◌+◌, List, [], ◌∷◌, ◌++◌, length, take, Option, Some, None, Result}
use Rattle.std.proofs.Common.{refl, sym, ap, subst, ◌∙◌, append_assoc, append-nil, arith}
use Rattle.std.specs.Prelude.{IfSome}
use Rattle.std.proofs.Math.Seq.{take-append-add}
use Rattle.serde_json.specs.Written.{compact_text}
use Rattle.rb_journal.specs.Host.{AddsPrefix}
use Rattle.rb_journal.specs.Journal.{HasClosedGate, IsAppended, IsDurable, IsLeftAs, IsRepaired}
use Rattle.rb_journal.specs.Lines.{IsBatch, IsIntact, IsLine, at_rest, recovered}
use Rattle.rb_journal.proofs.Public.Lines.{line_alone, recovered-append, short_nothing, still_lines}
use Rattle.rb_node.specs.Asked.{SeenAsked}
use Rattle.rb_history.specs.ConfigLines.{config_json}
use Rattle.rb_journal.specs.Ends.{EndsAs, IsPutOut}
use Rattle.rb_journal.specs.Run.{AreFirst, IsRunOfTurns}
use Rattle.rb_journal.specs.Turns.{Turn, texts, to_answer}
use Rattle.rb_journal.specs.declared.fault.ServeFault.{ServeFault}
use Rattle.rb_journal.specs.declared.fault.ServeFault.TheVariants.{Read, Write, Journal as JournalStopped, OutOfMemory}
use Rattle.rb_lines.specs.Lines.{lines_of}
use Rattle.rb_run_site.specs.Ends.{AnswersAll}
use Rattle.rb_run_site.specs.Faults.{fault_of_serve}
use Rattle.rb_run_site.specs.Journals.{SiteAnswers, journal_head, journal_of, lines_of_entries}
use Rattle.rb_run_site.specs.Files.{IsNew, IsUndamaged}
use Rattle.rb_run_site.specs.Openings.{IsToBegin}
use Rattle.rb_run_site.specs.Runs.{HasAnswered, IsNewOrAnswered}
use Rattle.rb_run_site.specs.Starts.{IsJournalOf}
use Rattle.rb_run_site.specs.declared.fault.SiteFault.TheVariants.{Journal as DiskFailed}
use Rattle.rb_run_site.proofs.NewFiles.{closed_new, repaired_new}

-- what a journal is to begin with is whole lines, and with them it is the site's
pub record Begins (lines : List (List ℕ)) (x : SeenAsked) (first : List ℕ) : Type 0 where
  pub begin : IsToBegin lines x first
  pub batch : IsBatch first
  pub whole : lines ++ recovered first ≡ journal_of x

-- a journal without lines is of a site without entries
no_entries : (lines : List (List ℕ)) (x : SeenAsked) → lines ≡ [] → IsJournalOf lines x → x.asked ≡ []
no_entries lines x none (inl is) = ap (λ (y : SeenAsked). y.asked) is.1
no_entries lines x none (inr is) = absurd (cc (none, is))

-- so it is with what a site's journal is still to begin with, if its configuration's line is a line
pub begins : (lines : List (List ℕ)) (x : SeenAsked) (first : List ℕ) → IsLine (compact_text (config_json x.settings))
    → IsJournalOf lines x → IsToBegin lines x first → Begins lines x first
begins lines x first one of (inl is) =
    let line : List ℕ = compact_text (config_json x.settings) in
    let none : x.asked ≡ [] = no_entries lines x is.0 of in
    let alone : recovered first ≡ journal_head x.settings ∷ [] = ap recovered is.1 ∙ line_alone line one in
    record {
      begin = inl is;
      batch = subst IsBatch (sym is.1) (still_lines [] line refl one);
      whole = ap (λ ls. ls ++ recovered first) is.0 ∙ alone
          ∙ ap (λ xs. journal_head x.settings ∷ lines_of_entries x.settings x.me xs) (sym none);
    }
begins lines x first one of (inr is) = record {
  begin = inr is;
  batch = subst IsBatch (sym is.1) refl;
  whole = ap (λ f. lines ++ recovered f) is.1 ∙ append-nil lines ∙ is.0;
}

-- a prefix of the second bytes, after all of the first
further : (output sends more d : List ℕ) → AddsPrefix (output ++ sends) more d → AddsPrefix output (sends ++ more) d
further output sends more d some = (
  length sends + some.0,
  some.1 ∙ append_assoc output sends (take some.0 more) ∙ ap (λ l. output ++ l) (sym (take-append-add sends more some.0)),
)

first_none : (number : ℕ) (input : Option (List ℕ)) → IfSome input (AreFirst {S = SeenAsked} number [])
first_none number None = tt
first_none number (Some all) = (to_answer number (lines_of all), refl)

-- the file is the site's journal, and no turn is made
no_turn : (all : Bool) (x : SeenAsked) (sends : List ℕ) (number : ℕ) (input : Option (List ℕ)) (output c d : List ℕ)
    → recovered c ≡ journal_of x → IsIntact c
    → AddsPrefix output sends d → HasAnswered all x sends number input output c d
no_turn all x sends number input output c d same intact some = record {
  turns = [];
  are = tt;
  in_order = first_none number input;
  lines_are = same ∙ sym (append-nil (journal_of x));
  intact = intact;
  output_is = subst (λ l. AddsPrefix output l d) (sym (append-nil sends)) some;
}

-- nothing was put out
silent : (output sends d : List ℕ) → d ≡ output → AddsPrefix output sends d
silent output sends d same = (0, same ∙ sym (append-nil output))

-- while the file is opened, a new journal is still new, and any other is the site's
pub opened : (all : Bool) (file : List ℕ) (x : SeenAsked) (first sends : List ℕ) (number : ℕ)
    (input : Option (List ℕ)) (output c d : List ℕ)
    → IsToBegin (recovered file) x first → IsUndamaged file (journal_head x.settings) → IsLeftAs (recovered file) output c d
    → IsRepaired file c → (IsIntact file → IsIntact c) → IsNewOrAnswered all (recovered file) x sends number input output c d
opened all file x first sends number input output c d begin (inl new) left repaired ok =
    inl (record { none = new.0; is_new = repaired_new file c (journal_head x.settings) new repaired; silent = left.1 })
opened all file x first sends number input output c d (inl none) (inr some) left repaired ok = absurd (some.0 none.0)
opened all file x first sends number input output c d (inr whole) (inr some) left repaired ok =
    inr (no_turn all x sends number input output c d (left.0 ∙ whole.0) (ok some.1) (silent output sends d left.1))

-- a file at rest is read as its lines
rest_is : (first : List ℕ) → recovered (at_rest (recovered first)) ≡ recovered first
rest_is first = recovered-append first (32 ∷ []) ∙ ap (λ ls. recovered first ++ ls) (short_nothing (32 ∷ []) (omega arith))
    ∙ append-nil (recovered first)

-- while the journal begins, a new one is still new, or it is the site's
begun_file : (all : Bool) (lines : List (List ℕ)) (x : SeenAsked) (first sends : List ℕ) (number : ℕ)
    (input : Option (List ℕ)) (output c d : List ℕ)
    → Begins lines x first → IsToBegin lines x first → recovered c ≡ lines → d ≡ output → IsAppended lines first c → IsIntact c
    → IsNewOrAnswered all lines x sends number input output c d
begun_file all lines x first sends number input output c d is (inl none) same still (inl shut) intact =
    let new : IsNew c first = closed_new c first (subst (λ ls. HasClosedGate ls (length first) c) none.0 shut) in
    inl (record { none = none.0; is_new = subst (λ f. IsNew c f) none.1 new; silent = still })
begun_file all lines x first sends number input output c d is (inl none) same still (inr whole) intact =
    let lines_are : recovered c ≡ journal_of x =
    ap recovered whole ∙ ap (λ ls. recovered (at_rest (ls ++ recovered first))) none.0 ∙ rest_is first
    ∙ sym (ap (λ ls. ls ++ recovered first) none.0) ∙ is.whole in
    inr (no_turn all x sends number input output c d lines_are intact (silent output sends d still))
begun_file all lines x first sends number input output c d is (inr whole) same still appended intact =
    inr (no_turn all x sends number input output c d (same ∙ whole.0) intact (silent output sends d still))

-- and while what is sent again goes out, no turn is made
pub begun : (all : Bool) (lines : List (List ℕ)) (x : SeenAsked) (first sends reply : List ℕ) (number : ℕ)
    (input : Option (List ℕ)) (output c d : List ℕ)
    → Begins lines x first → reply ≡ sends → IsDurable lines (recovered first) output reply c d
    → IsAppended lines first c → IsIntact c → IsNewOrAnswered all lines x sends number input output c d
begun all lines x first sends reply number input output c d is same (inl at) appended intact =
    begun_file all lines x first sends number input output c d is is.begin at.0 at.1 appended intact
begun all lines x first sends reply number input output c d is same (inr at) appended intact =
    inr (no_turn all x sends number input output c d (at.0 ∙ is.whole) intact (subst (λ l. AddsPrefix output l d) same at.1))

-- turns after what was sent again
pub answered : (all : Bool) (lines : List (List ℕ)) (x : SeenAsked) (sends : List ℕ) (number : ℕ)
    (input : Option (List ℕ)) (output : List ℕ)
    (mid : List (List ℕ)) (so_far c d : List ℕ) → journal_of x ≡ mid → so_far ≡ output ++ sends
    → IsRunOfTurns (SiteAnswers all) number input x mid so_far c d → IsIntact c → IsNewOrAnswered all lines x sends number input output c d
answered all lines x sends number input output mid so_far c d same said run intact =
    let run : IsRunOfTurns (SiteAnswers all) number input x (journal_of x) (output ++ sends) c d =
    subst (λ l. IsRunOfTurns (SiteAnswers all) number input x (journal_of x) l c d) said
    (subst (λ ls. IsRunOfTurns (SiteAnswers all) number input x ls so_far c d) (sym same) run) in
    inr (record {
      turns = run.turns;
      are = run.are;
      in_order = run.in_order;
      lines_are = run.lines_are;
      intact = intact;
      output_is = further output sends (texts run.turns) d run.output_is;
    })

-- all turns of a run, after what was sent again
pub all_answered : (all : Bool) (x : SeenAsked) (sends : List ℕ) (number : ℕ) (input left : Option (List ℕ))
    (output : List ℕ) (now : List (List ℕ))
    (said : List ℕ) (mid : List (List ℕ)) (so_far : List ℕ) (ended : Result ℕ ServeFault) → journal_of x ≡ mid → so_far ≡ output ++ sends
    → (turns : List (Turn SeenAsked)) × IsPutOut (SiteAnswers all) x mid so_far turns now said
    × EndsAs number turns input left ended
    → AnswersAll all x sends number input left output now said ended
all_answered all x sends number input left output now said mid so_far ended same is (turns, put, ends) = record {
  turns = turns;
  put = subst (λ l. IsPutOut (SiteAnswers all) x (journal_of x) l turns now said) is
      (subst (λ ls. IsPutOut (SiteAnswers all) x ls so_far turns now said) (sym same) put);
  ends = ends;
}

-- the same lines and output at the start
pub from_same : (all : Bool) (lines : List (List ℕ)) (x : SeenAsked) (sends : List ℕ) (number : ℕ)
    (input : Option (List ℕ)) (output : List ℕ)
    (mid : List (List ℕ)) (so_far c d : List ℕ) → mid ≡ lines → so_far ≡ output → IsNewOrAnswered all mid x sends number input so_far c d
    → IsNewOrAnswered all lines x sends number input output c d
from_same all lines x sends number input output mid so_far c d same said run =
    subst (λ l. IsNewOrAnswered all lines x sends number input l c d) said
    (subst (λ ls. IsNewOrAnswered all ls x sends number input so_far c d) same run)

-- only a failed journal is reported as one
pub only_journal : (f : ServeFault) → fault_of_serve f ≡ DiskFailed → f ≡ JournalStopped
only_journal Read is = absurd (cc is)
only_journal Write is = absurd (cc is)
only_journal JournalStopped is = refl
only_journal OutOfMemory is = absurd (cc is)
