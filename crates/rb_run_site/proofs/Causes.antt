-- Why a site isn't opened.
use Rattle.std.proofs.Common.{◌≡◌, ◌<◌, ◌≤◌, ◌+◌, ◌⊎◌, ℕ, Bool, true, false, List, ◌∷◌, ◌++◌, length, take, drop, Option, Some, None}
use Rattle.std.proofs.Common.{Err, sym, ap, ◌∙◌, inl, inr}
use Rattle.std.specs.Prelude.{IfSome}
use Rattle.std.specs.Io.KnownBytes.{IsAtEnd}
use Rattle.rb_lines.specs.Lines.{is_blank, line_len, lines_of}
use Rattle.rb_run_site.specs.Faults.{IsFirstLineFault}
use Rattle.rb_run_site.specs.FirstLines.{FindsFirst, IsBehindBlanks, WaitsAt}
use Rattle.rb_run_site.specs.Openings.{EndsNode, EndsOpening, EndsOver, IsOpeningCause}
use Rattle.rb_run_site.specs.declared.fault.SiteFault.{SiteFault}
use Rattle.rb_run_site.specs.declared.fault.SiteFault.TheVariants.{NoConfig, BadConfig, NoSite, AnotherJournal, BadEntry, WrongReply}
use Rattle.rb_run_site.specs.declared.fault.SiteFault.TheVariants.{Damaged, LongLine, Read, OutOfMemory, Sealed}
use Rattle.rb_run_site.proofs.Configured.{next_line}

-- what waits at the front is the input's first line
pub first_line_is : (input left : Option (List ℕ)) (number : ℕ) (p : List ℕ) (e : Bool) (n : ℕ) → IfSome input (WaitsAt number p left)
    → n ≡ line_len p → n ≤ length p → (n < length p) ⊎ ((n ≡ length p) × (0 < n) × (e ≡ true)) → (e ≡ true → IsAtEnd left)
    → IfSome input (λ all. (later : List (List ℕ)) × IsBehindBlanks number (take n p ∷ later) all)
first_line_is None left number p e n w len fits at_front end = tt
first_line_is (Some all) None number p e n w len fits at_front end = absurd (cc w.left_is)
first_line_is (Some all) (Some rest) number p e n w len fits at_front end =
    let same : rest ≡ w.rest = cc w.left_is in (
      lines_of (drop (n + 1) p ++ rest),
      record {
        blanks = w.behind.blanks;
        are_blank = w.behind.are_blank;
        number_is = w.behind.number_is;
        whole = w.behind.whole ∙ ap (λ r. w.behind.blanks ++ lines_of (p ++ r)) (sym same)
            ∙ ap (λ ls. w.behind.blanks ++ ls) (next_line p rest e n len fits at_front end);
      },
    )

-- no first line was found
pub first_cause : (me : ℕ) (bank : List ℕ) (input left : Option (List ℕ)) (file pending : List ℕ) (why : SiteFault) → IsFirstLineFault why
    → IfSome input (λ all. FindsFirst (Err why) all pending left) → IsOpeningCause me bank input left file why
first_cause me bank None left file p NoConfig is found = tt
first_cause me bank (Some all) left file p NoConfig is found = found.0
first_cause me bank input left file p (LongLine k) is found = found
first_cause me bank input left file p Read is found = found
first_cause me bank input left file p OutOfMemory is found = tt
first_cause me bank input left file p _ is found = absurd is

module _ (me : ℕ) (bank : List ℕ) (input left : Option (List ℕ)) (file : List ℕ) (number : ℕ) (line : List ℕ)
    (some : is_blank line ≡ false)
    (first : IfSome input (λ all. (later : List (List ℕ)) × IsBehindBlanks number (line ∷ later) all)) where
  -- the line is no configuration, or has no such site
  pub node_cause : (why : SiteFault) → EndsNode line number me why → IsOpeningCause me bank input left file why
  node_cause (BadConfig n) ends = record { number = number; line = line; some = some; first = first; holds = ends }
  node_cause NoSite ends = record { number = number; line = line; some = some; first = first; holds = ends }
  node_cause OutOfMemory ends = tt
  node_cause _ ends = absurd ends

  -- the file isn't replayed
  pub file_cause : (why : SiteFault) → EndsOpening me bank file why number line → IsOpeningCause me bank input left file why
  file_cause AnotherJournal ends = record { number = number; line = line; some = some; first = first; holds = ends }
  file_cause (BadEntry n) ends = record { number = number; line = line; some = some; first = first; holds = ends }
  file_cause (WrongReply n) ends = record { number = number; line = line; some = some; first = first; holds = ends }
  file_cause (Damaged n) ends = record { number = number; line = line; some = some; first = first; holds = ends }
  file_cause Sealed ends = ends.3
  file_cause OutOfMemory ends = tt
  file_cause _ ends = absurd ends.3

  -- the line is at fault, or the file
  pub over_cause : (why : SiteFault) → EndsOver me bank file number line why → IsOpeningCause me bank input left file why
  over_cause why (inl ends) = node_cause why ends
  over_cause why (inr ends) = file_cause why ends
