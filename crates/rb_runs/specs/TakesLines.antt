-- The types that take the lines of a run. `rest` is what lines come to and `made` what they make, the first of which is
-- line n: before the configuration, at None, and once it opened a value.
use Rattle.std.specs.Prelude.{◌≡◌, ◌≤◌, ◌+◌, ℕ, List, [], ◌∷◌, Option, Some, None, true, false}
use Rattle.std.proofs.Common.{ap, subst, sym}
use Rattle.rb_lines.specs.Answers.{IsRunState, IsUnfinished, LinesOutcome, RunState, after_text, no_outcome}
use Rattle.rb_lines.specs.Lines.{is_blank, is_long}
use Rattle.rb_lines.specs.declared.fault.ScriptFault.{ScriptFault}
use Rattle.rb_lines.specs.declared.fault.ScriptFault.TheVariants.{LongLine, NoConfig}
use Rattle.rb_runs.specs.declared.lines.Lines.{Lines}

-- lines make nothing beside their answers
abbrev pub makes_nothing : {S : Type 0} → Option S → ℕ → List (List ℕ) → Unit {0}
makes_nothing o n ls = tt

-- whatever lines follow, the line is answered by this text, one answer or none, and what follows is what is to come
pub record TakesLine {S M : Type 0} (rest : Option S → ℕ → List (List ℕ) → LinesOutcome)
    (made : Option S → ℕ → List (List ℕ) → M) (old new : Option S) (l text : List ℕ) (answers : ℕ) : Type 0 where
  pub follows : (n : ℕ) (ls : List (List ℕ)) → rest old n (l ∷ ls) ≡ after_text text answers (rest new (n + 1) ls)
  pub makes : (n : ℕ) (ls : List (List ℕ)) → made old n (l ∷ ls) ≡ made new (n + 1) ls
  pub one : answers ≤ 1

-- whatever lines follow, the run ends at the line, by this fault of its number
abbrev pub StopsAt : (ℕ → List (List ℕ) → LinesOutcome) → List ℕ → (ℕ → ScriptFault) → Type 0
StopsAt rest l fault = (n : ℕ) (ls : List (List ℕ)) → rest n (l ∷ ls) ≡ no_outcome (fault n)

-- whatever takes lines: one that is too long ends the run, a blank one is skipped, and the end is no text
pub record TakesAll {S M : Type 0} (rest : Option S → ℕ → List (List ℕ) → LinesOutcome)
    (made : Option S → ℕ → List (List ℕ) → M) : Type 0 where
  pub long : (o : Option S) (l : List ℕ) → is_long l ≡ true → StopsAt (rest o) l (λ n. LongLine n)
  pub blank : (o : Option S) (n : ℕ) (l : List ℕ) (ls : List (List ℕ)) → is_long l ≡ false → is_blank l ≡ true
      → (rest o n (l ∷ ls) ≡ rest o (n + 1) ls) × (made o n (l ∷ ls) ≡ made o (n + 1) ls)
  pub unopened : (n : ℕ) → rest None n [] ≡ no_outcome NoConfig
  pub ended : (s : S) (n : ℕ) → rest (Some s) n [] ≡ record { text = []; count = 0; fault = None }

-- before the first line
abbrev pub first_lines : {S : Type 0} → Lines S
first_lines = record { opened = None; number = 1; count = 0; why = None }

-- the state of a run
abbrev pub lines_state : {S : Type 0} → (Option S → ℕ → List (List ℕ) → LinesOutcome) → Lines S → RunState
lines_state rest s = record { rest = rest s.opened s.number; number = s.number; count = s.count }

-- so a line that is too long ends the run, and no line is no text and no bad line
pub lines_are_run : {S M : Type 0} (rest : Option S → ℕ → List (List ℕ) → LinesOutcome) (made : Option S → ℕ → List (List ℕ) → M)
    → TakesAll rest made → (s : Lines S) → IsRunState (lines_state rest s)
lines_are_run {S} rest made laws s = record {
  long = λ l ls long. laws.long s.opened l long s.number ls;
  no_text = empty s.opened;
  unfinished = unfinished s.opened;
}
  where
    empty : (o : Option S) → (rest o s.number []).text ≡ []
    empty None = ap (λ (r : LinesOutcome). r.text) (laws.unopened s.number)
    empty (Some x) = ap (λ (r : LinesOutcome). r.text) (laws.ended x s.number)

    unfinished : (o : Option S) → IsUnfinished (rest o s.number []).fault
    unfinished None = subst (λ (r : LinesOutcome). IsUnfinished r.fault) (sym (laws.unopened s.number)) tt
    unfinished (Some x) = subst (λ (r : LinesOutcome). IsUnfinished r.fault) (sym (laws.ended x s.number)) tt
