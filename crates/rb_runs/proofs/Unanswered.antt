-- How a run over lines that answers none of them stops.
use Rattle.rb_runs.proofs.Words.{◌≡◌, ◌≢◌, ◌+◌, ℕ, List, [], ◌∷◌, ◌++◌, Option, Some, None, Result, Ok, Err, refl, sym, ap, ◌∙◌, arith}
use Rattle.rb_runs.proofs.Words.{append-nil, subst, true, false, Bool, ◌↔◌, IfSome, false≢true, IfSome_then, IsSilent, IsUnfinished}
use Rattle.rb_runs.proofs.Words.{LinesOutcome, RunEndsAs, after_text, lines_of, whole_lines, ScriptFault, NoConfig, Read, Write}
use Rattle.rb_runs.proofs.Words.{OutOfMemory, Gather, Input, EndsSilently, HasInput, IsUnfinishedInput, StopsUnwritten, input_outcome}
use Rattle.rb_runs.proofs.Words.{unanswered, TakesLine, first_lines, lines_state}
use Rattle.rb_runs.specs.declared.lines.Lines.{Lines}

-- no text comes before what is to come, and no line is counted
pub nothing : (o : LinesOutcome) → after_text [] 0 o ≡ o
nothing o = let none : 0 + o.count ≡ o.count = omega arith in ap (λ n. record { text = o.text; count = n; fault = o.fault }) none

-- a line that makes what the lines after it make is taken, and isn't answered
pub taken_unanswered : {S : Type 0} (made : Option S → ℕ → List (List ℕ) → Result Input ScriptFault) (old new : Option S) (l : List ℕ)
    → ((n : ℕ) (ls : List (List ℕ)) → made old n (l ∷ ls) ≡ made new (n + 1) ls)
    → (buffered : List ℕ) → (text : List ℕ) × (buffered ≡ buffered ++ text) × TakesLine (unanswered made) made old new l text 0
taken_unanswered made old new l same buffered = (
  [],
  sym (append-nil buffered),
  record {
    follows = λ n ls. ap input_outcome (same n ls) ∙ sym (nothing (input_outcome (made new (n + 1) ls)));
    makes = same;
    one = omega arith;
  },
)

-- no line is answered
pub no_text : (r : Result Input ScriptFault) → (input_outcome r).text ≡ []
no_text (Ok x) = refl
no_text (Err f) = refl

-- ---- how the lines end

module _ {S M : Type 0} (rest : Option S → ℕ → List (List ℕ) → LinesOutcome) (made : Option S → ℕ → List (List ℕ) → M) (s : Lines S)
    (first : s ≡ first_lines) where
  -- if no line has an answer, none has before the first line
  pub is_silent : ((ls : List (List ℕ)) → (rest None 1 ls).text ≡ []) → IsSilent (lines_state rest s)
  is_silent none = subst (λ (q : Lines S). IsSilent (lines_state rest q)) (sym first) none

  -- all lines were taken
  pub all_taken : (a b : Option (List ℕ)) (n : ℕ) (text : List ℕ) (new : Lines S) (o : Option S) → o ≡ new.opened
      → IfSome a (λ input. RunEndsAs (lines_state rest s).rest (Ok n) input b text)
      → IfSome a (λ input. made s.opened s.number (lines_of input) ≡ made new.opened new.number [])
      → IfSome a (λ input. EndsSilently rest made (Ok o) input b)
  all_taken None b n text new o is h k = tt
  all_taken (Some input) b n text new o is h k = (
    h.1,
    new.number,
    ap (λ (q : Lines S). made q.opened q.number (lines_of input)) (sym first) ∙ k ∙ ap (λ p. made p new.number []) (sym is),
  )

  -- the run stopped
  pub stopped_at : (a b : Option (List ℕ)) (f : ScriptFault) (text : List ℕ)
      → IfSome a (λ input. RunEndsAs (lines_state rest s).rest (Err f) input b text)
      → IfSome a (λ input. EndsSilently rest made (Err f) input b)
  stopped_at None b f text h = tt
  stopped_at (Some input) b f text h =
      (text, subst (λ (q : Lines S). RunEndsAs (lines_state rest q).rest (Err f) input b text) first h)

-- ---- what is said of the input; `made` is what its lines say

fault_of : (r : Result Input ScriptFault) (f : ScriptFault) → (input_outcome r).fault ≡ Some f → r ≡ Err f
fault_of (Ok x) f e = absurd (cc e)
fault_of (Err g) f e = cc

unfinished_of : (r : Result Input ScriptFault) → IsUnfinished (input_outcome r).fault → IsUnfinishedInput r
unfinished_of (Ok x) u = tt
unfinished_of (Err NoConfig) u = tt
unfinished_of (Err _) u = absurd u

module _ {S : Type 0} (made : Option S → ℕ → List (List ℕ) → Result Input ScriptFault) where
  stops : (f : ScriptFault) (input : List ℕ) (left : Option (List ℕ)) (text : List ℕ) → f ≢ Write
      → RunEndsAs (unanswered made None 1) (Err f) input left text → StopsUnwritten (made None 1) f input left []
  stops Read input left text not (behind, is, answered) = (
    behind,
    is,
    record {
      taken = answered.taken;
      whole = answered.whole;
      unfinished = unfinished_of (made None 1 (whole_lines answered.taken)) answered.unfinished;
    },
    refl,
  )
  stops Write input left text not h = absurd (not refl)
  stops OutOfMemory input left text not h = refl
  stops Gather input left text not h = absurd h
  stops f input left text not h = (fault_of (made None 1 (lines_of input)) f h.fault_is, refl)

  -- the run stopped as what its lines say has it
  pub stopped : (a b : Option (List ℕ)) (f : ScriptFault) → f ≢ Write
      → IfSome a (λ input. EndsSilently (unanswered made) made (Err f) input b)
      → IfSome a (λ input. StopsUnwritten (made None 1) f input b [])
  stopped a b f not h = IfSome_then a h (λ input e. stops f input b e.0 not e.1)

  -- all lines were taken, and this is the input that they made
  pub has_input : (a b : Option (List ℕ)) (o : Option S) (x : S) (y : Input) → o ≡ Some x → ((n : ℕ) → made (Some x) n [] ≡ Ok y)
      → IfSome a (λ input. EndsSilently (unanswered made) made (Ok o) input b) → IfSome a (λ input. HasInput (made None 1) y input b)
  has_input a b o x y there is h =
      IfSome_then a h (λ input e. (e.2 ∙ ap (λ p. made p e.1 []) there ∙ is e.1, e.0))

-- one failure is for one reason
pub same_reason : {A E : Type 0} (d e : E) → ◌≡◌ {A = Result A E} (Err d) (Err e) → d ≡ e
same_reason d e same = cc

-- a run that answers no line has no failed write
pub no_write : {A B : Type 0} (f : ScriptFault) (r : Result A ScriptFault) (failed : Bool) → r ≡ Err f
    → (◌≡◌ {A = Result B ScriptFault} (Err f) (Err Write) → ⊥) → failed ≡ false → (r ≡ Err Write) ↔ (failed ≡ true)
no_write f r failed is not fresh = (
  λ e. absurd (not (ap Err (same_reason f Write (sym is ∙ e)))),
  λ t. absurd (false≢true (sym fresh ∙ t)),
)
