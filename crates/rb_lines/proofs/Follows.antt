-- The state of a run over lines that are answered, between two of them.
use Rattle.std.proofs.Common.{◌≡◌, ◌<◌, ◌≤◌, ◌+◌, ◌-◌, ◌⊎◌, ℕ, Bool, true, false, List, [], ◌∷◌, ◌++◌, length, take, drop, sym, ap, ◌∙◌}
use Rattle.std.proofs.Common.{arith, append-nil, append_assoc, zero-add}
use Rattle.rb_lines.specs.Lines.{lines_of, whole_lines, line_len}
use Rattle.rb_lines.proofs.Public.Walks.{Walks}
use Rattle.rb_lines.proofs.Public.Walks as walk
use Rattle.rb_lines.specs.Answers.{AnswersLine, LinesOutcome, RunState, after_text}

-- what lines come to
abbrev pub Whole : Type 0
Whole = List (List ℕ) → LinesOutcome

-- these lines were answered, and this is written
pub record Follows (of : Whole) (all : List ℕ) (s : RunState) (pending rest : List ℕ) (ended : Bool) (text : List ℕ) : Type 0 where
  pub done : List (List ℕ)
  pub walks : Walks all done pending rest ended
  pub outcome : (ls : List (List ℕ)) → of (done ++ ls) ≡ after_text text s.count (s.rest ls)

nothing_yet : (n : ℕ) (o : LinesOutcome) → n ≡ 0 → o ≡ after_text [] n o
nothing_yet n o none =
    ap (λ m. record { text = o.text; count = m; fault = o.fault }) (sym (zero-add o.count) ∙ ap (λ m. m + o.count) (sym none))

-- at first no line was answered
pub at_start : (all : List ℕ) (s : RunState) → s.count ≡ 0 → Follows s.rest all s [] all false []
at_start all s none = record {
  done = [];
  walks = walk.at_start all;
  outcome = λ ls. nothing_yet s.count (s.rest ls) none;
}

-- bytes more were read: no line more was answered
pub after_read : (of : Whole) (all : List ℕ) (s : RunState) (p p' r r' : List ℕ) (e e' : Bool) (t : List ℕ) → Follows of all s p r e t
    → (more : List ℕ) × (p' ≡ p ++ more) × (r ≡ more ++ r') → (e' ≡ false → e ≡ false) → Follows of all s p' r' e' t
after_read of all s p p' r r' e e' t f more was =
    record { done = f.done; walks = walk.after_read all f.done p p' r r' e e' f.walks more was; outcome = f.outcome }

twice : (t t' : List ℕ) (m n : ℕ) (o : LinesOutcome) → m ≤ n → after_text t m (after_text t' (n - m) o) ≡ after_text (t ++ t') n o
twice t t' m n o h =
    let count : m + ((n - m) + o.count) ≡ n + o.count = omega arith in
    ap (λ c. record { text = t ++ (t' ++ o.text); count = c; fault = o.fault }) count
    ∙ ap (λ x. record { text = x; count = n + o.count; fault = o.fault }) (sym (append_assoc t t' o.text))

said : (of : Whole) (done : List (List ℕ)) (l t t' : List ℕ) (s s' : RunState)
    → ((ls : List (List ℕ)) → of (done ++ ls) ≡ after_text t s.count (s.rest ls)) → AnswersLine s s' l t'
    → (ls : List (List ℕ)) → of ((done ++ l ∷ []) ++ ls) ≡ after_text (t ++ t') s'.count (s'.rest ls)
said of done l t t' s s' before a ls =
    ap of (append_assoc done (l ∷ []) ls) ∙ before (l ∷ ls) ∙ ap (after_text t s.count) (a.follows ls)
    ∙ twice t t' s.count s'.count (s'.rest ls) a.count

-- the line at the front was answered: its text comes at the end
pub after_line : (of : Whole) (all : List ℕ) (s s' : RunState) (p r : List ℕ) (e : Bool) (t t' : List ℕ) (n : ℕ) → Follows of all s p r e t
    → n ≡ line_len p → n ≤ length p
    → (n < length p) ⊎ ((n ≡ length p) × (0 < n) × (e ≡ true)) → (e ≡ true → r ≡ []) → AnswersLine s s' (take n p) t'
    → Follows of all s' (drop (n + 1) p) r e (t ++ t')
after_line of all s s' p r e t t' n f len fits at_front end a = record {
  done = f.done ++ take n p ∷ [];
  walks = walk.after_line all f.done p r e n f.walks len fits at_front end;
  outcome = said of f.done (take n p) t t' s s' f.outcome a;
}

-- the lines of a run are those that were answered and these: what is left is what these come to
outcome_of : (of : Whole) (done ls : List (List ℕ)) (s : RunState) (t : List ℕ) (all : List (List ℕ))
    → ((more : List (List ℕ)) → of (done ++ more) ≡ after_text t s.count (s.rest more)) → all ≡ done ++ ls
    → of all ≡ after_text t s.count (s.rest ls)
outcome_of of done ls s t all outcome e = ap of e ∙ outcome ls

-- nothing is left: these were all lines
pub at_end : (of : Whole) (all : List ℕ) (s : RunState) (p r : List ℕ) (e : Bool) (t : List ℕ) → Follows of all s p r e t → p ≡ [] → r ≡ []
    → of (lines_of all) ≡ after_text t s.count (s.rest [])
at_end of all s p r e t f none end =
    outcome_of of f.done [] s t _ f.outcome (walk.at_end all f.done p r e f.walks none end ∙ sym (append-nil f.done))

-- whatever the first of the lines to come, it is the next
pub at_first : (of : Whole) (all : List ℕ) (s : RunState) (p r : List ℕ) (e : Bool) (t l : List ℕ) (more : List (List ℕ))
    → Follows of all s p r e t → lines_of (p ++ r) ≡ l ∷ more
    → of (lines_of all) ≡ after_text t s.count (s.rest (l ∷ more))
at_first of all s p r e t l more f first = outcome_of of f.done (l ∷ more) s t _ f.outcome (f.walks.lines ∙ ap (λ x. f.done ++ x) first)

-- no whole line waits: what was read is answered
pub at_rest : (of : Whole) (all : List ℕ) (s : RunState) (p r : List ℕ) (e : Bool) (t : List ℕ) → (f : Follows of all s p r e t) → e ≡ false
    → line_len p ≡ length p
    → of (whole_lines f.walks.got) ≡ after_text t s.count (s.rest [])
at_rest of all s p r e t f going none =
    outcome_of of f.done [] s t _ f.outcome (walk.at_rest all f.done p r e f.walks going none ∙ sym (append-nil f.done))
