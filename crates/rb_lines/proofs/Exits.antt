-- The text that a run has written at its end, for a source whose bytes are known.
use Rattle.std.proofs.Common.{◌≡◌, ◌<◌, ◌≤◌, ◌+◌, ◌⊎◌, ℕ, Bool, true, false, List, [], ◌∷◌, ◌++◌, length, take, drop, Option, Some, None}
use Rattle.std.proofs.Common.{Result, Ok, Err, refl, sym, ap, ◌∙◌, rules, subst, append-nil, add-zero}
use Rattle.std.specs.Prelude.{IfSome}
use Rattle.std.specs.Io.KnownBytes.{IsAtEnd}
use Rattle.rb_lines.specs.Answers.{AnswersLine, RunEndsAs, EndsAtLine, IsFaulty, EndsWith, IsRunState, IsUnfinished, LinesOutcome, RunState}
use Rattle.rb_lines.specs.Answers.{after_text, no_outcome}
use Rattle.rb_lines.specs.declared.fault.ScriptFault.{ScriptFault}
use Rattle.rb_lines.specs.declared.fault.ScriptFault.TheVariants.{NoConfig, BadConfig, BadLine, LongLine, Read, Write, OutOfMemory, Gather}
use Rattle.rb_lines.specs.Writes.{IsFront}
use Rattle.rb_lines.specs.Buffers.{Reads}
use Rattle.rb_lines.specs.Lines.{lines_of, is_long, line_len}
use Rattle.rb_lines.specs.declared.limits.TheConstants.{LINE_LIMIT}
use Rattle.rb_lines.proofs.Follows.{Follows, Whole, at_start, after_read, after_line, at_end, at_first, at_rest}
use Rattle.rb_lines.proofs.Public.LongLines.{long_line}
use Rattle.rb_lines.proofs.Public.Walks.{line_at_front}

-- these lines were answered, and this is written, if the source's bytes are known
abbrev pub FollowsKnown : Whole → Option (List ℕ) → Option (List ℕ) → RunState → List ℕ → Bool → List ℕ → Type 0
FollowsKnown of None now s p e t = Unit {0}
FollowsKnown of (Some all) None s p e t = ⊥
FollowsKnown of (Some all) (Some rest) s p e t = Follows of all s p rest e t

-- at first no line was answered
pub known_start : (a : Option (List ℕ)) (s : RunState) (p : List ℕ) (e : Bool) → s.count ≡ 0 → p ≡ [] → e ≡ false
    → FollowsKnown s.rest a a s p e []
known_start None s p e none empty going = tt
known_start (Some all) s p e none empty going =
    subst (λ q. Follows s.rest all s q all e []) (sym empty)
    (subst (λ d. Follows s.rest all s [] all d []) (sym going) (at_start all s none))

-- bytes more were read
pub known_read : (of : Whole) (a b b' : Option (List ℕ)) (s : RunState) (p p' : List ℕ) (e e' : Bool) (t : List ℕ)
    → FollowsKnown of a b s p e t → Reads p p' b b' → (e' ≡ false → e ≡ false) → FollowsKnown of a b' s p' e' t
known_read of None b b' s p p' e e' t f r was = tt
known_read of (Some all) None b' s p p' e e' t f r was = absurd f
known_read of (Some all) (Some x) None s p p' e e' t f r was = absurd r.2
known_read of (Some all) (Some x) (Some y) s p p' e e' t f r was = after_read of all s p p' x y e e' t f r was

-- the line at the front was answered
pub known_line : (of : Whole) (a b : Option (List ℕ)) (s s' : RunState) (p : List ℕ) (e : Bool) (t t' : List ℕ) (n : ℕ)
    → FollowsKnown of a b s p e t → n ≡ line_len p → n ≤ length p
    → (n < length p) ⊎ ((n ≡ length p) × (0 < n) × (e ≡ true)) → (e ≡ true → IsAtEnd b) → AnswersLine s s' (take n p) t'
    → FollowsKnown of a b s' (drop (n + 1) p) e (t ++ t')
known_line of None b s s' p e t t' n f len fits st end ans = tt
known_line of (Some all) None s s' p e t t' n f len fits st end ans = absurd f
known_line of (Some all) (Some x) s s' p e t t' n f len fits st end ans = after_line of all s s' p x e t t' n f len fits st end ans

-- ---- the ends

faulty : (whole : LinesOutcome) (t : List ℕ) (n : ℕ) (f : ScriptFault) (o : LinesOutcome) → whole ≡ after_text t n o → o ≡ no_outcome f
    → IsFaulty whole t f
faulty whole t n f o e is = let all = e ∙ ap (after_text t n) is in record {
  text_is = ap (λ (x : LinesOutcome). x.text) all ∙ append-nil t;
  fault_is = ap (λ (x : LinesOutcome). x.fault) all;
}

-- the next line is too long
pub known_long : (of : Whole) (a b : Option (List ℕ)) (s : RunState) (p : List ℕ) (e : Bool) (t : List ℕ) → FollowsKnown of a b s p e t
    → LINE_LIMIT < line_len p → IsRunState s
    → IfSome a (λ input. IsFaulty (of (lines_of input)) t (LongLine s.number))
known_long of None b s p e t f h is = tt
known_long of (Some all) None s p e t f h is = absurd f
known_long of (Some all) (Some x) s p e t f h is =
    let (l, more, first, longer) = long_line p x LINE_LIMIT h in
    let long : is_long l ≡ true = search rules in
    faulty (of (lines_of all)) t s.count (LongLine s.number) _ (at_first of all s p x e t l more f first) (is.long l more long)

front : (whole : LinesOutcome) (t : List ℕ) (n : ℕ) (o : LinesOutcome) → whole ≡ after_text t n o → IsFront t whole.text
front whole t n o e = (o.text, ap (λ (x : LinesOutcome). x.text) e)

-- what is written so far is a prefix of what all lines come to
pub known_front : (of : Whole) (a b : Option (List ℕ)) (s : RunState) (p : List ℕ) (e : Bool) (t : List ℕ) → FollowsKnown of a b s p e t
    → IfSome a (λ input. IsFront t (of (lines_of input)).text)
known_front of None b s p e t f = tt
known_front of (Some all) None s p e t f = absurd f
known_front of (Some all) (Some x) s p e t f = front (of (lines_of all)) t s.count _ (ap of f.walks.lines ∙ f.outcome (lines_of (p ++ x)))

-- no more is read
pub known_stop : (of : Whole) (a b : Option (List ℕ)) (s : RunState) (p : List ℕ) (e : Bool) (t : List ℕ) → FollowsKnown of a b s p e t
    → e ≡ false → line_len p ≡ length p → IsRunState s
    → IfSome a (λ input. RunEndsAs of (Err Read) input b t)
known_stop of None b s p e t f going none is = tt
known_stop of (Some all) None s p e t f going none is = absurd f
known_stop of (Some all) (Some x) s p e t f going none is =
    let whole = at_rest of all s p x e t f going none in (
      x,
      refl,
      record {
        taken = f.walks.got;
        whole = f.walks.bytes;
        text_is = ap (λ (o : LinesOutcome). o.text) whole ∙ ap (λ y. t ++ y) is.no_text ∙ append-nil t;
        unfinished = subst IsUnfinished (sym (ap (λ (o : LinesOutcome). o.fault) whole)) is.unfinished;
      },
    )

whole_end : (of : Whole) (all : List ℕ) (s : RunState) (t : List ℕ) → of (lines_of all) ≡ after_text t s.count (s.rest [])
    → s.rest [] ≡ record { text = []; count = 0; fault = None }
    → of (lines_of all) ≡ record { text = t; count = s.count; fault = None }
whole_end of all s t whole is =
    whole ∙ ap (after_text t s.count) is ∙ ap (λ y. record { text = y; count = s.count + 0; fault = None }) (append-nil t)
    ∙ ap (λ n. record { text = t; count = n; fault = None }) (add-zero s.count)

-- the result at the end of the source
at_the_end : (of : Whole) (all : List ℕ) (b : Option (List ℕ)) (s : RunState) (t : List ℕ) (r : Result ℕ ScriptFault)
    → of (lines_of all) ≡ after_text t s.count (s.rest []) → b ≡ Some [] → EndsWith s r
    → RunEndsAs of r all b t
at_the_end of all b s t (Ok n) whole end (many, is) =
    subst (λ m. RunEndsAs of (Ok m) all b t) (sym many) (whole_end of all s t whole is, end)
at_the_end of all b s t (Err f) whole end (unconfigured, is) =
    subst (λ g. RunEndsAs of (Err g) all b t) (sym unconfigured) (faulty (of (lines_of all)) t s.count NoConfig _ whole is)

-- the result if there are no more lines
pub known_end : (of : Whole) (a b : Option (List ℕ)) (s : RunState) (p : List ℕ) (e : Bool) (t : List ℕ) (r : Result ℕ ScriptFault)
    → FollowsKnown of a b s p e t → p ≡ [] → IsAtEnd b → EndsWith s r
    → IfSome a (λ input. RunEndsAs of r input b t)
known_end of None b s p e t r f none end is = tt
known_end of (Some all) None s p e t r f none end is = absurd f
known_end of (Some all) (Some x) s p e t r f none end is =
    at_the_end of all (Some x) s t r (at_end of all s p x e t f none end) (ap Some end) is

-- the result of a line at which a run ends
at_fault : (of : Whole) (all : List ℕ) (b : Option (List ℕ)) (s : RunState) (t l : List ℕ) (more : List (List ℕ)) (f : ScriptFault)
    → of (lines_of all) ≡ after_text t s.count (s.rest (l ∷ more)) → EndsAtLine s l f
    → RunEndsAs of (Err f) all b t
at_fault of all b s t l more (BadConfig n) e h = faulty (of (lines_of all)) t s.count (BadConfig n) _ e (h more)
at_fault of all b s t l more (BadLine n) e h = faulty (of (lines_of all)) t s.count (BadLine n) _ e (h more)
at_fault of all b s t l more OutOfMemory e h = front (of (lines_of all)) t s.count _ e
at_fault of all b s t l more NoConfig e h = absurd h
at_fault of all b s t l more (LongLine n) e h = absurd h
at_fault of all b s t l more Read e h = absurd h
at_fault of all b s t l more Write e h = absurd h
at_fault of all b s t l more Gather e h = absurd h

-- the result of a run that ends at the line at the front
pub known_fault : (of : Whole) (a b : Option (List ℕ)) (s : RunState) (p : List ℕ) (e : Bool) (t : List ℕ) (n : ℕ) (f : ScriptFault)
    → FollowsKnown of a b s p e t → n ≡ line_len p → n ≤ length p
    → (n < length p) ⊎ ((n ≡ length p) × (0 < n) × (e ≡ true)) → (e ≡ true → IsAtEnd b) → EndsAtLine s (take n p) f
    → IfSome a (λ input. RunEndsAs of (Err f) input b t)
known_fault of None b s p e t n f k len fits st end h = tt
known_fault of (Some all) None s p e t n f k len fits st end h = absurd k
known_fault of (Some all) (Some x) s p e t n f k len fits st end h =
    let first = line_at_front p x e n len fits st end in
    at_fault of all (Some x) s t (take n p) first.0 f (at_first of all s p x e t (take n p) first.0 k first.1) h
