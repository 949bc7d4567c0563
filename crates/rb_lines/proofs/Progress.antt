-- Bytes that went out and bytes that are buffered, together, as a run goes on.
use Rattle.std.proofs.Common.{◌≡◌, ◌≢◌, ◌<◌, ◌≤◌, ◌+◌, ◌⊎◌, ℕ, Bool, true, false, List, [], ◌++◌, length, take, drop, Option, Some, None}
use Rattle.std.proofs.Common.{Result, Err, refl, sym, ap, ◌∙◌, subst, append-nil, append_assoc}
use Rattle.std.specs.Prelude.{IfSome}
use Rattle.std.specs.Io.KnownBytes.{Appends, IsAtEnd}
use Rattle.std.proofs.KnownBytes.{Appends-nil, Appends-trans}
use Rattle.rb_lines.specs.Answers.{AnswersLine, EndsAtLine, EndsWith, IsRunState, RunEndsAs, RunWillEndAs, RunState}
use Rattle.rb_lines.specs.declared.fault.ScriptFault.{ScriptFault}
use Rattle.rb_lines.specs.declared.fault.ScriptFault.TheVariants.{LongLine, Read, Write, OutOfMemory}
use Rattle.rb_lines.specs.declared.no_line.NoLine.{NoLine}
use Rattle.rb_lines.specs.declared.no_line.NoLine.TheVariants.{TooLong, OutOfMemory as NoMemory, Read as NotRead, Write as NotWritten}
use Rattle.rb_lines.specs.Buffers.{Reads, Sends}
use Rattle.rb_lines.specs.Faults.{fault_at}
use Rattle.rb_lines.specs.Lines.{line_len, lines_of}
use Rattle.rb_lines.specs.declared.limits.TheConstants.{LINE_LIMIT}
use Rattle.rb_lines.specs.Writes.{AppendsFront, IsFront}
use Rattle.rb_lines.proofs.Exits.{FollowsKnown, known_end, known_fault, known_front, known_line, known_long, known_read, known_start}
use Rattle.rb_lines.proofs.Exits.{known_stop}
use Rattle.rb_lines.proofs.Follows.{Whole}

-- between two lines: the writer had w0 and has w, the reader had r0 and has r
abbrev pub IsAt : Whole → Option (List ℕ) → Option (List ℕ) → Option (List ℕ) → Option (List ℕ) → RunState → List ℕ → Bool → List ℕ → Type 0
IsAt of w0 w r0 r s p e buffered = (text : List ℕ) × Appends w0 w text × FollowsKnown of r0 r s p e (text ++ buffered)

-- at the end; some may still be buffered
abbrev pub IsOver : Whole → Option (List ℕ) → Option (List ℕ) → Option (List ℕ) → Option (List ℕ) → Result ℕ ScriptFault → List ℕ → Type 0
IsOver of w0 w r0 r result buffered = (text : List ℕ) × Appends w0 w text
    × IfSome r0 (λ input. RunWillEndAs of result input r (text ++ buffered))

both : (P Q : List ℕ → Type 0) (a : Option (List ℕ)) → IfSome a P → IfSome a Q → IfSome a (λ x. P x × Q x)
both P Q None p q = tt
both P Q (Some x) p q = (p, q)

-- ---- between two lines

-- at first nothing was read and nothing is buffered
pub starts : (w r : Option (List ℕ)) (s : RunState) (p : List ℕ) (e : Bool) (buffered : List ℕ) → s.count ≡ 0 → p ≡ [] → e ≡ false →
    buffered ≡ []
    → IsAt s.rest w w r r s p e buffered
starts w r s p e buffered none empty going nothing =
    ([], Appends-nil w, subst (λ t. FollowsKnown s.rest r r s p e t) (sym nothing) (known_start r s p e none empty going))

-- bytes more were read, and some of what was buffered went out
pub reads_on : (of : Whole) (w0 w w' r0 r r' : Option (List ℕ)) (s : RunState) (p p' : List ℕ) (e e' : Bool) (buffered buffered' : List ℕ)
    → IsAt of w0 w r0 r s p e buffered → Reads p p' r r' → (e' ≡ false → e ≡ false) → Sends w w' buffered buffered'
    → IsAt of w0 w' r0 r' s p' e' buffered'
reads_on of w0 w w' r0 r r' s p p' e e' buffered buffered' st read was sent = (
  st.0 ++ sent.0,
  Appends-trans w0 w w' st.0 sent.0 st.1 sent.1,
  subst (λ t. FollowsKnown of r0 r' s p' e' t) (ap (λ t. st.0 ++ t) sent.2 ∙ sym (append_assoc st.0 sent.0 buffered'))
      (known_read of r0 r r' s p p' e e' (st.0 ++ buffered) st.2 read was),
)

-- a line was answered
pub goes_on : (of : Whole) (w0 w r0 r : Option (List ℕ)) (s s' : RunState) (p : List ℕ) (e : Bool) (buffered buffered' : List ℕ) (n : ℕ)
    → IsAt of w0 w r0 r s p e buffered → n ≡ line_len p → n ≤ length p
    → (n < length p) ⊎ ((n ≡ length p) × (0 < n) × (e ≡ true)) → (e ≡ true → IsAtEnd r)
    → (text : List ℕ) × (buffered' ≡ buffered ++ text) × AnswersLine s s' (take n p) text →
    IsAt of w0 w r0 r s' (drop (n + 1) p) e buffered'
goes_on of w0 w r0 r s s' p e buffered buffered' n st len fits at_front end answered = (
  st.0,
  st.1,
  subst (λ t. FollowsKnown of r0 r s' (drop (n + 1) p) e t) (append_assoc st.0 buffered answered.0 ∙ ap (λ t. st.0 ++ t) (sym answered.1))
      (known_line of r0 r s s' p e (st.0 ++ buffered) answered.0 n st.2 len fits at_front end answered.2),
)

-- ---- the ends

with_front : (of : Whole) (w0 w r0 r : Option (List ℕ)) (s : RunState) (p : List ℕ) (e : Bool) (buffered : List ℕ)
    (result : Result ℕ ScriptFault)
    → (st : IsAt of w0 w r0 r s p e buffered) → IfSome r0 (λ input. RunEndsAs of result input r (st.0 ++ buffered))
    → IsOver of w0 w r0 r result buffered
with_front of w0 w r0 r s p e buffered result st ends = (st.0, st.1, both _ _ r0 ends (known_front of r0 r s p e (st.0 ++ buffered) st.2))

-- the next line is too long
ends_long : (of : Whole) (w0 w r0 r : Option (List ℕ)) (s : RunState) (p : List ℕ) (e : Bool) (buffered : List ℕ)
    → IsAt of w0 w r0 r s p e buffered → LINE_LIMIT < line_len p → IsRunState s
    → IsOver of w0 w r0 r (Err (LongLine s.number)) buffered
ends_long of w0 w r0 r s p e buffered st long is =
    with_front of w0 w r0 r s p e buffered (Err (LongLine s.number)) st (known_long of r0 r s p e (st.0 ++ buffered) st.2 long is)

-- no more is read
ends_unread : (of : Whole) (w0 w r0 r : Option (List ℕ)) (s : RunState) (p : List ℕ) (e : Bool) (buffered : List ℕ)
    → IsAt of w0 w r0 r s p e buffered → e ≡ false → line_len p ≡ length p → IsRunState s
    → IsOver of w0 w r0 r (Err Read) buffered
ends_unread of w0 w r0 r s p e buffered st going none is =
    with_front of w0 w r0 r s p e buffered (Err Read) st (known_stop of r0 r s p e (st.0 ++ buffered) st.2 going none is)

-- the line that is next ends the run
pub ends_at_fault : (of : Whole) (w0 w r0 r : Option (List ℕ)) (s : RunState) (p : List ℕ) (e : Bool) (buffered buffered' : List ℕ) (n : ℕ)
    (f : ScriptFault) → IsAt of w0 w r0 r s p e buffered → n ≡ line_len p → n ≤ length p
    → (n < length p) ⊎ ((n ≡ length p) × (0 < n) × (e ≡ true)) → (e ≡ true → IsAtEnd r) → (buffered' ≡ buffered) × EndsAtLine s (take n p) f
    → IsOver of w0 w r0 r (Err f) buffered'
ends_at_fault of w0 w r0 r s p e buffered buffered' n f st len fits at_front end (same, fault) =
    subst (λ o. IsOver of w0 w r0 r (Err f) o) (sym same)
    (with_front of w0 w r0 r s p e buffered (Err f) st (known_fault of r0 r s p e (st.0 ++ buffered) n f st.2 len fits at_front end fault))

-- there are no more lines
pub ends_here : (of : Whole) (w0 w r0 r : Option (List ℕ)) (s : RunState) (p : List ℕ) (e : Bool) (buffered : List ℕ)
    (result : Result ℕ ScriptFault) → IsAt of w0 w r0 r s p e buffered → p ≡ [] → IsAtEnd r
    → EndsWith s result → IsOver of w0 w r0 r result buffered
ends_here of w0 w r0 r s p e buffered result st none end is =
    with_front of w0 w r0 r s p e buffered result st (known_end of r0 r s p e (st.0 ++ buffered) result st.2 none end is)

twice : (of : Whole) (a : Option (List ℕ)) (text : List ℕ) → IfSome a (λ input. IsFront text (of (lines_of input)).text)
    → IfSome a (λ input. IsFront text (of (lines_of input)).text × IsFront text (of (lines_of input)).text)
twice of None text h = tt
twice of (Some x) text h = (h, h)

-- some of what was buffered before went out, and then there was no memory
ends_out_of_memory : (of : Whole) (w0 w w' r0 r r' : Option (List ℕ)) (s : RunState) (p : List ℕ) (e : Bool)
    (buffered buffered' : List ℕ)
    → IsAt of w0 w r0 r s p e buffered → Sends w w' buffered buffered' → IsOver of w0 w' r0 r' (Err OutOfMemory) buffered'
ends_out_of_memory of w0 w w' r0 r r' s p e buffered buffered' st sent = (
  st.0 ++ sent.0,
  Appends-trans w0 w w' st.0 sent.0 st.1 sent.1,
  twice of r0 ((st.0 ++ sent.0) ++ buffered')
      (subst (λ t. IfSome r0 (λ input. IsFront t (of (lines_of input)).text)) (ap (λ t. st.0 ++ t) sent.2
      ∙ sym (append_assoc st.0 sent.0 buffered')) (known_front of r0 r s p e (st.0 ++ buffered) st.2)),
)

-- a prefix of a prefix
shorter : (text buffered front rest whole : List ℕ) → IsFront (text ++ buffered) whole → buffered ≡ front ++ rest →
    IsFront (text ++ front) whole
shorter text buffered front rest whole h e = (
  rest ++ h.0,
  h.1 ∙ ap (λ t. (text ++ t) ++ h.0) e ∙ ap (λ t. t ++ h.0) (sym (append_assoc text front rest))
      ∙ append_assoc (text ++ front) rest h.0,
)

all_shorter : (of : Whole) (a : Option (List ℕ)) (text buffered front rest : List ℕ)
    → IfSome a (λ input. IsFront (text ++ buffered) (of (lines_of input)).text) → buffered ≡ front ++ rest
    → IfSome a (λ input. IsFront (text ++ front) (of (lines_of input)).text)
all_shorter of None text buffered front rest h e = tt
all_shorter of (Some x) text buffered front rest h e = shorter text buffered front rest _ h e

-- a write failed, and nothing is buffered any more
ends_unwritten : (of : Whole) (w0 w w' r0 r r' : Option (List ℕ)) (s : RunState) (p : List ℕ) (e : Bool) (buffered buffered' : List ℕ)
    → IsAt of w0 w r0 r s p e buffered → AppendsFront w w' buffered × (buffered' ≡ []) → IsOver of w0 w' r0 r' (Err Write) buffered'
ends_unwritten of w0 w w' r0 r r' s p e buffered buffered' st (front, nothing) = (
  st.0 ++ front.0,
  Appends-trans w0 w w' st.0 front.0 st.1 front.2,
  twice of r0 ((st.0 ++ front.0) ++ buffered')
      (subst (λ t. IfSome r0 (λ input. IsFront t (of (lines_of input)).text)) (sym (append-nil (st.0 ++ front.0))
      ∙ ap (λ t. (st.0 ++ front.0) ++ t) (sym nothing))
      (all_shorter of r0 st.0 buffered front.0 front.1.0 (known_front of r0 r s p e (st.0 ++ buffered) st.2) front.1.1)),
)

-- there is no next line, for one of the reasons
pub ends_no_line : {X : Type 0} (of : Whole) (w0 w w' r0 r r' : Option (List ℕ)) (s : RunState) (p p' : List ℕ) (e e' : Bool)
    (buffered buffered' : List ℕ) (why : NoLine) → IsAt of w0 w r0 r s p e buffered → IsRunState s
    → (why ≢ NoMemory → Reads p p' r r') → (e' ≡ false → e ≡ false) → (why ≢ NotWritten → Sends w w' buffered buffered')
    → (why ≡ TooLong → LINE_LIMIT < line_len p') → (why ≡ NotRead → (e' ≡ false) × (line_len p' ≡ length p') × X)
    → (why ≡ NotWritten → AppendsFront w w' buffered × (buffered' ≡ []))
    → IsOver of w0 w' r0 r' (Err (fault_at why s.number)) buffered'
ends_no_line of w0 w w' r0 r r' s p p' e e' buffered buffered' TooLong st is kept was sent long read front =
    ends_long of w0 w' r0 r' s p' e' buffered'
    (reads_on of w0 w w' r0 r r' s p p' e e' buffered buffered' st (kept (λ q. cc)) was (sent (λ q. cc))) (long refl) is
ends_no_line of w0 w w' r0 r r' s p p' e e' buffered buffered' NotRead st is kept was sent long read front =
    let (going, none, x) = read refl in
    ends_unread of w0 w' r0 r' s p' e' buffered'
    (reads_on of w0 w w' r0 r r' s p p' e e' buffered buffered' st (kept (λ q. cc)) was (sent (λ q. cc))) going none is
ends_no_line of w0 w w' r0 r r' s p p' e e' buffered buffered' NotWritten st is kept was sent long read front =
    ends_unwritten of w0 w w' r0 r r' s p e buffered buffered' st (front refl)
ends_no_line of w0 w w' r0 r r' s p p' e e' buffered buffered' NoMemory st is kept was sent long read front =
    ends_out_of_memory of w0 w w' r0 r r' s p e buffered buffered' st (sent (λ q. cc))

-- ---- after the end

-- what was buffered went out
pub over_written : (of : Whole) (w0 w w' r0 r : Option (List ℕ)) (result : Result ℕ ScriptFault) (buffered : List ℕ)
    → IsOver of w0 w r0 r result buffered → Appends w w' buffered
    → (text : List ℕ) × Appends w0 w' text × IfSome r0 (λ input. RunEndsAs of result input r text)
over_written of w0 w w' None r result buffered st written = (st.0 ++ buffered, Appends-trans w0 w w' st.0 buffered st.1 written, tt)
over_written of w0 w w' (Some x) r result buffered st written = (st.0 ++ buffered, Appends-trans w0 w w' st.0 buffered st.1 written, st.2.0)

-- a prefix of it did
pub over_unwritten : (of : Whole) (w0 w w' r0 r : Option (List ℕ)) (result : Result ℕ ScriptFault) (buffered : List ℕ)
    → IsOver of w0 w r0 r result buffered → AppendsFront w w' buffered
    → (text : List ℕ) × Appends w0 w' text × IfSome r0 (λ input. RunEndsAs of (Err Write) input r text)
over_unwritten of w0 w w' None r result buffered st front = (st.0 ++ front.0, Appends-trans w0 w w' st.0 front.0 st.1 front.2, tt)
over_unwritten of w0 w w' (Some x) r result buffered st front =
    (st.0 ++ front.0, Appends-trans w0 w w' st.0 front.0 st.1 front.2, shorter st.0 buffered front.0 front.1.0 _ st.2.1 front.1.1)
