-- How far a run has come, and what a crash leaves of a run that goes on from there.
use Rattle.std.proofs.Common.{◌≡◌, ◌<◌, ◌≤◌, ◌+◌, ◌⊎◌, inl, inr, ℕ, Bool, true, false, List, [], ◌++◌, length}
use Rattle.std.proofs.Common.{Option, Some, None, refl, sym, ap, ◌∙◌, arith, subst, append_assoc, append-nil}
use Rattle.std.specs.Prelude.{IfSome}
use Rattle.std.proofs.KnownBytes.{Consumes-trans}
use Rattle.std.proofs.Math.Seq.{take-append-add}
use Rattle.std.proofs.lemmas.List.{map-append}
use Rattle.std.proofs.lemmas.List.Concat.{flat_map-append}
use Rattle.std.specs.Io.KnownBytes.{Consumes, IsAtEnd}
use Rattle.rb_journal.specs.Host.{AddsPrefix, LeavesOnly}
use Rattle.rb_journal.specs.Lines.{recovered}
use Rattle.rb_lines.specs.Buffers.{Reads}
use Rattle.rb_lines.specs.Lines.{lines_of}
use Rattle.rb_journal.specs.Ends.{IsFull}
use Rattle.rb_journal.specs.Run.{AreFirst, IsRunOfBatches, IsRunOfTurns, served_input}
use Rattle.rb_journal.specs.Steps.{Advances, Goes, IsRunFrom, IsTaken, Point, longer, waits}
use Rattle.rb_journal.specs.declared.host.Host.{Ghosts as Hosts}
use Rattle.rb_journal.specs.declared.journal.Journal.{Journal}
use Rattle.rb_journal.specs.declared.responder.JournaledResponder.{Ghosts as Responders}
use Rattle.rb_journal.specs.Turns.{Answers, Turn, lines_added, lines_answered, texts, to_answer}
use Rattle.rb_journal.proofs.Advance.{added_then, no_step, steps_then, texts_then, to_answer_then, turns_then}
use Rattle.rb_journal.proofs.Public.Moments.{runs_on, weaker}

-- where a run begins: this is the number of its first line
abbrev pub starting : {R H : Type 0} → (r : Responders R) → Hosts H → R → Journal H → ℕ → List ℕ → Point r.State
starting r h responder journal number pending = record {
  state = r.state responder;
  lines = recovered (h.content journal.host);
  text = h.output journal.host;
  pending = pending;
  number = number;
  count = 0;
}

-- if the input hasn't ended, it hadn't
pub was_going : {P : Type 0} (was is : Bool) → (was ≡ true → P × (is ≡ true)) → is ≡ false → was ≡ false
was_going true is still going = absurd (cc (going, (still refl).1))
was_going false is still going = refl

-- lines that were taken are, whatever is read after what waits
taken_more : (p q more : List ℕ) (e e' : Bool) (taken : List (List ℕ)) → IsTaken p e taken q
    → (e ≡ true → (more ≡ []) × (e' ≡ true)) → IsTaken (p ++ more) e' taken (q ++ more)
taken_more p q more e e' taken is still = record {
  lines = λ rest end. rw (append_assoc p, append_assoc q)
      (is.lines (more ++ rest) (λ ended. ap (λ l. l ++ rest) (still ended).0 ∙ end (still ended).1));
  whole = λ going tail. rw (append_assoc p, append_assoc q) (is.whole (was_going e e' still going) (more ++ tail));
}

-- bytes were read, and no line is taken yet
pub only_read : {S : Type 0} (answers : Answers S) (e e' : Bool) (p : Point S) (more : List ℕ) (had has : Option (List ℕ))
    → Consumes had has more → (e ≡ true → (more ≡ []) × (e' ≡ true)) → Goes answers e e' p (longer p more) had has
only_read answers e e' p more had has read still =
    record { more = more; read = read; still = still; steps = no_step (longer p more) }

module _ {S : Type 0} {answers : Answers S} {was e : Bool} {p q : Point S} {had mid : Option (List ℕ)}
    (a : Goes answers was e p q had mid) where
  -- lines more were taken
  pub more_taken : {r : Point S} {e' : Bool} → Advances answers e q r → e' ≡ e → Goes answers was e' p r had mid
  more_taken next same = rw same (record { more = a.more; read = a.read; still = a.still; steps = steps_then a.steps next })

  -- and one part of a run after another
  pub goes_then : {r : Point S} {e' : Bool} {has : Option (List ℕ)} → Goes answers e e' q r mid has → Goes answers was e' p r had has
  goes_then {r} {e'} {has} b =
      let s = a.steps in
      let more = a.more ++ b.more in
      let before : Advances answers e' (longer p more) (longer q b.more) = record {
        turns = s.turns;
        taken = s.taken;
        are = s.are;
        state_is = s.state_is;
        lines_are = s.lines_are;
        text_is = s.text_is;
        count_is = s.count_is;
        number_is = s.number_is;
        answered = s.answered;
        taken_is = subst (λ l. IsTaken l e' s.taken (q.pending ++ b.more)) (append_assoc p.pending a.more b.more)
            (taken_more (p.pending ++ a.more) q.pending b.more e e' s.taken s.taken_is b.still);
      } in
      record {
        more = more;
        read = Consumes-trans had mid has a.more b.more a.read b.read;
        still = λ ended. (ap (λ l. l ++ b.more) (a.still ended).0 ∙ (b.still (a.still ended).1).0, (b.still (a.still ended).1).1);
        steps = steps_then before b.steps;
      }

  -- bytes more were read
  pub more_read : {e' : Bool} {has : Option (List ℕ)} (pending : List ℕ) → e ≡ false → Reads q.pending pending mid has
      → Goes answers was e' p (waits q pending) had has
  more_read {e'} {has} pending going (more, is, read) = subst (λ l. Goes answers was e' p (waits q l) had has) (sym is)
      (goes_then (only_read answers e e' q more mid has read (λ ended. absurd (cc (going, ended)))))

-- ---- what a crash leaves

prefix_on : {S : Type 0} (output now d : List ℕ) (xs ys : List (Turn S)) → now ≡ output ++ texts xs → AddsPrefix now (texts ys) d
    → AddsPrefix output (texts (xs ++ ys)) d
prefix_on {S} output now d xs ys is some = (
  length (texts xs) + some.0,
  some.1 ∙ rw (is, append_assoc, flat_map-append, take-append-add),
)

-- if lines were taken, the turns that answer them come first, and then those of the lines after them
first_then : {S : Type 0} (n m : ℕ) (xs ys : List (Turn S)) {p q : List ℕ} {e : Bool} {taken : List (List ℕ)} (rest : Option (List ℕ))
    → IsTaken p e taken q → (e ≡ true → IsAtEnd rest) → m ≡ n + length taken → lines_answered xs ≡ to_answer n taken
    → IfSome (served_input q rest) (AreFirst m ys) → IfSome (served_input p rest) (AreFirst n (xs ++ ys))
first_then n m xs ys None is end number answered are = tt
first_then n m xs ys {q = q} {taken = taken} (Some r) is end number answered (later, are) = (
  later,
  rw (is.lines r end, to_answer_then n m taken (lines_of (q ++ r)) number, are, ← answered, map-append, append_assoc),
)

first_on : {S : Type 0} {answers : Answers S} {was e : Bool} {p q : Point S} (had has : Option (List ℕ))
    (g : Goes answers was e p q had has)
    → (e ≡ true → IsAtEnd has) → (ys : List (Turn S)) → IfSome (served_input q.pending has) (AreFirst q.number ys)
    → IfSome (served_input p.pending had) (AreFirst p.number (g.steps.turns ++ ys))
first_on None has g end ys are = tt
first_on (Some x) None g end ys are = absurd g.read
first_on {p = p} {q = q} (Some x) (Some y) g end ys are =
    let s = g.steps in
    subst (AreFirst p.number (s.turns ++ ys)) (append_assoc p.pending g.more y ∙ ap (λ l. p.pending ++ l) (sym g.read))
    (first_then p.number q.number s.turns ys (Some y) s.taken_is end s.number_is s.answered are)

first_none : (S : Type 0) (first : ℕ) (input : Option (List ℕ)) → IfSome input (AreFirst {S = S} first [])
first_none S first None = tt
first_none S first (Some all) = (to_answer first (lines_of all), refl)

-- the turns that answer the lines that were taken are first
pub first_of : {S : Type 0} {answers : Answers S} {e : Bool} {p q : Point S} (rest : Option (List ℕ)) → (e ≡ true → IsAtEnd rest)
    → (a : Advances answers e p q) → IfSome (served_input p.pending rest) (AreFirst p.number a.turns)
first_of {S} {p = p} {q = q} rest end a =
    rw append-nil at
    (first_then p.number q.number a.turns [] rest a.taken_is end a.number_is a.answered
    (first_none S q.number (served_input q.pending rest)))

-- before the first turn
pub run_start : {S : Type 0} {answers : Answers S} {first : ℕ} {input : Option (List ℕ)} {begin : S} {lines : List (List ℕ)}
    {output c d : List ℕ} → recovered c ≡ lines → d ≡ output → IsRunOfBatches answers first input begin lines output c d
run_start {S} {first = first} {input = input} {lines = lines} {output = output} are was = record {
  done = [];
  batch = [];
  are = tt;
  in_order = first_none S first input;
  lines_are = are ∙ sym (append-nil lines);
  output_is = (0, was ∙ sym (append-nil output) ∙ sym (append-nil (output ++ [])));
  one_batch = (omega arith, omega arith);
}

-- what batches leave is what their turns leave
pub are_turns : {S H : Type 0} {answers : Answers S} {first : ℕ} {input : Option (List ℕ)} {begin : S} {lines : List (List ℕ)}
    {output : List ℕ} {moment : H → ℕ} {left_since : H → ℕ → List ℕ → List ℕ → Type 0} {old new : H}
    → LeavesOnly moment left_since old new (IsRunOfBatches answers first input begin lines output)
    → LeavesOnly moment left_since old new (IsRunOfTurns answers first input begin lines output)
are_turns {output = output} {moment = moment} {left_since = left_since} {old = old} {new = new} run =
    weaker moment left_since old new _ _ run (λ c d r. record {
      turns = r.done ++ r.batch;
      are = r.are;
      in_order = r.in_order;
      lines_are = r.lines_are;
      output_is = prefix_on output (output ++ texts r.done) d r.done r.batch refl r.output_is;
    })

module _ {S : Type 0} {answers : Answers S} {was e : Bool} {p q : Point S} {had has : Option (List ℕ)} (g : Goes answers was e p q had has)
    (end : e ≡ true → IsAtEnd has) where
  -- of a run that goes on it is a run from the beginning
  pub run_on : (c d : List ℕ) → IsRunFrom answers q has c d → IsRunFrom answers p had c d
  run_on c d run =
      let turns = g.steps.turns in
      let more = run.done ++ run.batch in
      record {
        done = turns ++ run.done;
        batch = run.batch;
        are = rw append_assoc (turns_then answers p.state turns more g.steps.are (rw g.steps.state_is at run.are));
        in_order = rw append_assoc (first_on had has g end more run.in_order);
        lines_are = rw append_assoc (added_then p.lines q.lines _ turns more g.steps.lines_are run.lines_are);
        output_is = rw (← texts_then p.text q.text (q.text ++ texts run.done) turns run.done g.steps.text_is refl) run.output_is;
        one_batch = run.one_batch;
      }

  -- and so at each moment of its calls
  pub moments_on : {H : Type 0} {moment : H → ℕ} {left_since : H → ℕ → List ℕ → List ℕ → Type 0} {was mid new : H}
      → LeavesOnly moment left_since was mid (IsRunFrom answers p had) → LeavesOnly moment left_since mid new (IsRunFrom answers q has)
      → LeavesOnly moment left_since was new (IsRunFrom answers p had)
  moments_on {H} {moment} {left_since} {was} {mid} {new} so_far then_on =
      runs_on moment left_since was mid new (IsRunFrom answers p had) (IsRunFrom answers q has) so_far then_on run_on

  -- the file failed during these calls, or is full
  pub cause_on : {was mid new : ℕ} → was ≤ mid → (mid < new) ⊎ IsFull answers q.number (served_input q.pending has) q.state q.lines
      → (was < new) ⊎ IsFull answers p.number (served_input p.pending had) p.state p.lines
  cause_on {was} {mid} {new} later (inl failed) = inl (omega arith)
  cause_on later (inr full) =
      let turns = g.steps.turns in
      inr (record {
        turns = turns ++ full.turns;
        are = turns_then answers p.state turns full.turns g.steps.are (rw g.steps.state_is at full.are);
        in_order = first_on had has g end full.turns full.in_order;
        long = rw (← added_then p.lines q.lines (q.lines ++ lines_added full.turns) turns full.turns g.steps.lines_are refl) full.long;
      })
