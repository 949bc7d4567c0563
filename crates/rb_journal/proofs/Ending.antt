-- How a run ends if its turns are known.
use Rattle.std.proofs.Common.{◌≡◌, ◌++◌, ℕ, Bool, true, false, List, [], length, Option, Some, None, Err, refl, sym, ap}
use Rattle.std.proofs.Common.{arith, ◌∙◌, append_assoc}
use Rattle.std.specs.Prelude.{IfSome}
use Rattle.std.specs.Io.KnownBytes.{IsAtEnd, Keeps}
use Rattle.rb_lines.specs.Lines.{line_len, lines_of}
use Rattle.rb_lines.proofs.Public.Walks.{Walks, at_end, at_rest}
use Rattle.rb_journal.specs.Ends.{AreAll, EndsAtRest, IsReadAnswered, IsPutOut}
use Rattle.rb_journal.specs.Run.{served_input}
use Rattle.rb_journal.specs.Steps.{Goes, Point}
use Rattle.rb_journal.specs.Turns.{Answers, to_answer}
use Rattle.rb_journal.specs.declared.fault.ServeFault.{ServeFault}
use Rattle.rb_journal.specs.declared.fault.ServeFault.TheVariants.{Read}

-- of the faults only that of a read leaves the journal at rest
pub rest_is_read : (T : Type 0) (fault : ServeFault) → EndsAtRest {T = T} (Err fault) → fault ≡ Read
rest_is_read T Read h = refl
rest_is_read T fault h = absurd h

module _ {S : Type 0} {answers : Answers S} {was e : Bool} {p q : Point S} where
  -- all that the turns come to was put out
  pub put_out : {had has : Option (List ℕ)} (g : Goes answers was e p q had has)
      → IsPutOut answers p.state p.lines p.text g.steps.turns q.lines q.text
  put_out g = record { are = g.steps.are; lines_are = g.steps.lines_are; output_is = g.steps.text_is }

  -- of the bytes that were read and the rest, the lines were taken
  walks : (had : Option (List ℕ)) (r : List ℕ) (g : Goes answers was e p q had (Some r)) → (e ≡ true → r ≡ [])
      → Walks ((p.pending ++ g.more) ++ r) g.steps.taken q.pending r e
  walks had r g end = record {
    got = p.pending ++ g.more;
    lines = g.steps.taken_is.lines r end;
    bytes = refl;
    whole = g.steps.taken_is.whole;
  }

  -- nothing waits, and the input has ended
  pub ends_all : (had has : Option (List ℕ)) (g : Goes answers was e p q had has) → p.count ≡ 0 → q.pending ≡ [] → IsAtEnd has
      → AreAll p.number g.steps.turns q.count (served_input p.pending had) has
  ends_all None has g first none end = (omega (arith, g.steps.count_is, first), tt)
  ends_all (Some x) None g first none end = absurd g.read
  ends_all (Some x) (Some r) g first none end =
      let all : (p.pending ++ g.more) ++ r ≡ p.pending ++ x = append_assoc p.pending g.more r ∙ ap (λ l. p.pending ++ l) (sym g.read) in
      let lines = at_end _ _ q.pending r e (walks (Some x) r g (λ _. end)) none end in (
        omega (arith, g.steps.count_is, first),
        (g.steps.answered ∙ ap (to_answer p.number) (sym lines ∙ ap lines_of all), ap Some end),
      )

  -- a read failed, or there were as many as there may be
  pub ends_read : (had has left : Option (List ℕ)) (g : Goes answers was e p q had has) → e ≡ false → line_len q.pending ≡ length q.pending
      → Keeps has left → IfSome (served_input p.pending had) (IsReadAnswered p.number g.steps.turns left)
  unfolding walks
  ends_read None has left g going none kept = tt
  ends_read (Some x) None left g going none kept = absurd g.read
  ends_read (Some x) (Some r) None g going none kept = absurd kept
  ends_read (Some x) (Some r) (Some y) g going none kept =
      let w = walks (Some x) r g (λ ended. absurd (cc (going, ended))) in
      record {
        taken = p.pending ++ g.more;
        rest = r;
        left_is = ap Some kept;
        whole = ap (λ l. p.pending ++ l) g.read ∙ sym (append_assoc p.pending g.more r);
        answered = g.steps.answered ∙ ap (to_answer p.number) (sym (at_rest _ _ q.pending r e w going none));
      }
