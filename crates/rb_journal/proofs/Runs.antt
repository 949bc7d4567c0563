-- The runs that a commit of turns may leave, and the meaning of a full file.
use Rattle.std.proofs.Common.{◌≡◌, ◌≤◌, ◌+◌, ◌^◌, ◌⊎◌, ℕ, Bool, true, List, [], ◌++◌, length, Option, inl, inr, refl, sym}
use Rattle.std.proofs.Common.{◌∙◌, arith, append-nil, length-append}
use Rattle.std.proofs.lemmas.List.Folds.{concat-append}
use Rattle.std.specs.List.{concat}
use Rattle.std.specs.Io.KnownBytes.{IsAtEnd}
use Rattle.rb_journal.specs.Journal.{IsDurable}
use Rattle.rb_journal.specs.Lines.{IsBatch, recovered}
use Rattle.rb_journal.specs.declared.host.HostError.{HostError}
use Rattle.rb_journal.specs.declared.host.HostError.TheVariants.{DiskFailed, Full}
use Rattle.rb_journal.specs.Ends.{IsFull}
use Rattle.rb_journal.specs.Faults.{fault_of_host}
use Rattle.rb_journal.specs.Run.{IsRunOfBatches, served_input}
use Rattle.rb_journal.specs.Steps.{Advances, AdvancesByBatch, Point}
use Rattle.rb_journal.specs.Turns.{Answers, texts}
use Rattle.rb_journal.specs.declared.fault.ServeFault.TheVariants.{Journal}
use Rattle.rb_journal.proofs.Follow.{first_of, run_start}

module _ {S : Type 0} {answers : Answers S} {e : Bool} {p q : Point S} (rest : Option (List ℕ)) (batch : List ℕ)
    (end : e ≡ true → IsAtEnd rest) (lines : q.lines ≡ p.lines ++ recovered batch) where
  -- at each moment of a commit there are the turns before it, or those of the batch too
  pub durable_is_run : {output reply c d : List ℕ} (a : AdvancesByBatch answers e p q) → reply ≡ texts a.0.turns
      → IsDurable p.lines (recovered batch) output reply c d
      → IsRunOfBatches answers p.number (served_input p.pending rest) p.state p.lines output c d
  durable_is_run (a, one) text (inl at) = run_start at.0 at.1
  durable_is_run {output} (a, one) text (inr at) = record {
    done = [];
    batch = a.turns;
    are = a.are;
    in_order = first_of rest end a;
    lines_are = at.0 ∙ sym lines ∙ a.lines_are;
    output_is = (at.1.0, at.1.1 ∙ rw (text, append-nil output) refl);
    one_batch = one;
  }

  -- a batch that finds no place below 2^60 bytes
  pub is_full : Advances answers e p q → IsBatch batch → {end : ℕ} → end ≡ length (concat p.lines) → 2 ^ 60 ≤ end + length batch
      → IsFull answers p.number (served_input p.pending rest) p.state p.lines
  is_full a whole at long = record {
    turns = a.turns;
    are = a.are;
    in_order = first_of rest end a;
    long = rw (← a.lines_are, lines, concat-append, whole) (omega (arith, at, long, length-append (concat p.lines) batch));
  }

-- the file failed, or is full
pub journal_cause : (error : HostError) → fault_of_host error ≡ Journal → (error ≡ DiskFailed) ⊎ (error ≡ Full)
journal_cause DiskFailed is = inl refl
journal_cause Full is = inr refl
journal_cause error is = absurd (cc)
