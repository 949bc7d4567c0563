-- The file is repaired.
use Rattle.std.proofs.Common.{ℕ, List, length, ap, sym, ◌∙◌}
use Rattle.std.specs.List.{concat}
use Rattle.rb_journal.specs.Journal.{IsRepaired}
use Rattle.rb_journal.specs.Lines.{at_rest, recovered, IsIntact}
use Rattle.rb_journal.proofs.Crash.{recovered-at_rest, repaired_is}
use Rattle.rb_journal.proofs.Intact.{repaired_intact}
use Rattle.rb_journal.proofs.Quiet.{left_as, read_as}
use Rattle.rb_journal.proofs.journal.Journal.open.Goals as goal

-- a repaired file isn't damaged, if the file wasn't
sound : (file c : List ℕ) → IsRepaired file c → IsRepaired file c × (IsIntact file → IsIntact c)
sound file c at = (at, λ intact. repaired_intact file c intact at)

pub returns-in-Ok-clause-any_moment : goal.returns-in-Ok-clause-any_moment
returns-in-Ok-clause-any_moment g c = read_as c.repair.ensures.quiet (repaired_is c.args.bytes.now)

pub returns-in-Ok-clause-repaired : goal.returns-in-Ok-clause-repaired
returns-in-Ok-clause-repaired g c = left_as c.repair.ensures.quiet (sound c.args.bytes.now)

pub returns-in-Ok-clause-lines : goal.returns-in-Ok-clause-lines
returns-in-Ok-clause-lines g c = ap recovered c.in-Ok.ensures.at_rest ∙ recovered-at_rest c.args.bytes.now

pub returns-in-Ok-clause-settled : goal.returns-in-Ok-clause-settled
returns-in-Ok-clause-settled g c =
    let same = sym (ap recovered c.in-Ok.ensures.at_rest ∙ recovered-at_rest c.args.bytes.now) in
    record {
      usable = c.in-Ok.ensures.quiet.usable;
      file = c.in-Ok.ensures.at_rest ∙ ap at_rest same;
      end = c.count_lines-lines.ensures.length ∙ ap (λ (lines : List (List ℕ)). length (concat lines)) same;
      durable = c.in-Ok.ensures.durable;
    }

pub returns-in-Err-clause-any_moment_err : goal.returns-in-Err-clause-any_moment_err
returns-in-Err-clause-any_moment_err g c = read_as c.repair.ensures.quiet (repaired_is c.args.bytes.now)

pub returns-in-Err-clause-repaired_err : goal.returns-in-Err-clause-repaired_err
returns-in-Err-clause-repaired_err g c = left_as c.repair.ensures.quiet (sound c.args.bytes.now)
