-- A journal was sealed over the file that was opened.
use Rattle.std.proofs.Common.{◌∙◌, [], ◌∷◌, ap, sym}
use Rattle.rb_journal.specs.Planned.{opened_event}
use Rattle.rbbank.proofs.on_disk.seal_on_disk.Goals as goal

-- what is said of the bytes that were read holds of the file
pub returns-in-Ok-clause-sealed : goal.returns-in-Ok-clause-sealed
returns-in-Ok-clause-sealed c =
    let ran = c.seal_site-host.ensures in
    let file = c.in-Ok.ensures in
    record {
      start = c.in-Ok.disk;
      opened = record {
        path = file.path;
        new = λ is. file.content ∙ file.new is;
        untouched = file.log ∙ ap (λ f. opened_event f ∷ []) (sym file.content);
      };
      ended_as = rw (sym file.content) at ran.ended;
      any_moment = rw file.output at (rw (sym file.content) at ran.any_moment);
      output = ran.output ∙ file.output;
      journal = ran.journal;
    }
