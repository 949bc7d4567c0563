-- A site ran over the file that was opened.
use Rattle.std.proofs.Common.{◌∙◌, [], ◌∷◌, ap, sym}
use Rattle.rb_journal.specs.Planned.{opened_event}
use Rattle.rbbank.proofs.on_disk.run_recording.Goals as goal

-- what the run says of the bytes that were read, it says of the file
pub returns-in-Ok-clause-ran : goal.returns-in-Ok-clause-ran
returns-in-Ok-clause-ran g c =
    let ran = c.run_site-host.ensures in
    let file = c.in-Ok.ensures in
    let most = c.most_resent.ensures in
    record {
      start = c.in-Ok.disk;
      opened = record {
        path = file.path;
        new = λ is. file.content ∙ file.new is;
        untouched = file.log ∙ ap (λ f. opened_event f ∷ []) (sym file.content);
      };
      ended_as = rw most at (rw file.output at (rw (sym file.content) at ran.ended));
      any_moment = rw most at (rw file.output at (rw (sym file.content) at ran.any_moment));
      steps = rw most at (rw file.output at (rw (sym file.content) at ran.steps));
      write = ran.write;
      journal = rw most at (rw (sym file.content) at ran.journal);
    }
