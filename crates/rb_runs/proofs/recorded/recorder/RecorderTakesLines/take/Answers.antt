use Rattle.rb_runs.proofs.Words.{Some, recorder_rest}
use Rattle.rb_runs.proofs.Recording.{recorder_takes}
use Rattle.rb_runs.proofs.Unanswered.{taken_unanswered}
use Rattle.rb_runs.proofs.recorded.recorder.RecorderTakesLines.take.Goals as goal

pub returns : goal.returns
returns c =
    let old = c.args.self.now in
    let world = c.take_command.new.world in
    let reply = c.take_command.new.reply in
    taken_unanswered recorder_rest (Some old) (Some (record { world = world; reply = reply })) c.args.line.now
    (recorder_takes old.world world reply c.args.line.now c.requires.short c.requires.some c.in_ok-take_command.ensures)
    c.args._buffered.now.items
