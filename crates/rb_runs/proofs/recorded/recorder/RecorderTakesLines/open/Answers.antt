use Rattle.rb_runs.proofs.Words.{None, Some, NoSite, Refused, recorder_rest}
use Rattle.rb_runs.proofs.Recording.{recorder_opens}
use Rattle.rb_runs.proofs.Unanswered.{taken_unanswered}
use Rattle.rb_runs.proofs.recorded.recorder.RecorderTakesLines.open.Goals as goal

pub returns : goal.returns
returns c =
    let (settings, on, opened) = c.in_ok-world.ensures in
    let world = c.in_ok-world.world in
    taken_unanswered recorder_rest None (Some (record { world = world; reply = Refused NoSite })) c.args.line.now
    (recorder_opens world settings c.args.line.now c.requires.short c.requires.some on opened) c.args._buffered.now.items
