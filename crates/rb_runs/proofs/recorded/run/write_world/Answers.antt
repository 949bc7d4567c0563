use Rattle.rb_runs.proofs.Words.{◌∙◌}
use Rattle.rb_runs.proofs.Recording.{world_written}
use Rattle.rb_runs.proofs.recorded.run.write_world.Goals as goal

pub returns-clause-written : goal.returns-clause-written
returns-clause-written g c =
    world_written c.write_text.result (g.W.Sink.contents c.args.writer.now) (g.W.Sink.contents c.write_text.new.writer)
    c.in_ok-config.config c.args.world.settings c.args.world.world.sites c.close-reports.result.items
    (c.in_ok-config.ensures.same ∙ c.config.ensures) c.close-reports.ensures.reports c.write_text.ensures.written
