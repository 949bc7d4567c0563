use Rattle.std.proofs.Common.{◌++◌, take, rules}
use Rattle.std.proofs.KnownBytes.{Appends-trans}
use Rattle.std.proofs.lemmas.List.{take_rest}
use Rattle.rb_lines.proofs.Public.Sending.{front_more}
use Rattle.rb_lines.proofs.write.write_all.Goals as goal

pub loop-rest-preserved : goal.loop-rest-preserved
loop-rest-preserved g c =
    let kept = c.loop-rest.invariant in
    let rest = c.loop-rest.rest.now in (
      kept.0 ++ take c.in-Ok.n rest,
      front_more _ kept.0 rest _ c.in-Ok.n kept.1 (take_rest rest c.in-Ok.n),
      Appends-trans _ (g.W.Sink.contents c.loop-rest.writer) _ _ _ kept.2 c.in-Ok.ensures.bytes,
      rw (c.in-Ok.ensures.failed, kept.3) (search rules),
    )
