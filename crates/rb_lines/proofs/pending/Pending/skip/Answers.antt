use Rattle.std.proofs.Common.{◌∙◌, ap, drop}
use Rattle.rb_lines.proofs.Ranges.{skipped}
use Rattle.rb_lines.proofs.pending.Pending.skip.Goals as goal

pub returns : goal.returns
returns c = skipped c.self.inside.bytes.items c.self.inside.start c.self.inside.end c.args.n ∙ ap (drop c.args.n) c.self.view_is
