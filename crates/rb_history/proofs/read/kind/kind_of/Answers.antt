use Rattle.rb_history.proofs.read.kind.kind_of.Goals as goal

pub returns-in-Cancel : goal.returns-in-Cancel
returns-in-Cancel c = rw c.in-Cancel.is (c.cancel.ensures c.args.config.now)
