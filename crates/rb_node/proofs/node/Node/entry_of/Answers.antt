use Rattle.rb_node.proofs.node.Node.entry_of.Goals as goal

pub returns-in-Ok-clause-asked : goal.returns-in-Ok-clause-asked
returns-in-Ok-clause-asked g c = (c.read_entries_fit.ensures c.self.inside.config _ _ _ c.in-Ok.ensures.read.0).3
