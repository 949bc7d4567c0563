use Rattle.rb_world.proofs.Interleaving
use Rattle.rb_world.proofs.crashes.interleaved_steps_lead.Goals as goal

pub returns : goal.returns
returns c = Interleaving.lead
