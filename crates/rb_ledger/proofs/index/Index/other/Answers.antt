use Rattle.rb_ledger.proofs.index.Index.other.Goals as goal

pub other_at-requires : goal.other_at-requires
other_at-requires c = c.target.ensures c.args.before.now c.requires
