use Rattle.rb_shadow.proofs.Public.Balances
use Rattle.rb_shadow.proofs.cancellation_commutes.Goals as goal

pub returns : goal.returns
returns c s us vs uu uv there back = Balances.reordered s us vs uu uv there back
