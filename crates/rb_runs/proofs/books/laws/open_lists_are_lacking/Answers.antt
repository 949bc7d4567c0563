use Rattle.rb_runs.proofs.OpenLists.{open_lists}
use Rattle.rb_runs.proofs.books.laws.open_lists_are_lacking.Goals as goal

pub returns : goal.returns
returns c = open_lists (c.laws_always_hold.ensures.headline, c.laws_always_hold.ensures.others)
