use Rattle.rb_ledger.proofs.Words.{◌≡◌, ◌++◌, ◌-◌, take, drop, replicate, MOST_SITES}
use Rattle.rb_ledger.proofs.counts.clock_of_many.Given as goal

-- the entries so far, and zeros
abbrev pub invariant-loop-site : goal.invariant-loop-site
invariant-loop-site l = l.blue ≡ take l.site (drop 1 l.kept) ++ replicate (MOST_SITES - l.site) 0
