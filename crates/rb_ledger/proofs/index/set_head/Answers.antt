use Rattle.rb_ledger.proofs.Words.{sym, arith, set_past}
use Rattle.rb_ledger.proofs.index.set_head.Goals as goal

-- if there is no such account
pub returns-then-index-len : goal.returns-then-index-len
returns-then-index-len c = sym (set_past c.args.heads.now.items c.args.place.0
    (record { last = c.args.last; balance = c.args.balance }) (omega arith))
