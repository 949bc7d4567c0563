use Rattle.rb_ledger.proofs.Words.{◌≡◌, ◌++◌, map, take, vec_capacity, Head}
use Rattle.rb_ledger.proofs.checkpoints.Checkpoints.push_row.Given as goal

abbrev pub invariant-loop-head : goal.invariant-loop-head
invariant-loop-head l = record {
  lasts : l.self.lasts.items ≡ l.initial.self.lasts.items ++ map (λ (h : Head). h.last) (take l.head-index l.heads);
  accounts : l.self.accounts ≡ l.initial.self.accounts;
  due : l.self.due ≡ l.initial.self.due;
  capacity : vec_capacity l.self.lasts ≡ vec_capacity l.initial.self.lasts;
}
