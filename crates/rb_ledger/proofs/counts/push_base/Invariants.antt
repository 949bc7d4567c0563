use Rattle.rb_ledger.proofs.Words.{◌≡◌, ◌++◌, ◌+◌, ◌≤◌, take, length, vec_capacity, vec_len, base_of}
use Rattle.rb_ledger.proofs.counts.push_base.Given as goal

-- the base so far, and the spare capacity for the rest of it
abbrev pub invariant-loop-count : goal.invariant-loop-count
invariant-loop-count l = record {
  items : l.bases.items ≡ l.initial.bases.items ++ base_of (take l.count-index l.blue);
  room : vec_len l.bases + length l.blue ≤ vec_capacity l.bases + l.count-index;
  capacity : vec_capacity l.initial.bases ≤ vec_capacity l.bases;
}
