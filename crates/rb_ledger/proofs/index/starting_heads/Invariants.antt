use Rattle.rb_ledger.proofs.Words.{◌≡◌, ℕ, vec_len, Some, slice_get, slice_index, Head}
use Rattle.rb_ledger.proofs.index.starting_heads.Given as goal

abbrev pub invariant-loop-place : goal.invariant-loop-place
invariant-loop-place l = record {
  count : vec_len l.heads ≡ l.place;
  each : (i : ℕ) (h : Head) → slice_get l.heads.items i ≡ Some h → (h.last ≡ 0)
      × (h.balance ≡ slice_index l.config.starts i);
}
