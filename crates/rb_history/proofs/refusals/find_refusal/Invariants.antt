use Rattle.rb_history.proofs.Words.{◌≡◌, drop, find_refusal}
use Rattle.rb_history.proofs.refusals.find_refusal.Given as goal

abbrev pub invariant-loop-refusal : goal.invariant-loop-refusal
invariant-loop-refusal l = find_refusal l.number (drop l.refusal-index l.refusals) ≡ find_refusal l.number l.refusals
