use Rattle.std.proofs.Common.{◌≤◌, length, string_bytes}
use Rattle.rb_reasons.specs.Reasons.{IsPlain}
use Rattle.rb_reasons.proofs.text.plain.Given as goal

-- what is there is plain, and no longer than allowed
abbrev pub invariant-loop-byte : goal.invariant-loop-byte
invariant-loop-byte l = record { plain : IsPlain (string_bytes l.text); most : length (string_bytes l.text) ≤ l.most }
