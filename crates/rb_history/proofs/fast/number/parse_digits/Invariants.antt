use Rattle.std.proofs.Common.{◌≡◌, ◌<◌, ◌≤◌, ◌^◌, ◌-◌, length, take, decimal}
use Rattle.rb_history.proofs.fast.number.parse_digits.Given as goal

abbrev pub invariant-digits : goal.invariant-digits
invariant-digits l = record { within : l.len ≤ length l.text; some : 0 < l.n; small : l.n < 2 ^ 64; read : take l.len l.text ≡ decimal l.n }

abbrev pub decreases-digits : goal.decreases-digits
decreases-digits l = length l.text - l.len
