use Rattle.std.proofs.Common.{◌≡◌, ◌≤◌, ◌+◌, ◌-◌, ◌*◌, ◌%◌, ap, ◌∙◌, arith, decimal, get_or}
use Rattle.rb_history.proofs.Scanned.{one_digit, digit_more}
use Rattle.rb_history.proofs.fast.number.parse_digits.Goals as goal

pub digits-init : goal.digits-init
digits-init c = record {
  within = omega arith;
  some = omega arith;
  small = omega arith;
  read = one_digit c.args.text.now (omega arith) (omega arith) (omega arith);
}

pub digits-preserved : goal.digits-preserved
digits-preserved c =
    let text = c.args.text.now in
    let len = c.digits.len in
    let n = c.digits.n in
    let byte = get_or text len 0 in
    let low : 48 ≤ byte = omega arith in
    let high : byte ≤ 57 = omega arith in
    let same : byte - 48 ≡ (byte + 208) % 256 = omega arith in
    let more = digit_more text len n (omega arith) (omega arith) (omega (arith, same)) low high c.digits.invariant.read in record {
      within = omega arith;
      some = omega arith;
      small = omega arith;
      read = more ∙ ap (λ d. decimal (n * 10 + d)) same;
    }

pub returns-then-n-eq0 : goal.returns-then-n-eq0
returns-then-n-eq0 c =
    let text = c.args.text.now in
    let zero : get_or text 0 0 - 48 ≡ 0 = omega arith in
    (omega arith, omega arith, one_digit text (omega arith) (omega arith) (omega arith) ∙ ap decimal zero)
