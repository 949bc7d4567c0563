use Rattle.std.proofs.Common.{◌≤◌, length, ap, arith, string_bytes}
use Rattle.rb_reasons.proofs.Short.{short}
use Rattle.rb_reasons.proofs.text.reason_of.Goals as goal

pub returns-in-Ok-clause-reason : goal.returns-in-Ok-clause-reason
returns-in-Ok-clause-reason c = (
  c.column_of-column.result,
  string_bytes c.in_ok-why.why,
  string_bytes c.in_ok-before.before,
  string_bytes c.in_ok-behind.behind,
  string_bytes c.in_ok-caret.caret,
  omega arith,
  omega arith,
  c.in_ok-why.ensures.plain,
  c.in_ok-before.ensures.plain,
  c.in_ok-behind.ensures.plain,
  c.in_ok-caret.ensures.plain,
  c.in-Ok.ensures.ok,
)

pub returns-in-Ok-clause-most : goal.returns-in-Ok-clause-most
returns-in-Ok-clause-most c =
    let why = string_bytes c.in_ok-why.why in
    let before = string_bytes c.in_ok-before.before in
    let behind = string_bytes c.in_ok-behind.behind in
    let caret = string_bytes c.in_ok-caret.caret in
    let of_behind : length behind ≤ 72 = omega (arith, c.in_ok-behind.ensures.most) in
    let all = short c.column_of-column.result why before behind caret (omega arith) c.in_ok-why.ensures.most
    c.in_ok-before.ensures.most of_behind c.in_ok-caret.ensures.most in
    omega (arith, ap length c.in-Ok.ensures.ok, all)
