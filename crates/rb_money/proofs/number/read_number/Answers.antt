use Rattle.std.proofs.Common.{◌≡◌, rules, arith}
use Rattle.std.proofs.lemmas.Fmt.{parse-decimal}
use Rattle.rb_money.proofs.number.read_number.Goals as goal

pub returns-then-eq-clause-only : goal.returns-then-eq-clause-only
returns-then-eq-clause-only c = λ n small e. let read = parse-decimal 32 n _ _ small (omega arith) e c.parse.ensures.value.0 in search rules

pub returns-else-eq-clause-only : goal.returns-else-eq-clause-only
returns-else-eq-clause-only c = λ n small e.
    let read = parse-decimal 32 n _ _ small (omega arith) e c.parse.ensures.value.0 in
    let text : c.format.result.now ≡ c.args.text.now = cc e in search rules

pub returns-in-Err-clause-only : goal.returns-in-Err-clause-only
returns-in-Err-clause-only c = λ n small e. absurd (cc (parse-decimal 32 n _ _ small (omega arith) e c.parse.ensures.value.0))
