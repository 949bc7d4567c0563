use Rattle.std.proofs.Common.{length, ap, arith, string_bytes, subst, sym}
use Rattle.rb_reasons.specs.Reasons.{IsPlain}
use Rattle.rb_reasons.proofs.Short.{all_plain, shorter}
use Rattle.rb_reasons.proofs.text.reason_at_site.Goals as goal

pub returns-in-Ok-clause-plain : goal.returns-in-Ok-clause-plain
returns-in-Ok-clause-plain c =
    subst IsPlain (sym c.in-Ok.ensures.ok) (all_plain c.column_of-column.result (string_bytes c.in_ok-why.why) (omega arith)
    c.in_ok-why.ensures.plain)

pub returns-in-Ok-clause-most : goal.returns-in-Ok-clause-most
returns-in-Ok-clause-most c =
    let all = shorter c.column_of-column.result (string_bytes c.in_ok-why.why) (omega arith) c.in_ok-why.ensures.most in
    omega (arith, ap length c.in-Ok.ensures.ok, all)
