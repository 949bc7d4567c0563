use Rattle.std.proofs.Common.{◌∙◌, Bool, ap, arith, string_bytes, subst, sym}
use Rattle.std.specs.HashSet.{PutsKey}
use Rattle.std.proofs.lemmas.Bool.{not-true}
use Rattle.rb_money.proofs.Seen.{none_seen_yet, one_more_seen}
use Rattle.rb_money.proofs.checks.count_distinct.Goals as goal

pub loop-i-init : goal.loop-i-init
loop-i-init c = none_seen_yet c.in-Ok.seen _ c.in-Ok.ensures.empty

pub loop-i-preserved : goal.loop-i-preserved
loop-i-preserved c =
    let name = c.as_str.ensures.value ∙ ap (λ e. string_bytes e.0) c.index-accounts-i.is in
    let absent = not-true _ (sym c.in-Ok-insert.ensures.added ∙ c.if-not-is_new.false) in
    let IsPut : Bool → Type 0 = λ added. PutsKey c.loop-i.seen c.insert.new.self c.as_str.result added in
    one_more_seen c.loop-i.seen c.insert.new.self c.as_str.result c.loop-i.i c.args.accounts.now c.index-accounts-i.result
    c.loop-i.invariant (omega arith) name absent (subst IsPut c.if-not-is_new.false c.in-Ok-insert.ensures.keys)
