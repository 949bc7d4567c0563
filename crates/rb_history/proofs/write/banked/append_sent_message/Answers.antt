use Rattle.rb_history.proofs.Words.{receipt_member, between_if_any, members_text, List, ap, codes, sym, true, ℕ, ◌++◌, ◌∙◌}
use Rattle.rb_history.proofs.Banked.{sent_line, some_name}
use Rattle.rb_history.proofs.Public.Appended.{then}
use Rattle.rb_history.proofs.write.banked.append_sent_message.Goals as goal

pub returns : goal.returns
returns c =
    let s = c.args.config.now in
    let bank = c.args.bank.now in
    let name = c.as_bytes-name in
    let m = c.args.message.now in
    let some = some_name bank name.result.now name.ensures.same (sym c.is_empty.ensures ∙ c.if-is_empty.false) in
    let between = λ (l : List ℕ). between_if_any (codes "{\"bank\":\"") l (codes "\"") in
    let behind = members_text true (receipt_member s m) in
    then c.append_behind.result c.args.out.now.items c.append_id.new.out.items c.append_behind.new.out.items
    (between name.result.now) behind _ c.in_ok-append_id.ensures c.append_behind.ensures
    (ap (λ l. between l ++ behind) name.ensures.same ∙ sent_line s bank m name.ensures.id some)
