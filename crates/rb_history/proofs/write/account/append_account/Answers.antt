use Rattle.rb_history.proofs.Words.{◌≡◌, ◌++◌, codes, ap, sym, ◌∙◌, append_assoc, quoted, compact_text, account_json}
use Rattle.rb_history.proofs.Public.Appended.{both, failed, then}
use Rattle.rb_history.proofs.write.account.append_account.Goals as goal

pub returns : goal.returns
returns c =
    let name = c.account_name-name.result.now in
    let quotes = codes "\"" ++ (name ++ codes "\"") in
    let shown : quotes ≡ compact_text (account_json c.args.config.now c.args.place) = ap (λ l. codes "\"" ++ (l ++ codes "\""))
    (sym c.account_name-name.ensures.plain) ∙ ap quoted c.account_name-name.ensures.name in
    let two = both c.args.out.now.items _ _ _ _ c.in_ok-append.ensures c.in_ok-append_three.ensures in
    then _ c.args.out.now.items _ _ _ _ _ two c.append-2.ensures
    (append_assoc c.args.front.now quotes c.args.back.now ∙ ap (λ l. c.args.front.now ++ (l ++ c.args.back.now)) shown)

pub returns-in_err-append_three : goal.returns-in_err-append_three
returns-in_err-append_three c =
    failed _ c.args.out.now.items _ _ _ _ c.from_residual-in_err-append_three.ensures.0 c.in_ok-append.ensures c.in_err-append_three.ensures
