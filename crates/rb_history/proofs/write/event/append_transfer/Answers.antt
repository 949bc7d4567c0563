use Rattle.rb_history.proofs.Words.{◌≡◌, ◌++◌, List, ℕ, codes, decimal, append_assoc, escape_byte, compact_text, account_json}
use Rattle.rb_history.proofs.Public.Appended.{both, failed, then}
use Rattle.rb_history.proofs.write.event.append_transfer.Goals as goal

transfer_text : (from to amount : List ℕ)
    → ((codes "{\"transfer\":[" ++ (from ++ codes ",")) ++ (to ++ codes ",")) ++ (amount ++ codes "]}") ≡ codes
    "{\"transfer\":" ++ ((codes "[" ++ (from ++ (codes "," ++ (to ++ (codes "," ++ (amount ++ codes "]")))))) ++ codes "}")
transfer_text from to amount = simp append_assoc

pub returns-in_err-append_account-2 : goal.returns-in_err-append_account-2
returns-in_err-append_account-2 c =
    failed _ c.args.out.now.items _ _ _ _ c.from_residual-in_err-append_account-2.ensures.0 c.in_ok-append_account.ensures
    c.in_err-append_account-2.ensures

pub returns : goal.returns
unfolding escape_byte
returns c =
    let two = both c.args.out.now.items _ _ _ _ c.in_ok-append_account.ensures c.in_ok-append_account-2.ensures in
    then _ c.args.out.now.items _ _ _ _ _ two c.append_number.ensures
    (transfer_text (compact_text (account_json c.args.config.now c.args.from)) (compact_text (account_json c.args.config.now c.args.to))
    (decimal c.args.amount))
