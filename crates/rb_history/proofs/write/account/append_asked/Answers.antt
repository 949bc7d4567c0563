use Rattle.rb_history.proofs.Words.{◌≡◌, ◌++◌, List, ℕ, codes, decimal, append_assoc, compact_text, account_json}
use Rattle.rb_history.proofs.Public.Appended.{both, failed, then}
use Rattle.rb_history.proofs.write.account.append_asked.Goals as goal

asked_text : (front account n : List ℕ)
    → (front ++ (codes "[" ++ (account ++ codes ","))) ++ (n ++ codes "]}") ≡ front ++
    ((codes "[" ++ (account ++ (codes "," ++ (n ++ codes "]")))) ++ codes "}")
asked_text front account n = simp append_assoc

pub returns-in_err-append_account : goal.returns-in_err-append_account
returns-in_err-append_account c =
    failed _ c.args.out.now.items _ _ _ _ c.from_residual-in_err-append_account.ensures.0 c.in_ok-append.ensures
    c.in_err-append_account.ensures

pub returns : goal.returns
returns c =
    let two = both c.args.out.now.items _ _ _ _ c.in_ok-append.ensures c.in_ok-append_account.ensures in
    then _ c.args.out.now.items _ _ _ _ _ two c.append_number.ensures
    (asked_text c.args.front.now (compact_text (account_json c.args.config.now c.args.place)) (decimal c.args.n))
