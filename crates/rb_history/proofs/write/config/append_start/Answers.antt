use Rattle.rb_history.proofs.Words.{◌≡◌, ◌<◌, ◌++◌, List, ℕ, [], length, get_or, codes, decimal, ap, ◌∙◌, append_assoc, arith, rules}
use Rattle.rb_history.proofs.Words.{unwrap_or, slice_get-get_or, quoted, compact_text, account_json}
use Rattle.rb_history.proofs.Public.Appended.{both, failed, then}
use Rattle.rb_history.proofs.write.config.append_start.Goals as goal

start_text : (comma account n : List ℕ)
    → (comma ++ (codes "[" ++ (account ++ codes ","))) ++ (n ++ codes "]") ≡ comma ++ (codes
    "[" ++ (account ++ (codes "," ++ (n ++ codes "]"))))
start_text comma account n = simp append_assoc

pub returns : goal.returns
returns c =
    let old = c.args.out.now.items in
    let comma = c.args.comma.now in
    let s = c.args.config.now in
    let place = c.args.place.0 in
    let start = c.in-Some.field-0.0 in
    let account = compact_text (account_json s c.args.place) in
    let equal = c.accounts.ensures.configured.starts_of_all in
    let within : place < length s.names = omega arith in
    let named : account ≡ quoted (get_or s.names place []) = ap (λ o. quoted (unwrap_or o (codes "?")))
    (slice_get-get_or s.names place [] within) in
    let begun : start ≡ get_or s.starts place 0 = search rules in
    let two = both old _ _ _ _ c.in_ok-append.ensures c.in_ok-append_account.ensures in
    then _ old _ _ _ _ _ two c.append_number.ensures
    (start_text comma account (decimal start) ∙ ap (λ l. comma ++ (codes "[" ++ (l ++ (codes "," ++ (decimal start ++ codes "]"))))) named
    ∙ ap (λ n. comma ++ (codes "[" ++ (quoted (get_or s.names place []) ++ (codes "," ++ (decimal n ++ codes "]"))))) begun)

pub returns-in_err-append_account : goal.returns-in_err-append_account
returns-in_err-append_account c =
    failed _ c.args.out.now.items _ _ _ _ c.from_residual-in_err-append_account.ensures.0 c.in_ok-append.ensures
    c.in_err-append_account.ensures
