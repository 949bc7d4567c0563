use Rattle.rb_history.proofs.Words.{◌≡◌, ◌++◌, List, ℕ, [], codes, decimal, ap, ◌∙◌, append_assoc, append-nil, compact_text, account_json}
use Rattle.rb_history.proofs.Words.{deps_json}
use Rattle.rb_history.proofs.Public.Appended.{both, failed, then}
use Rattle.rb_history.proofs.write.shadow.append_front.Goals as goal

front_text : (account amount deps : List ℕ)
    → ((codes "{\"shadow\":{\"account\":" ++ (account ++ [])) ++ (codes ",\"amount\":" ++ (amount ++ codes ",\"deps\":"))) ++ deps ≡ codes
    "{\"shadow\":{\"account\":" ++ (account ++ (codes ",\"amount\":" ++ (amount ++ (codes ",\"deps\":" ++ deps))))
front_text account amount deps = ap (λ l.
    ((codes "{\"shadow\":{\"account\":" ++ l) ++ (codes ",\"amount\":" ++ (amount ++ codes ",\"deps\":"))) ++ deps) (append-nil account)
    ∙ simp append_assoc

pub returns : goal.returns
returns c =
    let old = c.args.out.now.items in
    let made = c.args.shadow.now in
    let account = compact_text (account_json c.args.config.now made.account) in
    let written = λ (version : ℕ). compact_text (deps_json version made.deps) in
    let two = both old _ _ _ _ c.in_ok-append_account.ensures c.in_ok-append_number.ensures in
    then _ old _ _ _ _ _ two c.append_deps.ensures (front_text account (decimal made.amount) (written c.version.result)
    ∙ ap (λ v. codes "{\"shadow\":{\"account\":" ++
    (account ++ (codes ",\"amount\":" ++ (decimal made.amount ++ (codes ",\"deps\":" ++ written v))))) c.version.ensures.same)

pub returns-in_err-append_number : goal.returns-in_err-append_number
returns-in_err-append_number c =
    failed _ c.args.out.now.items _ _ _ _ c.from_residual-in_err-append_number.ensures.0 c.in_ok-append_account.ensures
    c.in_err-append_number.ensures
