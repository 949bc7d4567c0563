use Rattle.rb_history.proofs.Words.{◌≡◌, ◌++◌, List, ℕ, true, codes, decimal, append_assoc, ap, sym, ◌∙◌, escape_byte, compact_text}
use Rattle.rb_history.proofs.Words.{members_text, label_of, word_of, account_json, deps_json, last_members, name_json}
use Rattle.rb_history.proofs.Public.Appended.{both, failed, then}
use Rattle.rb_history.proofs.Plain.{quoted_label}
use Rattle.rb_history.proofs.write.shadow.append_shadow.Goals as goal

shadow_text : (account amount deps home kind name last : List ℕ)
    → ((codes "{\"shadow\":{\"account\":" ++ (account ++ (codes ",\"amount\":" ++ (amount ++ (codes ",\"deps\":" ++ deps))))) ++ (codes
    ",\"home\":" ++ (home ++ (codes ",\"kind\":\"" ++ (kind ++ (codes "\",\"name\":" ++ (name ++ last))))))) ++ codes "}"
    ≡ codes "{\"shadow\":" ++ ((codes
    "{\"account\":" ++ (account ++ (codes
    ",\"amount\":" ++ (amount ++ (codes
    ",\"deps\":" ++ (deps ++ (codes
    ",\"home\":" ++ (home ++ (codes
    ",\"kind\":" ++ ((codes "\"" ++ (kind ++ codes "\"")) ++ (codes ",\"name\":" ++ (name ++ last)))))))))))) ++ codes
    "}")
shadow_text account amount deps home kind name last = simp append_assoc

pub returns-in_err-append_back : goal.returns-in_err-append_back
returns-in_err-append_back c =
    failed _ c.args.out.now.items _ _ _ _ c.from_residual-in_err-append_back.ensures.0 c.in_ok-append_front.ensures
    c.in_err-append_back.ensures

pub returns : goal.returns
unfolding escape_byte
returns c =
    let old = c.args.out.now.items in
    let made = c.args.shadow in
    let account = compact_text (account_json c.args.config.now made.account) in
    let deps = compact_text (deps_json c.args.config.now.version made.deps) in
    let label = label_of made.kind in
    let name = compact_text (name_json made.name) in
    let last = members_text true (last_members c.args.config.now made.kind) in
    let amount = decimal made.amount in
    let home = decimal made.home in
    let whole = λ (kind : List ℕ). codes
    "{\"shadow\":" ++ ((codes "{\"account\":" ++
    (account ++ (codes ",\"amount\":" ++
    (amount ++ (codes ",\"deps\":" ++
    (deps ++ (codes ",\"home\":" ++
    (home ++ (codes ",\"kind\":" ++ (kind ++ (codes ",\"name\":" ++ (name ++ last)))))))))))) ++ codes "}") in
    let two = both old _ _ _ _ c.in_ok-append_front.ensures c.in_ok-append_back.ensures in
    then _ old _ _ _ _ _ two c.append.ensures
    (shadow_text account amount deps home (word_of label) name last ∙ ap whole (sym (quoted_label label)))
