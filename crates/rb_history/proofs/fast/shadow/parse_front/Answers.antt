use Rattle.rb_history.proofs.Words.{◌≡◌, ◌++◌, List, ℕ, codes, decimal, ap, ◌∙◌, append_assoc, account_behind_quote}
use Rattle.rb_history.proofs.fast.shadow.parse_front.Goals as goal

front_text : (account amount rest : List ℕ)
    → codes "{" ++ ((codes "\"shadow\":{\"account\":\"" ++ (account ++ codes ","))
    ++ ((codes "\"amount\":" ++ (amount ++ codes ",\"deps\":[")) ++ rest))
    ≡ (codes "{\"shadow\":{\"account\":\"" ++ (account ++ (codes ",\"amount\":" ++ (amount ++ codes ",\"deps\":[")))) ++ rest
front_text account amount rest = ap (λ l. codes "{" ++ l) (simp append_assoc)

pub returns : goal.returns
returns c =
    let account = account_behind_quote c.args.config.now c.in_ok-account.account in (
      c.in_ok-account.ensures.0,
      c.in_ok-amount.ensures.0,
      ap (λ l. codes "{" ++ l) (c.in_ok-account.ensures.1
          ∙ ap (λ l. (codes "\"shadow\":{\"account\":\"" ++ (account ++ codes ",")) ++ l) c.in_ok-amount.ensures.1)
          ∙ front_text account (decimal c.in_ok-amount.amount) c.in_ok-amount.rest.now,
    )
