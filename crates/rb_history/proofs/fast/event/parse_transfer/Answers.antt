use Rattle.rb_history.proofs.Words.{escape_byte, account_behind_quote, account_json, number_json, three_json, List, ap, append_assoc, codes}
use Rattle.rb_history.proofs.Words.{decimal, ℕ, ◌++◌, ◌∙◌, ◌≡◌}
use Rattle.rb_history.proofs.Plain.{member_of}
use Rattle.rb_history.proofs.fast.event.parse_transfer.Goals as goal

transfer_written : (text from to amount more rest : List ℕ) → text ≡ (codes "transfer\":[\"" ++ (from ++ codes ",\"")) ++ more
    → more ≡ (to ++ (codes "," ++ (amount ++ codes "]"))) ++ rest
    → text ≡ codes "transfer\":[\"" ++ ((from ++ (codes ",\"" ++ (to ++ (codes "," ++ (amount ++ codes "]"))))) ++ rest)
transfer_written text from to amount more rest e f =
    let whole : (codes "transfer\":[\"" ++ (from ++ codes ",\"")) ++ ((to ++ (codes "," ++ (amount ++ codes "]"))) ++ rest)
    ≡ codes "transfer\":[\"" ++ ((from ++ (codes ",\"" ++ (to ++ (codes "," ++ (amount ++ codes "]"))))) ++ rest) = simp append_assoc in
    e ∙ ap (λ l. (codes "transfer\":[\"" ++ (from ++ codes ",\"")) ++ l) f ∙ whole

pub returns : goal.returns
unfolding escape_byte
returns c =
    let s = c.args.config.now in
    let from = c.in_ok-from in
    let to = c.in_ok-to in (
      (from.ensures.0, to.ensures.0, to.ensures.1),
      member_of (codes "transfer") (three_json (account_json s from.from) (account_json s to.to) (number_json to.amount))
          (transfer_written c.args.text.now (account_behind_quote s from.from) (account_behind_quote s to.to)
          (decimal to.amount) from.rest.now to.rest.now from.ensures.1 to.ensures.2),
    )
