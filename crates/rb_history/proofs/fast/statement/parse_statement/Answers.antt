use Rattle.rb_history.proofs.Words.{◌≡◌, ◌++◌, List, ℕ, codes, decimal, false, ap, ◌∙◌, append_assoc, map, escape_byte, items_of}
use Rattle.rb_history.proofs.Words.{items_text, row_json}
use Rattle.rb_history.proofs.fast.statement.parse_statement.Goals as goal

statement_text : (balance rows start rest : List ℕ)
    → (codes "{\"balance\":" ++ (balance ++ codes ",\"rows\":[")) ++ (rows ++ ((codes ",\"start\":" ++ (start ++ codes "}")) ++ rest))
    ≡ (codes "{\"balance\":" ++ (balance ++ (codes ",\"rows\":[" ++ (rows ++ (codes ",\"start\":" ++ (start ++ codes "}")))))) ++ rest
statement_text balance rows start rest = simp append_assoc

pub returns : goal.returns
unfolding escape_byte
returns c =
    let balance = decimal c.in_ok-balance.balance in
    let start = decimal c.in_ok-start.start in
    let list = items_text false (items_of (map row_json c.in_ok-rows.rows.items)) in
    let rest = c.in_ok-start.rest.now in
    rw c.new.ensures (
      (c.in_ok-start.ensures.0, c.in_ok-rows.ensures.0, c.in_ok-balance.ensures.0),
      c.in_ok-balance.ensures.1 ∙ ap (λ l. (codes "{\"balance\":" ++ (balance ++ codes ",\"rows\":[")) ++ l)
          (c.in_ok-rows.ensures.1 ∙ ap (λ l. list ++ l) c.in_ok-start.ensures.1) ∙ statement_text balance list start rest,
    )
