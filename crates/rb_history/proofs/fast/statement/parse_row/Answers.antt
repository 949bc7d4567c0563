use Rattle.rb_history.proofs.Words.{token_text, boolean, behind_quote, word_of, name_text, List, ap, append_assoc, codes, decimal, of_z}
use Rattle.rb_history.proofs.Words.{rules, sym, to_z, w64, ℕ, ◌++◌, ◌∙◌, ◌≡◌, signed_decimal}
use Rattle.rb_history.proofs.Plain.{integer_text, name_written}
use Rattle.rb_history.proofs.fast.statement.parse_row.Goals as goal

row_text : (position name kind moved cancelled balance rest : List ℕ)
    → (codes "[" ++ (position ++ codes ",\"")) ++
    (name ++ (codes ",\"" ++ (kind ++ (codes
    "," ++ (moved ++ (codes "," ++ (cancelled ++ ((codes "," ++ (balance ++ codes "]")) ++ rest))))))))
    ≡ (codes "[" ++ (position ++ (codes
    ",\"" ++ (name ++ (codes ",\"" ++
    (kind ++ (codes "," ++ (moved ++ (codes "," ++ (cancelled ++ (codes "," ++ (balance ++ codes "]")))))))))))) ++ rest
row_text position name kind moved cancelled balance rest = simp append_assoc

pub returns : goal.returns
returns c =
    let position = decimal c.in_ok-position.position in
    let name = behind_quote (name_text c.in_ok-name.name) in
    let kind = behind_quote (word_of c.in_ok-kind.kind) in
    let moved = signed_decimal c.in_ok-moved.moved in
    let cancelled = token_text (boolean c.in_ok-cancelled.cancelled) in
    let balance = decimal c.in_ok-balance.balance in
    let rest = c.in_ok-balance.rest.now in
    let whole = λ (m : List ℕ). (codes
    "[" ++ (position ++ (codes ",\"" ++
    (name ++ (codes ",\"" ++ (kind ++ (codes
    "," ++ (m ++ (codes "," ++ (cancelled ++ (codes "," ++ (balance ++ codes "]")))))))))))) ++ rest in
    let named = name_written c.in_ok-name.name _ _ c.in_ok-name.ensures.0 c.in_ok-name.ensures.1 in
    let same : to_z w64 (of_z w64 c.in_ok-moved.moved) ≡ c.in_ok-moved.moved = search rules in
    rw same (
      (c.in_ok-position.ensures.0, c.in_ok-name.ensures.0, c.in_ok-moved.ensures.0, c.in_ok-balance.ensures.0),
      c.in_ok-position.ensures.1 ∙ ap (λ l. (codes "[" ++ (position ++ codes ",\"")) ++ l)
          (named ∙ ap (λ l. name ++ l)
          (c.in_ok-parse_prefix.ensures ∙ ap (λ l. codes ",\"" ++ l)
          (c.in_ok-kind.ensures ∙ ap (λ l. kind ++ l)
          (c.in_ok-parse_prefix-2.ensures ∙ ap (λ l. codes "," ++ l)
          (c.in_ok-moved.ensures.1 ∙ ap (λ l. moved ++ l)
          (c.in_ok-parse_prefix-3.ensures ∙ ap (λ l. codes "," ++ l)
          (c.in_ok-cancelled.ensures ∙ ap (λ l. cancelled ++ l) c.in_ok-balance.ensures.1)))))))
          ∙ row_text position name kind moved cancelled balance rest ∙ ap whole (sym (integer_text c.in_ok-moved.moved)),
    )
