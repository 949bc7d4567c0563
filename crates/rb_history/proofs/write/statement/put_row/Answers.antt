use Rattle.rb_history.proofs.Words.{quoted, token_text, boolean, word_of, name_text, List, [], ap, append_assoc, codes, cond, decimal, sym}
use Rattle.rb_history.proofs.Words.{ℕ, ◌++◌, ◌∙◌, ◌≡◌, signed_decimal}
use Rattle.rb_history.proofs.Plain.{integer_text, quoted_label}
use Rattle.rb_history.proofs.Put.{placed_is, placed_then}
use Rattle.rb_history.proofs.write.statement.put_row.Goals as goal

-- a row, its kind's word in quotes
abbrev whole_row : List ℕ → List ℕ → List ℕ → List ℕ → List ℕ → List ℕ → List ℕ
whole_row position name label moved cancelled balance =
    codes "[" ++ (position ++ (codes "," ++ (name ++ (codes ","
    ++ (label ++ (codes "," ++ (moved ++ (codes "," ++ (cancelled ++ (codes "," ++ (balance ++ codes "]")))))))))))

-- the same in two parts
abbrev row_by : List ℕ → List ℕ → List ℕ → List ℕ → List ℕ → List ℕ → List ℕ
row_by position name label moved cancelled balance =
    (codes "[" ++ (position ++ (codes "," ++ (name ++ (codes ",\"" ++ (label ++ codes "\",")))))) ++ (moved
    ++ ((codes "," ++ (cancelled ++ codes ",")) ++ (balance ++ codes "]")))

row_text : (position name label moved cancelled balance : List ℕ) → row_by position name label moved cancelled balance
    ≡ whole_row position name (codes "\"" ++ (label ++ codes "\"")) moved cancelled balance
row_text position name label moved cancelled balance = simp append_assoc

pub returns : goal.returns
returns c =
    let row = c.args.row.now in
    let comma = cond c.args.comma (codes ",") [] in
    let position = decimal row.position in
    let name = quoted (name_text row.name) in
    let label = word_of row.kind in
    let moved = signed_decimal row.moved in
    let cancelled = token_text (boolean row.cancelled) in
    let balance = decimal row.balance in
    let text = λ (l m : List ℕ). whole_row position name l m cancelled balance in
    let same = row_text position name label moved cancelled balance ∙ ap (λ l. text l moved) (sym (quoted_label row.kind))
    ∙ ap (λ m. text (quoted label) m) (sym (integer_text row.moved)) in
    placed_is (ap (λ l. comma ++ l) same) (placed_then c.put_if-at.ensures (placed_then c.put_row_front-at.ensures.text
    c.put_row_back.ensures))
