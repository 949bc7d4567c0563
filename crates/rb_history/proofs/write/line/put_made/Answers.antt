use Rattle.rb_history.proofs.Words.{◌≡◌, ◌++◌, codes, append_assoc, ap, ◌∙◌, sym, List, ℕ, escape_byte, quoted, name_text, word_of}
use Rattle.rb_history.proofs.Plain.{quoted_label}
use Rattle.rb_history.proofs.Put.{placed_is, placed_then}
use Rattle.rb_history.proofs.write.line.put_made.Goals as goal

-- an object of a word, in its quotes, and a name
abbrev made_with : List ℕ → List ℕ → List ℕ
made_with label name = codes "{\"kind\":" ++ (label ++ (codes ",\"name\":" ++ (name ++ codes "}")))

-- the same, piece by piece
abbrev made_by : List ℕ → List ℕ → List ℕ
made_by label name = codes "{\"kind\":\"" ++ (label ++ (codes "\",\"name\":" ++ (name ++ codes "}")))

made_text : (label name : List ℕ) → made_by label name ≡ made_with (codes "\"" ++ (label ++ codes "\"")) name
made_text label name = simp append_assoc

pub returns : goal.returns
unfolding escape_byte
returns c =
    let label = word_of c.args.kind in
    let name = quoted (name_text c.args.name) in
    let same = made_text label name ∙ ap (λ l. made_with l name) (sym (quoted_label c.args.kind)) in
    placed_is same (placed_then c.put_text-at.ensures (placed_then c.put_word-at.ensures.text (placed_then c.put_text-at-2.ensures
    (placed_then c.put_name-at.ensures.text c.put_text.ensures))))
