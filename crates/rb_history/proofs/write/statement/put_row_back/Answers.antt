use Rattle.rb_history.proofs.Words.{◌++◌, codes, decimal, ap, rules, FitsSigned, signed_decimal, w64, to_z-of_z, token_text, boolean}
use Rattle.rb_history.proofs.Put.{placed_is, placed_then}
use Rattle.rb_history.proofs.write.statement.put_row_back.Goals as goal

pub returns : goal.returns
returns c =
    let row = c.args.row.now in
    let fits : FitsSigned w64 row.moved = search rules in
    let rest = (codes "," ++ (token_text (boolean row.cancelled) ++ codes ",")) ++ (decimal row.balance ++ codes "]") in
    placed_is (ap (λ z. signed_decimal z ++ rest) (to_z-of_z w64 row.moved fits)) (placed_then c.put_integer-at.ensures.text
    (placed_then c.put_cancelled-at.ensures.text (placed_then c.put_number-at.ensures.text c.put_text.ensures)))
