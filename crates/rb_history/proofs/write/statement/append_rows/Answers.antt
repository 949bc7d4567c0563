use Rattle.rb_history.proofs.Words.{row_json, [], add-one, ap, append_assoc, arith, codes, decimal, drop-cons, refl, sym, ◌++◌, ◌∙◌}
use Rattle.rb_history.proofs.Words.{take-length, map}
use Rattle.rb_history.proofs.Public.Appended.{then}
use Rattle.rb_history.proofs.Public.Listed.{rest_text, whole_text, item_written, items_written, failed_behind, front_more}
use Rattle.rb_history.proofs.write.statement.append_rows.Goals as goal

pub loop-row-init : goal.loop-row-init
loop-row-init c = record { front = take-length c.args.out.now.items; written = refl }

pub loop-row-preserved : goal.loop-row-preserved
loop-row-preserved c =
    let i = c.loop-row.row-index in
    record {
      front = front_more _ _ _ _ c.loop-row.invariant.front c.in_ok-append_row.ensures;
      written = item_written row_json _ _ _ _ c.args.rows.now i _ (rw add-one (drop-cons c.args.rows.now i _
          (omega arith)))
          c.in_ok-append_row.ensures c.loop-row.invariant.written;
    }

pub returns : goal.returns
returns c =
    let list = rest_text [] (map row_json c.args.rows.now) in
    let back = codes ",\"start\":" ++ (decimal c.args.start ++ codes "}") in
    then _ c.args.out.now.items _ _ list (codes "]" ++ back) _
    (items_written row_json _ _ _ c.args.rows.now c.loop-row.row-index (omega arith) c.loop-row.invariant.written)
    c.append_number.ensures (sym (append_assoc list (codes "]") back) ∙ ap (λ l. l ++ back) (whole_text
    (map row_json c.args.rows.now)))

pub returns-in_err-append_row : goal.returns-in_err-append_row
returns-in_err-append_row c =
    failed_behind _ _ _ _ _ c.from_residual.ensures.0 c.loop-row.invariant.front c.in_err-append_row.ensures
