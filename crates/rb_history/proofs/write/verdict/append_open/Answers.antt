use Rattle.rb_history.proofs.Words.{escape_byte, list_json, name_json, compact_text, ap, arith, codes, rules, ◌++◌, ◌∙◌}
use Rattle.std.proofs.lemmas.Simd.{map-map}
use Rattle.rb_history.proofs.Public.Listed.{item_written, list_between, failed_behind, front_more}
use Rattle.rb_history.proofs.Reading.{item_here}
use Rattle.rb_history.proofs.write.verdict.append_open.Goals as goal

pub loop-names-preserved : goal.loop-names-preserved
loop-names-preserved c =
    let comma = c.loop-names.comma.now in
    let added = c.in_ok-append_list.ensures
    ∙ ap (λ names. c.loop-names.out.items ++ (comma ++ compact_text
    (list_json name_json names))) c.as_slice.ensures.value in
    record {
      utf8 = search rules;
      front = front_more _ _ _ _ c.loop-names.invariant.front c.in_ok-append_list.ensures;
      written = item_written (λ v. list_json name_json v.items) _ _ comma _ c.args.lacks.now c.loop-names.names-index _
          (item_here c.args.lacks.now _ _ (omega arith) c.names-item.is) added c.loop-names.invariant.written;
    }

pub returns : goal.returns
unfolding escape_byte
returns c =
    let lists = c.args.lacks.now in
    rw (map-map (list_json name_json) (λ v. v.items) lists)
    (list_between (λ v. list_json name_json v.items) _ c.args.out.now.items _ _ c.loop-names.comma.now
    (codes "{\"fault\":\"open\",\"lacks\":[") (codes "}") lists c.loop-names.names-index (omega arith)
    c.loop-names.invariant.written c.append-2.ensures)

pub returns-in_err-append_list : goal.returns-in_err-append_list
returns-in_err-append_list c = failed_behind _ _ _ _ _ c.from_residual-in_err-append_list.ensures.0
    c.loop-names.invariant.front c.in_err-append_list.ensures
