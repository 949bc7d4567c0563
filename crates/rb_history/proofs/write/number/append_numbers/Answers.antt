use Rattle.rb_history.proofs.Words.{number_json, [], ap, arith, codes, cond, decimal, ◌++◌, ◌∙◌, drop_all, map}
use Rattle.rb_history.proofs.Public.Listed.{item_written, failed_behind, front_more, list_behind}
use Rattle.rb_history.proofs.Reading.{item_here}
use Rattle.rb_history.proofs.write.number.append_numbers.Goals as goal

pub loop-number-preserved : goal.loop-number-preserved
loop-number-preserved g c =
    let comma = cond c.loop-number.comma (codes ",") [] in
    let added = c.in_ok-append_listed_number.ensures
    ∙ ap (λ n. c.loop-number.out.items ++ (comma ++ decimal n)) c.wide.ensures in
    record {
      front = front_more _ _ _ _ c.loop-number.invariant.front c.in_ok-append_listed_number.ensures;
      written = item_written (λ n. number_json (g.N.Number.value n)) _ _ comma _ c.args.numbers.now
          c.loop-number.number-index _
          (item_here c.args.numbers.now _ _ (omega arith) c.number-item.is) added c.loop-number.invariant.written;
    }

pub returns : goal.returns
returns g c = list_behind _ c.args.out.now.items _ _ (cond c.loop-number.comma (codes ",") []) (codes "[") _ _
    (ap (map (λ n. number_json (g.N.Number.value n))) (drop_all c.loop-number.number-index c.args.numbers.now
    (omega arith)))
    c.loop-number.invariant.written c.append-2.ensures

pub returns-in_err-append_listed_number : goal.returns-in_err-append_listed_number
returns-in_err-append_listed_number g c = failed_behind _ _ _ _ _ c.from_residual-in_err-append_listed_number.ensures.0
    c.loop-number.invariant.front c.in_err-append_listed_number.ensures
