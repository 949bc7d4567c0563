use Rattle.rb_history.proofs.Words.{name_json, Blue, items_of, items_text, [], add-one, ap, append-nil, append_assoc, arith, codes}
use Rattle.rb_history.proofs.Words.{drop-cons, false, sym, ◌++◌, ◌∙◌, drop_all, map}
use Rattle.rb_history.proofs.Public.Appended.{front_of_sum}
use Rattle.rb_history.proofs.Public.Listed.{item_written, rest_text, failed_behind, front_more, list_behind}
use Rattle.rb_history.proofs.write.verdict.append_list.Goals as goal

pub loop-name-init : goal.loop-name-init
loop-name-init c = record {
  front = front_of_sum _ _ _ c.in_ok-append_three.ensures;
  written = ap (λ l. l ++ rest_text [] (map name_json c.args.names.now)) (c.in_ok-append_three.ensures
      ∙ ap (λ l. c.args.out.now.items ++ (c.args.front.now ++ l)) (append-nil (codes "[")));
}

pub loop-name-preserved : goal.loop-name-preserved
loop-name-preserved c =
    let names = c.args.names.now in
    let i = c.loop-name.name-index in
    record {
      front = front_more _ _ _ _ c.loop-name.invariant.front c.in_ok-append_listed_name.ensures;
      written = item_written name_json _ _ _ _ names i _ (rw add-one (drop-cons names i (Blue 0 0) (omega arith)))
          c.in_ok-append_listed_name.ensures c.loop-name.invariant.written;
    }

pub returns : goal.returns
returns c =
    let none = ap (map name_json) (drop_all c.loop-name.name-index c.args.names.now (omega arith)) in
    rw (sym (append_assoc c.args.front.now (codes "[") (items_text false (items_of (map name_json c.args.names.now)))))
    (list_behind _ c.args.out.now.items _ _ _ _ _ _ none c.loop-name.invariant.written c.append.ensures)

pub returns-in_err-append_listed_name : goal.returns-in_err-append_listed_name
returns-in_err-append_listed_name c = failed_behind _ _ _ _ _ c.from_residual-in_err-append_listed_name.ensures.0
    c.loop-name.invariant.front c.in_err-append_listed_name.ensures
