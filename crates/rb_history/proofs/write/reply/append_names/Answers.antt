use Rattle.rb_history.proofs.Words.{escape_byte, name_json, Blue, [], add-one, ap, arith, codes, cond, drop-cons, ◌++◌, map}
use Rattle.rb_history.proofs.Public.Appended.{failed_first, front_of_sum}
use Rattle.rb_history.proofs.Public.Listed.{item_written, list_between, rest_text, failed_behind, front_more}
use Rattle.rb_history.proofs.write.reply.append_names.Goals as goal

pub loop-name-init : goal.loop-name-init
loop-name-init c = record {
  front = front_of_sum _ _ _ c.in_ok-append.ensures;
  written = ap (λ l. l ++ rest_text [] (map name_json c.args.names.now)) c.in_ok-append.ensures;
}

pub returns-in_err-append : goal.returns-in_err-append
returns-in_err-append c = failed_first _ _ _ _ c.from_residual.ensures.0 c.in_err-append.ensures

pub loop-name-preserved : goal.loop-name-preserved
loop-name-preserved c =
    let names = c.args.names.now in
    let i = c.loop-name.name-index in
    record {
      front = front_more _ _ _ _ c.loop-name.invariant.front c.in_ok-append_listed_name.ensures;
      written = item_written name_json _ _ _ _ names i _ (rw add-one (drop-cons names i (Blue 0 0) (omega arith)))
          c.in_ok-append_listed_name.ensures c.loop-name.invariant.written;
    }

pub returns : goal.returns
unfolding escape_byte
returns c =
    list_between name_json _ c.args.out.now.items _ _ (cond c.loop-name.comma (codes ",") []) (codes "{\"names\":[")
    (codes "}") c.args.names.now c.loop-name.name-index (omega arith) c.loop-name.invariant.written c.append-2.ensures

pub returns-in_err-append_listed_name : goal.returns-in_err-append_listed_name
returns-in_err-append_listed_name c = failed_behind _ _ _ _ _ c.from_residual-in_err-append_listed_name.ensures.0
    c.loop-name.invariant.front c.in_err-append_listed_name.ensures
