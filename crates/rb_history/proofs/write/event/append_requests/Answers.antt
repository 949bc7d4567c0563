use Rattle.rb_history.proofs.Words.{escape_byte, request_json, add-one, arith, codes, drop-cons, rules}
use Rattle.rb_history.proofs.Public.Listed.{item_written, list_between, failed_behind, front_more}
use Rattle.rb_history.proofs.write.event.append_requests.Goals as goal

pub loop-request-preserved : goal.loop-request-preserved
loop-request-preserved c =
    let requests = c.args.requests.now in
    let i = c.loop-request.request-index in
    record {
      utf8 = search rules;
      front = front_more _ _ _ _ c.loop-request.invariant.front c.in_ok-append_listed_request.ensures;
      written = item_written (request_json c.args.config.now) _ _ _ _ requests i _
          (rw add-one (drop-cons requests i _ (omega arith))) c.in_ok-append_listed_request.ensures c.loop-request.invariant.written;
    }

pub returns : goal.returns
unfolding escape_byte
returns c = list_between (request_json c.args.config.now) _ c.args.out.now.items _ _ c.loop-request.comma.now
    (codes "{\"batch\":[") (codes "}") c.args.requests.now c.loop-request.request-index (omega arith)
    c.loop-request.invariant.written c.append-2.ensures

pub returns-in_err-append_listed_request : goal.returns-in_err-append_listed_request
returns-in_err-append_listed_request c = failed_behind _ _ _ _ _ c.from_residual-in_err-append_listed_request.ensures.0
    c.loop-request.invariant.front c.in_err-append_listed_request.ensures
