use Rattle.rb_history.proofs.Words.{refl, compact_text, request_json}
use Rattle.rb_history.proofs.Public.Appended.{then}
use Rattle.rb_history.proofs.write.event.append_listed_request.Goals as goal

pub returns : goal.returns
returns c = then c.append_request.result c.args.out.now.items c.append.new.out.items c.append_request.new.out.items c.args.comma.now
    (compact_text (request_json c.args.config.now c.args.request)) _ c.in_ok-append.ensures c.append_request.ensures refl
