use Rattle.rb_history.proofs.Words.{numbered_json, add-one, ap, arith, codes, drop-cons, get_or, rules, map}
use Rattle.rb_history.proofs.Public.Listed.{failed_behind, front_more, list_behind}
use Rattle.rb_history.proofs.SiteCounts.{numbered_end, one_written}
use Rattle.rb_history.proofs.write.counts.append_numbered.Goals as goal

pub loop-site-preserved : goal.loop-site-preserved
loop-site-preserved c =
    let counts = c.args.counts.now in
    let i = c.loop-site.site in
    let added = c.in_ok-next.ensures.added in
    record {
      utf8 = search rules;
      front = front_more _ _ _ _ c.loop-site.invariant.front added;
      written = one_written counts i (get_or counts i 0) _ _ c.loop-site.comma.now c.in_ok-next.next.now _
          (rw add-one (drop-cons counts i 0 (omega arith))) added c.in_ok-next.ensures.next c.loop-site.invariant.written;
    }

pub returns : goal.returns
returns c = list_behind _ c.args.out.now.items _ _ c.loop-site.comma.now (codes "[") _ _
    (ap (map numbered_json) (numbered_end c.args.counts.now c.loop-site.site (omega arith)))
    c.loop-site.invariant.written c.append-2.ensures

pub returns-in_err-next : goal.returns-in_err-next
returns-in_err-next c =
    failed_behind _ _ _ _ _ c.from_residual-in_err-next.ensures.0 c.loop-site.invariant.front
    c.in_err-next.ensures.added
