use Rattle.rb_history.proofs.Words.{accounts_of, start_json, add-one, ap, arith, length, rules, map}
use Rattle.rb_history.proofs.Public.Appended.{then}
use Rattle.rb_history.proofs.Public.Listed.{item_written, items_written, whole_text, failed_behind, front_more}
use Rattle.rb_history.proofs.ConfigBack.{drop_accounts, few_accounts}
use Rattle.rb_history.proofs.write.config.append_accounts.Goals as goal

pub loop-place-preserved : goal.loop-place-preserved
loop-place-preserved c =
    let s = c.args.config.now in
    let i = c.loop-place.place in
    let named = ap length c.accounts.ensures.names in
    let started = ap length c.accounts.ensures.starts in
    record {
      utf8 = search rules;
      front = front_more _ _ _ _ c.loop-place.invariant.front c.in_ok-append_start.ensures;
      written = item_written start_json _ _ _ _ (accounts_of s.names s.starts) i _
          (rw add-one (drop_accounts s.names s.starts i (omega arith) (omega arith))) c.in_ok-append_start.ensures
          c.loop-place.invariant.written;
    }

pub returns : goal.returns
returns c =
    let s = c.args.config.now in
    let few = few_accounts s.names s.starts in
    let started = ap length c.accounts.ensures.starts in
    let accounts = accounts_of s.names s.starts in
    then _ c.args.out.now.items _ _ _ _ _ (items_written start_json _ _ _ accounts c.loop-place.place (omega arith)
    c.loop-place.invariant.written) c.append.ensures (whole_text (map start_json accounts))

pub returns-in_err-append_start : goal.returns-in_err-append_start
returns-in_err-append_start c =
    failed_behind _ _ _ _ _ c.from_residual.ensures.0 c.loop-place.invariant.front c.in_err-append_start.ensures
