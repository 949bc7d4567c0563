use Rattle.rb_history.proofs.Words.{◌≡◌, IsUtf8, false, true, rules, sym, subst, line}
use Rattle.rb_history.proofs.Utf8.{line_utf8}
use Rattle.rb_history.proofs.write.reply.write_reply.Goals as goal

pub unreachable-requires : goal.unreachable-requires
unreachable-requires c =
    let bytes : c.append_reply.new.out.items ≡ line c.args.reply.now = search rules in
    let never : false ≡ true = c.in-Err.ensures.succeeds (subst IsUtf8 (sym bytes) (line_utf8 c.args.reply.now)) in
    cc
