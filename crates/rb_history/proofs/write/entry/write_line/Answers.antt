use Rattle.rb_history.proofs.Words.{◌≡◌, IsUtf8, [], false, true, inl, refl, rules, sym, subst, compact_text, entry_json}
use Rattle.rb_history.proofs.Texts.{entry_utf8}
use Rattle.rb_history.proofs.write.entry.write_line.Goals as goal

pub unreachable-requires : goal.unreachable-requires
unreachable-requires c =
    let line = compact_text (entry_json c.args.config.now c.args.site c.args.entry.now) in
    let bytes : c.append_line.new.out.items ≡ line = search rules in
    let never : false ≡ true = c.in-Err.ensures.succeeds
    (subst IsUtf8 (sym bytes) (entry_utf8 c.args.config.now c.args.site (record { id = []; entry = c.args.entry.now })
    c.sites-sites.ensures.configured (inl refl))) in
    cc
