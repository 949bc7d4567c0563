use Rattle.rb_history.proofs.Words.{◌≡◌, IsUtf8, false, true, rules, sym, subst, compact_text, config_json}
use Rattle.rb_history.proofs.Texts.{config_utf8}
use Rattle.rb_history.proofs.write.config.write_config.Goals as goal

pub unreachable-requires : goal.unreachable-requires
unreachable-requires c =
    let bytes : c.append_config.new.out.items ≡ compact_text (config_json c.args.config.now) = search rules in
    let never : false ≡ true = c.in-Err.ensures.succeeds
    (subst IsUtf8 (sym bytes) (config_utf8 c.args.config.now c.sites-sites.ensures.configured)) in
    cc
