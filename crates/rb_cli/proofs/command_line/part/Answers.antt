-- The command has the options that were added in turn.
use Rattle.std.proofs.Common.{◌≡◌, ◌∙◌, ap, sym, subst, map, true, rules as search_rules}
use Rattle.std.specs.Prelude.{IfOk, fold}
use Rattle.std.specs.List.{list_all}
use Rattle.std.proofs.lemmas.Result.{IfOk-weaker}
use Rattle.clap.specs.Words.{app_of, new_app, rule_of, with_rule}
use Rattle.rb_cli.proofs.Added.{with_options}
use Rattle.rb_cli.proofs.command_line.part.Goals as goal

pub returns : goal.returns
returns c rules are simple =
    let old : app_of c.after_help.result ≡ new_app c.args.name.now = search search_rules in
    subst (λ rs. IfOk c.args-2.result (λ command. app_of command ≡ fold with_rule (new_app c.args.name.now) rs)) are
    (IfOk-weaker c.args-2.result _ _ (λ new adds.
    with_options c.after_help.result new c.args.options.items
    (subst (λ rs. list_all (λ rule. rule.is_simple) rs ≡ true) (sym are) simple) adds
    ∙ ap (λ app. fold with_rule app (map rule_of c.args.options.items)) old) c.args-2.ensures)
