-- The command has its options.
use Rattle.std.proofs.Common.{◌∙◌, Some, [], ◌∷◌, ap, map, refl}
use Rattle.clap.specs.Words.{Rule, rule_of}
use Rattle.clap.specs.declared.builder.action.ArgAction.TheVariants.{Append}
use Rattle.rb_money.specs.declared.limits.TheConstants.{MOST_SITES}
use Rattle.rb_cli.specs.Words.{close_line}
use Rattle.rb_cli.proofs.Added.{ranged}
use Rattle.rb_cli.proofs.command_line.close.Goals as goal

pub returns : goal.returns
returns c =
    let sites = c.with_numbers.ensures ∙ ap (ranged 2 MOST_SITES) c.option-next.ensures in
    let account = c.repeated.ensures ∙ ap (λ (r : Rule). record r { action = Some Append }) c.option-account.ensures in
    c.part.ensures close_line.top.rules
    (ap (map rule_of) c.in_ok-options.ensures.items ∙ (λ i. sites i ∷ account i ∷ c.journals.ensures i ∷ [])) refl
