-- The command has its options.
use Rattle.std.proofs.Common.{◌∙◌, [], ◌∷◌, ap, map, refl}
use Rattle.std.proofs.lemmas.Result.{IfOk-weaker}
use Rattle.clap.specs.Words.{rule_of}
use Rattle.rb_money.specs.declared.limits.TheConstants.{MOST_HISTORY}
use Rattle.rb_cli.specs.Words.{site_line}
use Rattle.rb_cli.proofs.Added.{ranged}
use Rattle.rb_cli.proofs.command_line.site.Goals as goal

pub returns : goal.returns
returns c =
    let words = c.recorded.ensures in
    let me = c.with_numbers.ensures ∙ ap (ranged 0 15) c.option-me.ensures in
    let resend = c.with_numbers-2.ensures ∙ ap (ranged 0 MOST_HISTORY) c.option-resend.ensures in
    IfOk-weaker c.part.result _ _ (λ _ is. (words.0, words.1, is)) (c.part.ensures (site_line words.0).top.rules
    (ap (map rule_of) c.in_ok-options.ensures.items ∙ (λ i. me i ∷ c.option.ensures i ∷ c.switch.ensures i ∷ resend i
    ∷ words.2 i ∷ c.option-2.ensures i ∷ c.switch-2.ensures i ∷ [])) refl)
