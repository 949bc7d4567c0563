-- The command has its options.
use Rattle.std.proofs.Common.{◌∙◌, [], ◌∷◌, ap, map, refl}
use Rattle.clap.specs.Words.{rule_of}
use Rattle.rb_money.specs.declared.limits.TheConstants.{MOST_SITES}
use Rattle.rb_cli.specs.declared.words.TheConstants.{MOST_TELLERS}
use Rattle.rb_cli.specs.Words.{threads_line}
use Rattle.rb_cli.proofs.Added.{ranged}
use Rattle.rb_cli.proofs.command_line.threads.Goals as goal

pub returns : goal.returns
returns c =
    let sites = c.with_numbers.ensures ∙ ap (ranged 2 MOST_SITES) c.option-sites.ensures in
    let tellers = c.with_numbers-2.ensures ∙ ap (ranged 1 MOST_TELLERS) c.option-tellers.ensures in
    let seed = c.with_numbers-3.ensures ∙ ap (ranged 0 4294967295) c.option-seed.ensures in
    c.part.ensures threads_line.top.rules
    (ap (map rule_of) c.in_ok-options.ensures.items ∙ (λ i. sites i ∷ tellers i ∷ seed i ∷ [])) refl
