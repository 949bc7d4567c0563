-- The command has the files after it.
use Rattle.std.proofs.Common.{◌∙◌, [], ◌∷◌, ap, map, refl}
use Rattle.clap.specs.Words.{rule_of}
use Rattle.rb_cli.specs.Words.{files_line}
use Rattle.rb_cli.proofs.command_line.task.Goals as goal

pub returns : goal.returns
returns c = c.part.ensures (files_line c.args.name.now c.args.most).top.rules
    (ap (map rule_of) c.in_ok-options.ensures.items ∙ (λ i. c.files.ensures.rule i ∷ [])) refl
