-- The names of the file and of the bank are the texts of their options.
use Rattle.std.proofs.Common.{◌∙◌, rules, codes}
use Rattle.clap.specs.Words.{found_of}
use Rattle.clap.proofs.WalkLemmas.{first_value-rows}
use Rattle.rb_cli.proofs.words.site.Goals as goal

pub returns-in_err-journal : goal.returns-in_err-journal
returns-in_err-journal c =
    let file = first_value-rows (found_of c.args.given.now) (codes "journal") in
    search rules

pub returns-then-switch : goal.returns-then-switch
returns-then-switch c =
    let file = first_value-rows (found_of c.args.given.now) (codes "journal") in
    search rules

pub returns : goal.returns
returns c =
    let file = first_value-rows (found_of c.args.given.now) (codes "journal") in
    let bank = c.get_str-bank.ensures ∙ first_value-rows (found_of c.args.given.now) (codes "bank") in
    rw bank (search rules)
