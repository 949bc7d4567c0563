use Rattle.std.proofs.Common.{◌≡◌, ◌++◌, ap, ◌∙◌, rules}
use Rattle.rb_money.specs.declared.refusal.TheConstants.{OTHER_BANK_REFUSED}
use Rattle.rb_node.specs.Answers.{line_of, refused_json}
use Rattle.rb_node.proofs.again.append_other_bank.Goals as goal

pub returns-clause-added : goal.returns-clause-added
returns-clause-added c =
    let old = c.args.answers.now.items in
    let whole : c.whole_or_none.new.text.items ≡ old ++ line_of (refused_json c.none-no_id.result OTHER_BANK_REFUSED) = search rules in
    whole ∙ ap (λ id. old ++ line_of (refused_json id OTHER_BANK_REFUSED)) c.none-no_id.ensures
