use Rattle.std.proofs.Common.{◌++◌, [], ◌∷◌, append-nil, ap, sym, ◌∙◌}
use Rattle.rb_site.specs.declared.message.Message.{Message}
use Rattle.rb_node.specs.Kept.{names_sent}
use Rattle.rb_node.proofs.again.push_name.Goals as goal

pub returns-in-Token : goal.returns-in-Token
returns-in-Token c = sym (append-nil c.args.names.now.items)
    ∙ ap (λ (m : Message). c.args.names.now.items ++ names_sent (m ∷ [])) (sym c.in-Token.is)
