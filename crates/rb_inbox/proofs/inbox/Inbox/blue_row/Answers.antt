use Rattle.std.proofs.Common.{◌≡◌, ℕ, ◌+◌, ◌∙◌, ap, subst}
use Rattle.std.specs.Prelude.{filter}
use Rattle.rb_shadow.specs.Operations.{Among, is_blue_of}
use Rattle.rb_inbox.proofs.Rows.{blue_of, is_of, of_home}
use Rattle.rb_inbox.proofs.inbox.Inbox.blue_row.Goals as goal

held : (c : goal.After-row) → c.row.result.now ≡ filter (λ u. is_blue_of u.name c.args.site) c.args.self.now.held
held c = c.row.ensures.held ∙ ap (λ (k : ℕ). filter (is_of (k + 1)) c.args.self.now.held) c.from.ensures
    ∙ blue_of c.args.site c.args.self.now.held

pub returns-clause-held : goal.returns-clause-held
returns-clause-held c = held c

pub returns-clause-homes : goal.returns-clause-homes
returns-clause-homes c = λ u a. of_home c.args.site c.args.self.now.held u (subst (Among u) (held c) a) (c.row.ensures.row.numbered u a)
