use Rattle.std.proofs.Common.{◌∙◌}
use Rattle.rb_inbox.proofs.Rows.{red_of}
use Rattle.rb_inbox.proofs.inbox.Inbox.red_row.Goals as goal

pub returns-clause-held : goal.returns-clause-held
returns-clause-held c = c.row.ensures.held ∙ red_of c.args.self.now.held
