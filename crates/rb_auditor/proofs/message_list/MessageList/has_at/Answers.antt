-- The message is the one that is read.
use Rattle.std.proofs.Common.{◌∙◌, Some, ap, sym}
use Rattle.rb_auditor.proofs.Results.{denied}
use Rattle.rb_auditor.proofs.message_list.MessageList.has_at.Goals as goal

pub returns-in-Some : goal.returns-in-Some
returns-in-Some c =
    (λ yes. sym c.in-Some.ensures ∙ ap (λ m. Some m) (c.same.ensures.0 yes), λ there. c.same.ensures.1 cc)

pub returns-in-None : goal.returns-in-None
returns-in-None c = denied _ (λ there. cc)
