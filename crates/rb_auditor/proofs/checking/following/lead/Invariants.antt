-- The order was followed so far, and what certifies can be followed on.
use Rattle.std.proofs.Common.{take, drop}
use Rattle.rb_auditor.specs.Certificates.{Certifies}
use Rattle.rb_auditor.specs.Findings.{lists_of}
use Rattle.rb_auditor.specs.Progress.{IsTaking}
use Rattle.rb_auditor.specs.Walks.{AreAlong, progress_of}
use Rattle.rb_auditor.proofs.Following.{IsFollowing}
use Rattle.rb_auditor.proofs.checking.following.lead.Given as goal

abbrev pub invariant-loop-place : goal.invariant-loop-place
invariant-loop-place l =
    AreAlong l.config (lists_of l.histories) l.sites.items
    × IsTaking (progress_of l.config (lists_of l.histories) (take l.place-index l.order) l.sites.items l.sent.messages.items)
    × (Certifies l.config (lists_of l.histories) l.order
    → IsFollowing (progress_of l.config (lists_of l.histories) (take l.place-index l.order) l.sites.items l.sent.messages.items)
    (drop l.place-index l.order))
