-- A site that has an entry left has spare capacity for it.
use Rattle.std.proofs.Common.{◌<◌, length, subst}
use Rattle.rb_auditor.proofs.Walking
use Rattle.rb_auditor.proofs.checking.following.next_entry.Goals as goal

pub returns-clause-room : goal.returns-clause-room
returns-clause-room c =
    Walking.if_some _ _ _ c.get.result c.get.ensures.lookup.3 (λ x m.
    Walking.room_left c.args.site.now c.args.history.now c.requires.along c.requires.replays
    (subst (λ k. k < length c.args.history.now) c.len.ensures m.0))
