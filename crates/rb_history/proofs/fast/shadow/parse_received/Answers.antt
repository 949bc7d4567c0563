use Rattle.rb_history.proofs.Words.{◌++◌, codes, subst, BeginsWithCounts}
use Rattle.rb_history.proofs.Receipts.{event_written, shadow_fits}
use Rattle.rb_history.proofs.fast.shadow.parse_received.Goals as goal

pub returns-clause-event : goal.returns-clause-event
returns-clause-event c =
    let s = c.args.config.now in
    let front = c.in_ok-account in
    let list = front.rest.now in
    let behind = c.in_ok-rest.rest.now in
    let back = c.in_ok-back in
    let blue = c.parse_counts.new.counts in
    let counts : BeginsWithCounts s.version blue list behind = subst (λ v. BeginsWithCounts v blue list behind) c.version.ensures.same
    c.in_ok-rest.ensures in (
      shadow_fits s front.account front.amount blue list behind back.rest.now back.back front.ensures.0 front.ensures.1 counts back.ensures,
      event_written s front.account front.amount blue (codes "{" ++ c.args.text.now) list behind back.rest.now back.back
          front.ensures.2 counts back.ensures,
    )
