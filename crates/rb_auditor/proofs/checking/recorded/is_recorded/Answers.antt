-- A history is recorded if the run of its events leaves it.
use Rattle.std.proofs.Common.{◌≡◌, ◌∙◌, sym}
use Rattle.rb_site.specs.Seen.{first_seen, next_sites}
use Rattle.rb_auditor.proofs.Recorded
use Rattle.rb_auditor.proofs.checking.recorded.is_recorded.Goals as goal

pub returns : goal.returns
returns c =
    let s = c.args.config.now in
    let h = c.args.history.now in
    let x = c.in_ok-site.site in
    let es = c.in_ok-events.events.items in
    let is : x ≡ next_sites (first_seen s c.args.me) es = cc (c.in_ok-site.ensures, c.as_slice.ensures.value) in (
      λ t. Recorded.records s c.args.me h x es is c.requires c.history.ensures.replays c.history.ensures.room
          (sym c.history.ensures.same ∙ c.are_same-yes.ensures.0 t),
      λ r. c.are_same-yes.ensures.1 (c.history.ensures.same ∙ Recorded.recorded s c.args.me h x es c.in_ok-events.ensures is r),
    )
