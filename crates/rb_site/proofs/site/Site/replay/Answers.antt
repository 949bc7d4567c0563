-- One event more.
use Rattle.std.proofs.Common.{◌≡◌, ◌∙◌, false, Result, Ok, Err, OnOk, is_err, ap, length, refl, sym}
use Rattle.std.proofs.lemmas.Result.{IfOk-from_err}
use borrow.Author.Count.{falls}
use Rattle.std.specs.declared.alloc.AllocError.{AllocError}
use Rattle.rb_site.specs.Seen.{first_seen, next_site, next_sites}
use Rattle.rb_site.proofs.Reports.{sites_more, whole}
use Rattle.rb_site.proofs.site.Site.replay.Goals as goal

-- what holds if a result is Ok holds if it isn't an error
answered : {A : Type 0} (r : Result A AllocError) (P : Type 0) → is_err r ≡ false → OnOk r P → P
answered (Ok a) P e h = h
answered (Err why) P e h = cc

pub loop-event-preserved : goal.loop-event-preserved
loop-event-preserved c =
    let ok = answered c.answer.result _ (sym c.is_err.ensures.value ∙ c.if-is_err.false) c.answer.ensures.ok in
    sites_more (first_seen c.args.config.now c.args.me) c.args.events.now c.loop-event.event-index c.event-item.result c.loop-event.site
    c.answer.new.self c.loop-event-test.true c.loop-event.invariant (ok.0 ∙ ap (next_site c.loop-event.site) c.event-item.is)

pub returns-in_err-site : goal.returns-in_err-site
returns-in_err-site c = IfOk-from_err c.from_residual.result _ c.from_residual.ensures.0

pub loop-event-init : goal.loop-event-init
loop-event-init c = c.in_ok-site.ensures

pub loop-event-smaller : goal.loop-event-smaller
loop-event-smaller c = falls (length c.args.events.now) c.loop-event.event-index c.loop-event-test.true

pub bounds-events-event-index : goal.bounds-events-event-index
bounds-events-event-index c = c.loop-event-test.true

pub returns : goal.returns
returns c = c.loop-event.invariant ∙ ap (next_sites (first_seen c.args.config.now c.args.me))
    (whole c.args.events.now c.loop-event.event-index (length c.args.events.now) refl c.loop-event-test.false)
