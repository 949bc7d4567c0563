-- So far the site is after the events below.
use Rattle.std.proofs.Common.{◌≡◌, take}
use Rattle.rb_site.specs.Seen.{first_seen, next_sites}
use Rattle.rb_site.proofs.site.Site.replay.Given as goal

abbrev pub invariant-loop-event : goal.invariant-loop-event
invariant-loop-event l = l.site ≡ next_sites (first_seen l.config l.me) (take l.event-index l.events)
