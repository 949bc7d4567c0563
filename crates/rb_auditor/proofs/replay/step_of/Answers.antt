-- The step of an entry that the site records.
use Rattle.std.proofs.Common.{◌≡◌, ◌++◌, ap, length, arith}
use Rattle.rb_site.specs.Events.{sent_at}
use Rattle.rb_site.specs.Seen.{state_of}
use Rattle.rb_auditor.specs.Kept.{IsMore}
use Rattle.rb_auditor.specs.Replays.{RecordsEntry}
use Rattle.rb_auditor.proofs.Kept.{more_still}
use Rattle.rb_auditor.proofs.Steps
use Rattle.rb_auditor.proofs.replay.step_of.Goals.{Else-not-branch, After-keep_posted}
use Rattle.rb_auditor.proofs.replay.step_of.Goals as goal

-- the site records the entry, and posts what it sends
noted : (c : Else-not-branch) → RecordsEntry c.args.site.now c.note.new.site c.args.entry.now
    c.reserve.new.self.posted.items c.note.new.messages.items
noted c = rw c.if-not-branch.false at c.in_ok-note.ensures.noted

-- the store has what the entry sends after the messages before
grown : (c : After-keep_posted) → c.keep_posted.new.self.messages.items
    ≡ c.place_of.new.store.messages.items
    ++ sent_at c.args.site.now.settings (state_of c.args.site.now) c.args.entry.now.event
grown c =
    Steps.sent_after _ _ c.reserve.new.self.posted.items _ _ _ c.in_ok-first.ensures.items c.in_ok-first.ensures.none
    (noted (goal.at.After-keep_posted c).Else-not-branch).sends c.keep_posted.ensures

-- no message is taken from the store
more : (c : After-keep_posted) → IsMore c.args.store.now.messages.items c.keep_posted.new.self.messages.items
more c = more_still c.in_ok-place.ensures.more (record { more = _; is = grown c })

pub keep_posted-requires : goal.keep_posted-requires
keep_posted-requires c =
    let few = Steps.few_more c.args.site.now.settings (state_of c.args.site.now) c.args.entry.now.event c.reserve.new.self.posted.items
    c.note.new.messages.items (noted (goal.at.keep_posted-requires c).Else-not-branch).sends in
    omega (
      arith,
      few,
      ap length c.in_ok-first.ensures.none,
      ap length c.in_ok-first.ensures.items,
      c.in_ok-first.ensures.at,
      c.in_ok-first.ensures.room,
    )

pub overflow_cast-result : goal.overflow_cast-result
overflow_cast-result c =
    let few = Steps.few_more c.args.site.now.settings (state_of c.args.site.now) c.args.entry.now.event
    c.place_of.new.store.messages.items c.keep_posted.new.self.messages.items
    (grown (goal.at.overflow_cast-result c).After-keep_posted) in
    omega (arith, few, c.len.ensures.same, c.in_ok-first.ensures.at)

pub overflow_sub-count : goal.overflow_sub-count
overflow_sub-count c =
    Steps.no_fewer c.place_of.new.store.messages.items _ c.keep_posted.new.self.messages.items c.in_ok-first.first
    c.len.result (grown (goal.at.overflow_sub-count c).After-keep_posted) c.in_ok-first.ensures.at c.len.ensures.same

pub returns-in-Some : goal.returns-in-Some
returns-in-Some c =
    let p = goal.at.returns-in-Some c in
    record {
      more = more p.After-keep_posted;
      step = (
        (noted p.Else-not-branch).is,
        (noted p.Else-not-branch).replays,
        Steps.receives c.args.site.now.settings (state_of c.args.site.now) c.place_of.new.store.messages.items
            c.keep_posted.new.self.messages.items c.args.entry.now.event c.in-Some.at (grown p.After-keep_posted)
            (rw c.in-Some.is at c.in_ok-place.ensures.place),
      );
      err = tt;
      same = c.in_ok-note.ensures.same;
    }

pub returns-in-None : goal.returns-in-None
returns-in-None c =
    let p = goal.at.returns-in-None c in
    record {
      more = more p.After-keep_posted;
      step = (
        (noted p.Else-not-branch).is,
        (noted p.Else-not-branch).replays,
        Steps.alone c.place_of.new.store.messages.items
            (sent_at c.args.site.now.settings (state_of c.args.site.now) c.args.entry.now.event)
            c.keep_posted.new.self.messages.items c.args.entry.now.event c.in_ok-first.first c.len.result
            (grown p.After-keep_posted)
            (rw c.in-None.is at c.in_ok-place.ensures.place)
            c.in_ok-first.ensures.at c.len.ensures.same c.if-count-eq0.true,
      );
      err = tt;
      same = c.in_ok-note.ensures.same;
    }

pub returns-in-None-2 : goal.returns-in-None-2
returns-in-None-2 c =
    let p = goal.at.returns-in-None-2 c in
    record {
      more = more p.After-keep_posted;
      step = (
        (noted p.Else-not-branch).is,
        (noted p.Else-not-branch).replays,
        Steps.sends c.place_of.new.store.messages.items
            (sent_at c.args.site.now.settings (state_of c.args.site.now) c.args.entry.now.event)
            c.keep_posted.new.self.messages.items c.args.entry.now.event c.in_ok-first.first c.len.result
            (grown p.After-keep_posted)
            (rw c.in-None.is at c.in_ok-place.ensures.place)
            c.in_ok-first.ensures.at c.len.ensures.same,
      );
      err = tt;
      same = c.in_ok-note.ensures.same;
    }
