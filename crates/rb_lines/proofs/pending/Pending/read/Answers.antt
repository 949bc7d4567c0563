use Rattle.std.proofs.Common.{arith, rules, ◌≡◌, ◌≤◌, ◌+◌, slice_range, ap, ◌∙◌}
use Rattle.rb_lines.specs.Lines.{line_len}
use Rattle.rb_lines.proofs.LineLaws.{grows_longer}
use Rattle.rb_lines.proofs.Ranges.{same_part}
use Rattle.rb_lines.proofs.ReadLaws.{Reads-part}
use Rattle.rb_lines.proofs.pending.Pending.read.Goals as goal

pub invariant_of-self : goal.invariant_of-self
invariant_of-self g c =
    let inside = c.self.inside in (
      c.self.invariant.0,
      c.make_room.ensures.within,
      rw (same_part inside.bytes.items c.make_room.new.bytes.items inside.start inside.end c.make_room.ensures.front) c.self.invariant.2,
    )

pub returns-then-is_err-clause-err : goal.returns-then-is_err-clause-err
returns-then-is_err-clause-err g c =
    let inside = c.self.inside in
    let held : slice_range inside.bytes.items inside.start inside.end ≡ c.args.self.now = search rules in
    (same_part inside.bytes.items c.make_room.new.bytes.items inside.start inside.end c.make_room.ensures.front ∙ held, search rules)

pub invariant_of-self-in-Ok : goal.invariant_of-self-in-Ok
invariant_of-self-in-Ok g c =
    let inside = c.self.inside in
    let room = c.make_room.new.bytes.items in
    let held = slice_range room inside.start inside.end in
    let same : held ≡ slice_range inside.bytes.items inside.start inside.end =
    same_part inside.bytes.items room inside.start inside.end c.make_room.ensures.front in
    let read =
    Reads-part _ _ room c.read_behind.new.bytes.items inside.start inside.end c.in-Ok.n c.self.invariant.0 c.make_room.ensures.within
    c.in-Ok.ensures.bytes in
    let searched : inside.searched ≤ line_len held = rw same c.self.invariant.2 in
    (omega arith, omega (arith, c.in-Ok.ensures.bound, c.in-Ok.ensures.room), rw read.1 (omega (arith, searched, grows_longer held read.0)))

pub invariant_of-self-in-Err : goal.invariant_of-self-in-Err
invariant_of-self-in-Err g c =
    let inside = c.self.inside in
    let front = c.in-Err.ensures.front ∙ c.make_room.ensures.front in (
      c.self.invariant.0,
      omega (arith, c.in-Err.ensures.room),
      rw (same_part inside.bytes.items c.read_behind.new.bytes.items inside.start inside.end front) c.self.invariant.2,
    )

pub returns-in-Ok-clause-bytes : goal.returns-in-Ok-clause-bytes
returns-in-Ok-clause-bytes g c =
    let inside = c.self.inside in
    let room = c.make_room.new.bytes.items in
    let held : slice_range inside.bytes.items inside.start inside.end ≡ c.args.self.now = search rules in
    let same = same_part inside.bytes.items room inside.start inside.end c.make_room.ensures.front ∙ held in
    let read =
    Reads-part _ _ room c.read_behind.new.bytes.items inside.start inside.end c.in-Ok.n c.self.invariant.0 c.make_room.ensures.within
    c.in-Ok.ensures.bytes in
    (read.0, rw same at read.1, read.2)

pub returns-in-Ok-clause-end : goal.returns-in-Ok-clause-end
returns-in-Ok-clause-end g c = λ e.
    let inside = c.self.inside in
    let none : c.in-Ok.n ≡ 0 = cc e in
    let held : slice_range inside.bytes.items inside.start inside.end ≡ c.args.self.now = search rules in
    let front = c.in-Ok.ensures.front ∙ c.make_room.ensures.front in
    let whole : inside.end + c.in-Ok.n ≡ inside.end = omega (arith, none) in (
      ap (slice_range c.read_behind.new.bytes.items inside.start) whole
          ∙ same_part inside.bytes.items c.read_behind.new.bytes.items inside.start inside.end front ∙ held,
      c.in-Ok.ensures.end (cc none),
    )

pub returns-in-Err-clause-bytes : goal.returns-in-Err-clause-bytes
returns-in-Err-clause-bytes g c =
    let inside = c.self.inside in
    let held : slice_range inside.bytes.items inside.start inside.end ≡ c.args.self.now = search rules in
    let front = c.in-Err.ensures.front ∙ c.make_room.ensures.front in
    (same_part inside.bytes.items c.read_behind.new.bytes.items inside.start inside.end front ∙ held, c.in-Err.ensures.bytes)
