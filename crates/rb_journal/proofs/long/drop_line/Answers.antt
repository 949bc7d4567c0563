-- The line is dropped, or more of it.
use Rattle.std.proofs.Common.{rules, arith, ◌≡◌, ◌∙◌, ◌+◌, ◌*◌, [], false, length, drop, ap, inl, inr}
use Rattle.std.proofs.lemmas.List.{length-drop}
use Rattle.std.proofs.Math.ListN.{drop_of_length-le}
use Rattle.rb_lines.specs.Lines.{line_len}
use Rattle.rb_lines.specs.declared.limits.TheConstants.{READ_SIZE}
use Rattle.rb_journal.proofs.Dropping.{all_length, behind_all, dropped_more, no_shorter, none_dropped, read_failed, stopped_in_line}
use Rattle.std.proofs.KnownBytes.{Keeps-refl}
use Rattle.rb_journal.proofs.Follow.{was_going}
use Rattle.rb_journal.proofs.long.drop_line.Goals.{then-whole-via-then-whole, then-whole-via-else-whole+then-buffers}
use Rattle.rb_journal.proofs.long.drop_line.Goals as goal

pub reads-init : goal.reads-init
reads-init g c =
    let none = none_dropped c.args.buffers.now.pending (g.I.Input.remaining c.args.reader.now) in
    record {
      counted = c.requires.counted;
      buffered = c.requires.nothing_buffered;
      end = c.requires.end;
      order = λ left said may. may;
      fewer = omega arith;
      dropped = (none.0, omega (arith, none.1), λ ended. (none.2, ended));
    }

pub returns-then-whole-clause-dropped : goal.returns-then-whole-clause-dropped
returns-then-whole-clause-dropped g c =
    let p = c.reads.buffers.pending in
    let d = c.reads.invariant.dropped.0 in
    let n : c.first_line-n.result ≡ line_len p = c.first_line-n.ensures.length in
    let len : length c.as_slice.result.now ≡ length p = ap length (c.as_slice.ensures ∙ c.first_line-n.ensures.same) in
    let now : c.skip_line.new.self.pending ≡ drop (c.first_line-n.result + 1) p = search rules in
    let same : c.skip_line.new.self.ended ≡ c.reads.buffers.ended = search rules in
    record {
      more = d.more;
      read = d.read;
      still = λ ended. ((c.reads.invariant.dropped.2 ended).0, same ∙ (c.reads.invariant.dropped.2 ended).1);
      whole = elim c.then-whole.branch [
        | then-whole-via-then-whole w ↦ inl (omega (arith, (all_length d).0, (all_length d).1, n, len, w.if-whole.true))
        | then-whole-via-else-whole+then-buffers w ↦ inr (
          omega (arith, (all_length d).0, (all_length d).1, n, len, c.first_line-n.ensures.within, w.if-whole.false),
          w.if-buffers.true,
        )
      ];
      left = now ∙ ap (λ k. drop (k + 1) p) n ∙ behind_all d;
    }

pub returns-then-whole-clause-left : goal.returns-then-whole-clause-left
returns-then-whole-clause-left g c =
    let p = c.reads.buffers.pending in
    let d = c.reads.invariant.dropped.0 in
    let now : c.skip_line.new.self.pending ≡ drop (c.first_line-n.result + 1) p = search rules in
    let reads : c.skip_line.new.self.reads ≡ c.reads.buffers.reads = search rules in
    omega (
      arith,
      (all_length d).0,
      no_shorter c.args.buffers.now.pending d.more,
      c.first_line-n.ensures.length,
      c.first_line-n.ensures.within,
      ap length now,
      length-drop (c.first_line-n.result + 1) p,
      ap (λ k. READ_SIZE * k) reads,
      c.reads.invariant.dropped.1,
    )

pub reads-preserved : goal.reads-preserved
reads-preserved g c =
    let p = c.reads.buffers.pending in
    let inv = c.reads.invariant in
    let read = c.in-Ok.ensures in
    let all : line_len p ≡ length p = omega (arith, ap length (c.as_slice.ensures ∙ c.first_line-n.ensures.same)) in
    let now : c.skip_line.new.self.pending ≡ drop (c.first_line-n.result + 1) p = search rules in
    let reads : c.skip_line.new.self.reads ≡ c.reads.buffers.reads = search rules in
    let going : c.reads.buffers.ended ≡ false = search rules in
    let none : c.skip_line.new.self.pending ≡ [] = now ∙ drop_of_length-le p (omega (arith, c.first_line-n.ensures.length, all)) in
    let more = dropped_more inv.dropped.0 all c.read_more.new.buffers.pending (g.I.Input.remaining c.read_more.new.self)
    (rw none at read.read) in
    record {
      counted = c.read_more.ensures.counted;
      buffered = search rules;
      end = read.end;
      order = λ left said may. c.read_more.ensures.order left said (inv.order left said may);
      fewer = omega (arith, read.fewer, reads, inv.fewer);
      dropped = (
        more.0,
        omega (arith, more.1, read.left, ap length none, ap (λ k. READ_SIZE * k) reads, inv.dropped.1),
        λ ended. absurd (cc (going, (inv.dropped.2 ended).1)),
      );
    }

pub returns-in-Err-clause-stopped : goal.returns-in-Err-clause-stopped
returns-in-Err-clause-stopped g c = λ is.
    let p = c.reads.buffers.pending in
    let d = c.reads.invariant.dropped.0 in
    let all : line_len p ≡ length p = omega (arith, ap length (c.as_slice.ensures ∙ c.first_line-n.ensures.same)) in
    let stop = read_failed c.skip_line.new.self c.read_more.new.buffers _ _ _ _ c.in-Err.no_line (c.fault_of_read.ensures.read (cc (is)))
    c.in-Err.ensures.read in
    let line = stopped_in_line d all (g.I.Input.remaining c.read_more.new.self) stop.2 in
    record { more = d.more; read = line.0; one = line.1; going = stop.1; why = stop.3 }

-- what came is the front of the line
pub read_more-requires-clause-order : goal.read_more-requires-clause-order
read_more-requires-clause-order g c =
    let p = c.reads.buffers.pending in
    let inv = c.reads.invariant in
    let mid = g.I.Input.remaining c.reads.reader in
    let said = g.H.Host.output c.args.host.now in
    let all : line_len p ≡ length p = omega (arith, ap length (c.as_slice.ensures ∙ c.first_line-n.ensures.same)) in
    let line = stopped_in_line inv.dropped.0 all mid (Keeps-refl mid) in
    inv.order mid said (c.requires.order inv.dropped.0.more mid line.0 (was_going _ _ inv.dropped.2 (search rules)) line.1)
