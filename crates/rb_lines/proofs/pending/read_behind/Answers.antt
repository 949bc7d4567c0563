use Rattle.std.proofs.Common.{arith, rules, ◌≡◌, ◌≤◌, ◌+◌, ◌-◌, length, take}
use Rattle.rb_lines.specs.declared.limits.TheConstants.{READ_SIZE}
use Rattle.rb_lines.proofs.Ranges.{over_part_of}
use Rattle.rb_lines.proofs.pending.read_behind.Goals as goal

pub returns-in-Ok-clause-bytes : goal.returns-in-Ok-clause-bytes
returns-in-Ok-clause-bytes g c =
    let end = c.args.end in
    let n = c.in-Ok.n in
    let old = c.args.bytes.now.items in
    let buf = c.read.new.buf in
    let asked : end + READ_SIZE - end ≡ READ_SIZE = omega arith in
    let full : length buf ≡ end + READ_SIZE - end = search rules in
    let few : n ≤ length buf = c.in-Ok.ensures.bound in
    let len : c.args.bytes.now.len ≡ length old = search rules in
    rw c.deref_mut.ensures.value (
      take n buf,
      over_part_of old buf _ c.args.bytes.now.len end (end + READ_SIZE - end) n len (omega arith) full few,
      c.in-Ok.ensures.bytes.0,
    )
