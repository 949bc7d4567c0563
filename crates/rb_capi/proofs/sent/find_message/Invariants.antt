-- The message is looked for on the lines that are left, after those of the lines before.
use Rattle.std.proofs.Common.{◌≡◌, length}
use Rattle.std.specs.List.{slice_get}
use Rattle.rb_capi.specs.Sends.{kept_messages}
use Rattle.rb_capi.proofs.sent.find_message.Given as goal

abbrev pub invariant-lines : goal.invariant-lines
invariant-lines l = slice_get (kept_messages l.rest) l.left ≡ slice_get (kept_messages l.text) l.index

abbrev pub decreases-lines : goal.decreases-lines
decreases-lines l = length l.rest
