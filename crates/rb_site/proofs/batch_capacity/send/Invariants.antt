-- So far there is a message for each operation below.
use Rattle.std.proofs.Common.{◌≡◌, ◌+◌, ◌≤◌, ◌++◌, length, map, take, vec_len, vec_capacity}
use Rattle.rb_site.specs.declared.message.Message.TheVariants.{Shadow as ShadowMessage}
use Rattle.rb_site.proofs.batch_capacity.send.Given as goal

abbrev pub invariant-loop-shadow : goal.invariant-loop-shadow
invariant-loop-shadow l =
    (l.sent.items ≡ l.initial.sent.items ++ map ShadowMessage (take l.shadow-index l.made))
    × (vec_len l.sent ≡ vec_len l.initial.sent + l.shadow-index)
    × (vec_len l.initial.sent + length l.made ≤ vec_capacity l.sent)
