-- So far the messages below were noted, and there is spare capacity for the others.
use Rattle.std.proofs.Common.{◌≡◌, ◌≤◌, ◌+◌, All, List, ◌++◌, length, take, vec_capacity, vec_len}
use Rattle.std.specs.Prelude.{map}
use Rattle.rb_site.specs.Events.{ModelSite}
use Rattle.rb_world.specs.Sent.{AreMadeFrom}
use Rattle.rb_world.proofs.world.note_all.Given as goal

abbrev pub invariant-loop-message : goal.invariant-loop-message
invariant-loop-message g l = record {
  position : l.position ≡ l.first + l.message-index;
  room : vec_len l.messages + (length l.sent) ≤ vec_capacity l.messages + l.message-index;
  noted : map g.M.KeepsMessage.noted l.messages.items ≡ map g.M.KeepsMessage.noted l.fn.messages.items ++ take l.message-index l.sent;
  there : (ts : List ModelSite) → AreMadeFrom ts l.site l.first l.sent → All (g.M.KeepsMessage.IsThere ts) l.fn.messages.items
      → All (g.M.KeepsMessage.IsThere ts) l.messages.items;
}
