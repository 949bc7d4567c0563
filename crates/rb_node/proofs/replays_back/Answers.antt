use Rattle.rb_node.proofs.Replayed.{answers_replayed}
use Rattle.rb_node.proofs.replays_back.Goals as goal

pub returns : goal.returns
returns c = answers_replayed (record {
  entries = c.entries_are_read.ensures;
  lines = c.lines_are_single.ensures.entries;
  events = c.read_events_fit.ensures;
  replies = c.replies_fit.ensures.replies;
  held = c.replies_fit.ensures.held;
})
