use Rattle.std.proofs.Common.{◌≡◌, ◌-◌, List, ℕ, length, take, []}
use denote.Text.{Utf8}
use denote.Shadow.{shadow}
use Rattle.rb_node.specs.Asked.{SeenAsked, asked_state}
use Rattle.rb_node.proofs.Applied.{AppliesOn}
use Rattle.rb_node.proofs.node.Node.apply_ready.Given as goal

abbrev pub invariant-loop-name : goal.invariant-loop-name
invariant-loop-name g l = record {
  utf8 : shadow (Utf8 l.comma);
  text_front : take (length l.fn.text.items) l.text.items ≡ l.fn.text.items;
  entries_front : take (length l.fn.entries.items) l.entries.items ≡ l.fn.entries.items;
  goes_on : (new : SeenAsked) (text entries : List ℕ)
      → AppliesOn l.comma l.self.site new l.text.items text l.entries.items entries
      → AppliesOn [] l.fn.self.site new l.fn.text.items text l.fn.entries.items entries;
}

-- the spare capacity of the history
abbrev pub decreases-loop-name : goal.decreases-loop-name
decreases-loop-name g l = l.self.site.settings.limits.history - length (asked_state l.self.site).history
