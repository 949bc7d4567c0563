use Rattle.std.proofs.Common.{◌≡◌, ◌++◌, length, take, drop}
use Rattle.rb_node.specs.Asked.{asked_state}
use Rattle.rb_node.specs.Index.{lines_again}
use Rattle.rb_node.proofs.node.Node.append_all_again.Given as goal

abbrev pub invariant-loop-entry : goal.invariant-loop-entry
invariant-loop-entry g l = record {
  front : take (length l.fn.out.items) l.out.items ≡ l.fn.out.items;
  written : l.out.items ++ lines_again l.self.site.settings l.self.site.bank (asked_state l.self.site).ops (drop l.entry-index l.entries)
      ≡ l.fn.out.items ++ lines_again l.self.site.settings l.self.site.bank (asked_state l.self.site).ops l.entries;
}
