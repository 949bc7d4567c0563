-- The sites below are at their ends.
use Rattle.std.proofs.Common.{◌≡◌, ℕ, ◌<◌, ◌≤◌, List, Some, length}
use Rattle.std.specs.Prelude.{slice_get}
use Rattle.rb_site.specs.declared.entry.Entry.{Entry}
use Rattle.rb_site.specs.Seen.{SeenSite}
use Rattle.rb_auditor.specs.Findings.{lists_of}
use Rattle.rb_auditor.proofs.checking.following.are_at_end.Given as goal

abbrev pub invariant-loop-k : goal.invariant-loop-k
invariant-loop-k l = (i : ℕ) (h : List Entry) (x : SeenSite) → i < l.k → slice_get (lists_of l.histories) i ≡ Some h
    → slice_get l.sites i ≡ Some x → length h ≤ length x.entries
