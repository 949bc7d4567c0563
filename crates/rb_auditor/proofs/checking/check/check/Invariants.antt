-- The histories below are recorded.
use Rattle.std.proofs.Common.{◌≡◌, ℕ, ◌<◌, List, Some}
use Rattle.std.specs.Prelude.{slice_get}
use Rattle.rb_site.specs.declared.entry.Entry.{Entry}
use Rattle.rb_auditor.specs.Findings.{IsReplay, lists_of}
use Rattle.rb_auditor.proofs.checking.check.check.Given as goal

abbrev pub invariant-loop-site : goal.invariant-loop-site
invariant-loop-site l =
    (i : ℕ) (h : List Entry) → i < l.site → slice_get (lists_of l.histories) i ≡ Some h → IsReplay l.config i h
