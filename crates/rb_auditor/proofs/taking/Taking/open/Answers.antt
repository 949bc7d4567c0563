-- No entry is taken yet.
use Rattle.std.proofs.Common.{◌≡◌, ◌∙◌, ◌-◌, ℕ, List, [], ◌++◌, length, ap, sym, take, arith}
use Rattle.std.specs.Prelude.{replicate}
use Rattle.std.proofs.Math.Seq.{take-nil}
use Rattle.std.proofs.lemmas.List.{length-map}
use Rattle.rb_auditor.specs.Kept.{entries_noted, histories_in}
use Rattle.rb_auditor.specs.Progress.{first_progress}
use Rattle.rb_auditor.proofs.Judged
use Rattle.rb_auditor.proofs.Takings
use Rattle.rb_auditor.proofs.taking.Taking.open.Goals as goal

none_taken : (n k : ℕ) (xs : List ℕ) → xs ≡ [] → k ≡ 0 → take n xs ++ replicate (n - k) 0 ≡ replicate n 0
none_taken n k xs e f = let q : n - k ≡ n = omega arith in rw (e, take-nil {A = ℕ} n, q)

-- as many numbers as there are histories, each 0
first : (c : goal.After-new-2) → record {
  settings = c.args.config.now;
  histories = histories_in c.args.notes.now;
  order = [];
  taken = c.resize.new.self.items;
  messages = [];
} ≡ first_progress c.args.config.now (histories_in c.args.notes.now)
first c = ap (λ ts. record (first_progress c.args.config.now (histories_in c.args.notes.now)) { taken = ts })
    (c.in_ok-resize.ensures.items
    ∙ none_taken (length c.args.notes.now) _ c.new-taken.result.items c.new-taken.ensures.items c.new-taken.ensures.len
    ∙ ap (λ n. replicate n 0) (sym (length-map c.args.notes.now entries_noted)))

pub invariant_of-result : goal.invariant_of-result
invariant_of-result c = (
  Takings.first_as c.new-2.ensures.items c.in_ok-sent.ensures.1 (first c)
      (Judged.first_taken c.requires.judged c.requires.whole),
  rw c.in_ok-sent.ensures.0 c.requires.judged,
  c.requires.whole,
  c.sites.ensures.configured,
)
