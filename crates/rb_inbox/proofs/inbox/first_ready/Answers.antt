use Rattle.std.proofs.Common.{rules, arith, ◌+◌, ◌≡◌, ◌∙◌, ap, sym, subst, get_or}
use Rattle.std.specs.Prelude.{option_copied}
use Rattle.std.proofs.lemmas.List.{get_or_default}
use Rattle.rb_shadow.specs.Operations.{past, entry_of, number_of}
use Rattle.rb_shadow.specs.declared.deps.Deps.{Deps}
use Rattle.rb_shadow.specs.declared.shadow.Shadow.{Shadow}
use Rattle.rb_inbox.specs.Held.{IsReady}
use Rattle.rb_inbox.proofs.First.{IsFirstSoFar, so_far_all, so_far_more, so_far_passed}
use Rattle.rb_inbox.proofs.Order.{Among-end}
use Rattle.rb_inbox.proofs.Readiness.{none_from}
use Rattle.rb_inbox.proofs.inbox.first_ready.Goals as goal
use Rattle.rb_inbox.proofs.inbox.first_ready.Goals.{then-at_least, else-at_least}

pub returns-then-number-saturating_add : goal.returns-then-number-saturating_add
returns-then-number-saturating_add c =
    let row = c.args.row.now in
    let i = c.loop-shadow.shadow-index in
    let all = so_far_all row c.args.clock.now i (option_copied c.loop-shadow.first) c.loop-shadow.invariant (λ u a left r.
    let high : c.number.result ≡ number_of (get_or row i u).name =
    c.number.ensures ∙ ap (λ (w : Shadow). number_of w.name) (get_or_default row i _ u c.loop-shadow-test.true) in
    let low : c.entry.result ≡ entry_of c.args.clock.now (get_or row i u).name =
    c.entry.ensures ∙ ap (λ (w : Shadow). entry_of c.entries-entries.result.now w.name)
    (get_or_default row i _ u c.loop-shadow-test.true)
    ∙ ap (λ (d : Deps). entry_of d (get_or row i u).name) c.entries-entries.ensures in
    none_from c.requires.0 row i u u c.args.clock.now c.requires.1 (omega arith) (omega arith) a left r) in
    record { some = all.0; none = all.1 }

pub loop-shadow-preserved : goal.loop-shadow-preserved
unfolding past
loop-shadow-preserved c =
    let row = c.args.row.now in
    let i = c.loop-shadow.shadow-index in
    let o = option_copied c.loop-shadow.first in
    let P = IsFirstSoFar row c.args.clock.now (i + 1) in
    elim c.if-at_least.branch [
      | then-at_least w ↦ subst P (sym (ap option_copied w.first-is ∙ w.earlier_home-first.ensures))
          (so_far_more row c.requires.0 c.args.clock.now i _ o c.requires.1 (omega arith) (search rules) c.loop-shadow.invariant)
      | else-at_least w ↦ subst P (sym (ap option_copied w.first-is))
          (so_far_passed row c.args.clock.now i _ o (omega arith)
          (λ (r : IsReady c.args.clock.now (get_or row i _)). cc (c.at_least.ensures.names.1 r)) c.loop-shadow.invariant)
    ]

pub returns : goal.returns
returns c =
    let all = so_far_all c.args.row.now c.args.clock.now c.loop-shadow.shadow-index (option_copied c.loop-shadow.first)
    c.loop-shadow.invariant (λ u a left r. Among-end _ c.loop-shadow.shadow-index u (omega arith) left) in
    record { some = all.0; none = all.1 }
