use Rattle.std.proofs.Common.{◌≡◌, ◌<◌, ◌≤◌, ◌∙◌, ◌⊎◌, Some, None, arith, inl, inr, sym, ap, slice_get}
use Rattle.std.proofs.lemmas.Bool.{cases_lt}
use Rattle.std.proofs.lemmas.Option.{slice_get-get_or}
use Rattle.rbbank.proofs.same_file.same_before.Goals as goal

pub loop-before-preserved : goal.loop-before-preserved
loop-before-preserved c before less same = by (cases_lt before c.loop-before.before)
  where
    by : (before < c.loop-before.before) ⊎ (c.loop-before.before ≤ before) → ⊥
    by (inl below) = c.loop-before.invariant before below same
    by (inr above) =
        let is : before ≡ c.loop-before.before = omega (arith, less, above) in
        let there = slice_get-get_or c.args.ids.now c.args.file None c.requires ∙ ap Some c.in-Some.is in
        let here : slice_get c.args.ids.now c.loop-before.before ≡ Some (Some c.in-Some.id) =
        ap (λ n. slice_get c.args.ids.now n) (sym is) ∙ same.was ∙ sym same.is ∙ there in
        cc (c.if-is_at.ensures.1 here)
