-- The lines come after a line feed.
use Rattle.std.proofs.Common.{◌≡◌, ◌∙◌, ◌==◌, ◌++◌, ◌-◌, ◌∷◌, ℕ, cond, rules, true, [], length, List, Result, Ok, Err, ap, sym, subst}
use Rattle.std.specs.Prelude.{IfOk, is_ok, slice_get}
use Rattle.std.specs.Option.{option_map_or}
use Rattle.rb_lines.specs.Lines.{lines_of}
use Rattle.rbbank.proofs.LinesOfFiles.{behind_feed, ended_by_last, is_ended, with_feed}
use Rattle.rbbank.proofs.joined.add_lines.Goals.{then-not-is_ended+in_ok-push, else-not-is_ended}
use Rattle.rbbank.proofs.joined.add_lines.Goals as goal

if_added : {T E : Type 0} (result : Result T E) (base old new more : List ℕ) → new ≡ cond (is_ok result) (old ++ more) old
    → lines_of (old ++ more) ≡ lines_of base ++ lines_of more
    → IfOk result (λ _. lines_of new ≡ lines_of base ++ lines_of more)
if_added (Ok u) base old new more is lines = ap lines_of is ∙ lines
if_added (Err e) base old new more is lines = tt

-- whether the input ends in a line feed is the test's answer
by_test : (input text : List ℕ) (result : _) → text ≡ input
    → result ≡ option_map_or (λ byte. byte == 10) (slice_get text (length text - 1)) true → is_ended input ≡ result
by_test input text result same is = ended_by_last input
    ∙ ap (λ (t : List ℕ). option_map_or (λ byte. byte == 10) (slice_get t (length t - 1)) true) (sym same) ∙ sym is

pub returns : goal.returns
returns c =
    let input = c.args.input.now.items in
    let more = c.args.lines.now in
    let tested = by_test input c.deref.result.now c.is_ended.result c.deref.ensures.value c.is_ended.ensures in
    let old = c.if-not-is_ended.input.items in
    elim c.if-not-is_ended.branch [
      | then-not-is_ended+in_ok-push w ↦
          (let pushed : w.push.new.self.items ≡ input ++ 10 ∷ [] = search rules in
          let is = ap (λ v. v.items) w.input-is ∙ pushed in
          if_added _ input old _ more c.extend_from_slice.ensures.items
          (subst (λ o. lines_of (o ++ more) ≡ lines_of input ++ lines_of more) (sym is)
          (with_feed input more (tested ∙ w.if-not-is_ended.true))))
      | else-not-is_ended w ↦
          (let is = ap (λ v. v.items) w.input-is in
          if_added _ input old _ more c.extend_from_slice.ensures.items
          (subst (λ o. lines_of (o ++ more) ≡ lines_of input ++ lines_of more) (sym is)
          (behind_feed input more (tested ∙ w.if-not-is_ended.false))))
    ]
