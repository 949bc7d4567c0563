use Rattle.std.proofs.Common.{rules, ap, subst, sym}
use Rattle.rb_history.proofs.Public.Appended.{front_of_front, front_of_sum}
use Rattle.rb_node.specs.Answers.{SeenNode}
use Rattle.rb_node.specs.Asked.{SeenAsked}
use Rattle.rb_node.specs.Steps.{AppliesOne}
use Rattle.rb_node.proofs.Applied.{AppliesOn, applies_more, applies_none, closed, spare_falls}
use Rattle.rb_node.proofs.Failed.{kept, stayed}
use Rattle.rb_node.proofs.node.Node.apply_ready.Goals as goal

pub loop-name-init : goal.loop-name-init
loop-name-init g c = record {
  utf8 = search rules;
  text_front = stayed c.args.text.now.items;
  entries_front = stayed c.args.entries.now.items;
  goes_on = λ new text entries rest. rest;
}

pub loop-name-preserved : goal.loop-name-preserved
loop-name-preserved g c =
    let l = c.loop-name in
    let new = c.apply_one.new in
    let one = subst (λ (old : SeenAsked). AppliesOne old new.self.site c.in-Some.name l.comma.now l.text.items new.text.items
    l.entries.items new.entries.items) (ap (λ (n : SeenNode). n.site) c.ready.ensures.same) c.in_ok-apply_one.ensures in
    record {
      utf8 = search rules;
      text_front = front_of_front c.args.text.now.items l.text.items c.apply_one.new.text.items l.invariant.text_front
          (front_of_sum l.text.items c.apply_one.new.text.items _ one.text_is);
      entries_front = front_of_front c.args.entries.now.items l.entries.items c.apply_one.new.entries.items l.invariant.entries_front
          (front_of_sum l.entries.items c.apply_one.new.entries.items _ one.step.entries_are);
      goes_on = λ new text entries rest. l.invariant.goes_on new text entries
          (applies_more l.comma.now c.in-Some.name l.self.site c.apply_one.new.self.site new l.text.items c.apply_one.new.text.items
          text l.entries.items c.apply_one.new.entries.items entries c.in-Some.ensures.free c.in-Some.ensures.some one rest);
    }

pub loop-name-smaller : goal.loop-name-smaller
loop-name-smaller g c =
    let l = c.loop-name in
    let new = c.apply_one.new in
    let one = subst (λ (old : SeenAsked). AppliesOne old new.self.site c.in-Some.name l.comma.now l.text.items new.text.items
    l.entries.items new.entries.items) (ap (λ (n : SeenNode). n.site) c.ready.ensures.same) c.in_ok-apply_one.ensures in
    spare_falls l.self.site new.self.site _ _ l.entries.items new.entries.items c.in-Some.ensures.free one.step

pub returns-in_err-apply_one : goal.returns-in_err-apply_one
returns-in_err-apply_one g c =
    let l = c.loop-name in
    let new = c.apply_one.new in
    let failed = c.in_err-apply_one.ensures in
    kept c.from_residual.result _ c.from_residual.ensures.0 (
      front_of_front c.args.text.now.items l.text.items new.text.items l.invariant.text_front failed.0,
      front_of_front c.args.entries.now.items l.entries.items new.entries.items l.invariant.entries_front failed.1,
    )

pub returns : goal.returns
returns g c =
    let l = c.loop-name in
    let same = ap (λ (n : SeenNode). n.site) c.ready.ensures.same in
    let all = subst (λ (new : SeenAsked). AppliesOn l.comma.now l.self.site new l.text.items l.text.items l.entries.items l.entries.items)
    (sym same) (applies_none l.comma.now l.self.site l.text.items l.entries.items c.in_default.ensures.none) in
    closed c.append.result c.args.self.now.site c.ready.new.self.site c.args.text.now.items l.text.items c.append.new.out.items
    c.args.entries.now.items l.entries.items (l.invariant.goes_on c.ready.new.self.site l.text.items l.entries.items all)
    l.invariant.text_front l.invariant.entries_front c.append.ensures
