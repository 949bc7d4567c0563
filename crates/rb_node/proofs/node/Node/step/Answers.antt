use Rattle.std.proofs.Common.{◌≡◌, ◌++◌, [], List, true, false, ap, sym, subst, ◌∙◌}
use Rattle.std.specs.Prelude.{◌&&◌}
use Rattle.rb_site.specs.Events.{is_full, sent_at}
use Rattle.rb_node.specs.Answers.{SeenNode}
use Rattle.rb_node.specs.Asked.{SeenAsked, asked_state}
use Rattle.rb_node.specs.Steps.{RecordsIf, StepsKept}
use Rattle.rb_site.specs.declared.event.Event.{Event}
use Rattle.rb_site.specs.declared.message.Message.{Message}
use Rattle.rb_node.proofs.Recorded.{left-out, not-full, refused-by, sends-none, still-unchanging, told, told-step}
use Rattle.rb_node.proofs.node.Node.step.Goals as goal
use Rattle.rb_node.proofs.node.Node.step.Goals.{else-not-recorded-via-else-not-recorded}
use Rattle.rb_node.proofs.node.Node.step.Goals.{else-not-recorded-via-then-not-recorded+else-not-ALL}

pub returns-then-refuses : goal.returns-then-refuses
returns-then-refuses g c =
    let old = c.args.self.now.site in
    let e = c.args.event in
    let seen : c.self.inside.site ≡ old = ap (λ (v : SeenNode). v.site) c.self.view_is in
    let full = c.if-refuses.ensures ∙ ap (λ (y : SeenAsked). g.M.Records.ALL && is_full y.settings (asked_state y)) seen in
    let entries = c.args.entries.now.items in
    record {
      stepped = told c.append_value.result (λ y. StepsKept g.M.Records.ALL old c.self.inside.site c.args.id.now e y entries entries) _
          c.args.text.now.items c.append_value.new.out.items entries
          (subst (λ y. StepsKept g.M.Records.ALL old y c.args.id.now e _ entries entries) (sym seen)
          (refused-by g.M.Records.ALL old c.args.id.now e entries full))
          (c.clear.ensures.items ∙ sym (sends-none g.M.Records.ALL old.settings (asked_state old) e full))
          c.append_value.ensures;
    }

-- what was sent, if nothing was before
sent-after : (inside old : SeenAsked) (e : Event) (before sent : List Message) → inside ≡ old → before ≡ []
    → sent ≡ before ++ sent_at inside.settings (asked_state inside) e → sent ≡ sent_at old.settings (asked_state old) e
sent-after inside old e before sent seen none is =
    is ∙ ap (λ l. l ++ sent_at inside.settings (asked_state inside) e) none
    ∙ ap (λ (y : SeenAsked). sent_at y.settings (asked_state y) e) seen

pub finish-requires : goal.finish-requires
finish-requires g c out =
    let mid = c.answer_if_changes.new in
    let all : g.M.Records.ALL ≡ true = elim c.else-not-recorded.branch [
      | else-not-recorded-via-then-not-recorded+else-not-ALL w ↦ sym w.ALL.ensures ∙ w.if-not-ALL.false
      | else-not-recorded-via-else-not-recorded w ↦ absurd (let is = w.if-not-recorded.false in cc)
    ] in
    still-unchanging c.in_ok-recorded.recorded c.self.inside.site mid.self c.args.id.now c.args.event mid.reply
    c.in_ok-recorded.ensures.recorded (not-full g.M.Records.ALL _ c.if-refuses.ensures all) out

pub returns-then-not-ALL : goal.returns-then-not-ALL
returns-then-not-ALL g c =
    let old = c.args.self.now.site in
    let mid = c.answer_if_changes.new in
    let id = c.args.id.now in
    let e = c.args.event in
    let entries = c.args.entries.now.items in
    let seen : c.self.inside.site ≡ old = ap (λ (v : SeenNode). v.site) c.self.view_is in
    let ok = c.in_ok-recorded.ensures in
    let none : g.M.Records.ALL ≡ false = sym c.ALL.ensures ∙ c.if-not-ALL.true in
    record {
      stepped = told c.append_value-then-not-ALL.result (λ y. StepsKept g.M.Records.ALL old mid.self id e y entries entries) mid.reply
          c.args.text.now.items c.append_value-then-not-ALL.new.out.items entries
          (left-out g.M.Records.ALL c.in_ok-recorded.recorded old mid.self id e mid.reply entries
          (subst (λ y. RecordsIf y mid.self id e mid.reply c.in_ok-recorded.recorded) seen ok.recorded) c.if-not-recorded.true none)
          (sent-after c.self.inside.site old e c.clear.new.self.items mid.sent.items seen c.clear.ensures.items ok.sent)
          c.append_value-then-not-ALL.ensures;
    }

pub returns : goal.returns
returns g c =
    let old = c.args.self.now.site in
    let mid = c.answer_if_changes.new in
    let id = c.args.id.now in
    let e = c.args.event in
    let new = c.finish.new in
    let seen : c.self.inside.site ≡ old = ap (λ (v : SeenNode). v.site) c.self.view_is in
    let ok = c.in_ok-recorded.ensures in
    record {
      stepped = told-step _ c.finish.result g.M.Records.ALL c.in_ok-recorded.recorded old mid.self new.self.site id e mid.reply
          mid.sent.items new.self.sent (sent_at old.settings (asked_state old) e) c.args.text.now.items new.text.items
          c.args.entries.now.items new.entries.items
          (subst (λ y. RecordsIf y mid.self id e mid.reply c.in_ok-recorded.recorded) seen ok.recorded)
          (c.if-refuses.ensures ∙ ap (λ (y : SeenAsked). g.M.Records.ALL && is_full y.settings (asked_state y)) seen)
          (λ out. elim c.else-not-recorded.branch [
            | else-not-recorded-via-then-not-recorded+else-not-ALL w ↦ sym w.ALL.ensures ∙ w.if-not-ALL.false
            | else-not-recorded-via-else-not-recorded w ↦ absurd (let is = w.if-not-recorded.false in cc)
          ])
          (sent-after c.self.inside.site old e c.clear.new.self.items mid.sent.items seen c.clear.ensures.items ok.sent)
          c.finish.ensures;
    }
