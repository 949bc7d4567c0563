use Rattle.std.proofs.Common.{◌≡◌, ap, subst, sym, ◌∙◌}
use Rattle.serde_json.specs.Written.{compact_text}
use Rattle.rb_history.specs.Entries.{asked_entry_json}
use Rattle.rb_history.specs.Ids.{AskedEntry}
use Rattle.rb_node.specs.Answers.{SeenNode}
use Rattle.rb_node.specs.Asked.{SeenAsked, known_of}
use Rattle.rb_node.specs.Replays.{IsNotNext}
use Rattle.rb_node.proofs.Spelled.{beside, other_bytes, same_bytes, written_for}
use Rattle.rb_node.proofs.node.Node.replay_spelled.Goals as goal

pub returns-then-ne-clause-bad : goal.returns-then-ne-clause-bad
returns-then-ne-clause-bad g c e =
    let old = c.args.self.now.site in
    let seen : c.self.inside.site ≡ old = ap (λ (v : SeenNode). v.site) c.self.view_is in
    let x : AskedEntry = record { id = c.args.id.now; entry = c.args.entry.now } in
    let written = written_for c.self.inside.site old c.self.inside.config c.me-me.result x c.clear.new.self.items
    c.append_asked_line.new.out.items seen c.self.invariant
    (c.me-me.ensures ∙ ap (λ (y : SeenAsked). y.me) (sym seen)) c.clear.ensures.items c.in_ok-append_asked_line.ensures.ok in (
      λ unknown spelled. other_bytes c.as_slice.result.now c.args.line.now c.if-ne.ensures (c.as_slice.ensures.value
          ∙ written ∙ sym spelled),
      c.self.view_is,
    )

pub returns : goal.returns
returns g c =
    let old = c.args.self.now.site in
    let x : AskedEntry = record { id = c.args.id.now; entry = c.args.entry.now } in
    let seen : c.self.inside.site ≡ old = ap (λ (v : SeenNode). v.site) c.self.view_is in
    let written = written_for c.self.inside.site old c.self.inside.config c.me-me.result x c.clear.new.self.items
    c.append_asked_line.new.out.items seen c.self.invariant
    (c.me-me.ensures ∙ ap (λ (y : SeenAsked). y.me) (sym seen)) c.clear.ensures.items c.in_ok-append_asked_line.ensures.ok in
    let spelled : c.args.line.now ≡ compact_text (asked_entry_json old.settings old.me x) =
    sym (same_bytes c.as_slice.result.now c.args.line.now c.if-ne.ensures) ∙ c.as_slice.ensures.value ∙ written in
    let replay = c.replay_entry in
    record {
      replayed = beside replay.result c.self.inside.site old replay.new.self x seen spelled replay.ensures.replayed;
      bad = λ e. let b = replay.ensures.bad e in (
        λ unknown. absurd (b.0 (ap (λ (y : SeenAsked). known_of y x.id) seen ∙ unknown)),
        b.1 ∙ c.self.view_is,
      );
      wrong = λ e. (spelled, subst (λ (y : SeenAsked). IsNotNext y x) seen (replay.ensures.wrong e));
    }
