use Rattle.std.proofs.Common.{◌≡◌, ap, subst, ◌∙◌}
use Rattle.rb_history.specs.Ids.{AskedEntry}
use Rattle.rb_node.specs.Answers.{SeenNode}
use Rattle.rb_node.specs.Asked.{SeenAsked, known_of}
use Rattle.rb_node.specs.Replays.{IsNotNext}
use Rattle.rb_node.proofs.Spelled.{back, beside, no_other, read_from}
use Rattle.rb_node.proofs.node.Node.replay_written.Goals as goal

pub returns : goal.returns
returns g c =
    let old = c.args.self.now.site in
    let x : AskedEntry = record { id = c.entry_of.new.id; entry = c.in_ok-entry.entry } in
    let line = c.args.line.now in
    let on = c.in_ok-entry.ensures.read in
    let known = c.replay_spelled.ensures in
    record {
      replayed = read_from c.replay_spelled.result old c.replay_spelled.new.self x line on known.replayed;
      bad = λ e. let b = known.bad e in (no_other old x line on b.0, b.1);
      wrong = λ e. let w = known.wrong e in (x, w.0, back old.settings old.me x line on w.0, w.1);
    }

pub returns-then-written : goal.returns-then-written
returns-then-written g c =
    let old = c.args.self.now.site in
    let x : AskedEntry = record { id = c.entry_of.new.id; entry = c.in_ok-entry.entry } in
    let line = c.args.line.now in
    let on = c.in_ok-entry.ensures.read in
    let spelled = c.in_ok-entry.ensures.written c.if-written.true in
    let seen : c.self.inside.site ≡ old = ap (λ (v : SeenNode). v.site) c.self.view_is in
    let replay = c.replay_entry in
    record {
      replayed = read_from replay.result old replay.new.self x line on
          (beside replay.result c.self.inside.site old replay.new.self x seen spelled replay.ensures.replayed);
      bad = λ e. let b = replay.ensures.bad e in (
        no_other old x line on (λ unknown. absurd (b.0 (ap (λ (y : SeenAsked). known_of y x.id) seen ∙ unknown))),
        b.1 ∙ c.self.view_is,
      );
      wrong = λ e. (
        x,
        spelled,
        back old.settings old.me x line on spelled,
        subst (λ (y : SeenAsked). IsNotNext y x) seen (replay.ensures.wrong e),
      );
    }
