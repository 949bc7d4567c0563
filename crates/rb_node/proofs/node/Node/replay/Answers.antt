use Rattle.rb_history.specs.Ids.{AskedEntry}
use Rattle.rb_node.proofs.Spelled.{each_known, read_on}
use Rattle.rb_node.proofs.node.Node.replay.Goals as goal

pub returns : goal.returns
returns g c =
    let old = c.args.self.now.site in
    let x : AskedEntry = record { id = c.entry_of.new.id; entry = c.in_ok-entry.entry } in
    let line = c.args.line.now in
    let on = c.in_ok-entry.ensures.read in
    let replay = c.replay_entry in
    record {
      replayed = read_on replay.result old replay.new.self x line on replay.ensures.replayed;
      bad = λ e. let b = replay.ensures.bad e in (each_known old x line on b.0, b.1);
      wrong = λ e. (x, on, replay.ensures.wrong e);
    }
