use Rattle.rb_runs.proofs.Words.{[], sym, append-nil, NoSite, Refused}
use Rattle.rb_runs.proofs.Opens.{opens}
use Rattle.rb_runs.proofs.script.session.SessionTakesLines.open.Goals as goal

pub returns : goal.returns
returns c =
    let (settings, on, opened) = c.in_ok-world.ensures in
    let line = c.args.line.now in (
      [],
      sym (append-nil c.args._buffered.now.items),
      opens (record { world = c.in_ok-world.world; reply = Refused NoSite }) settings line c.requires.short c.requires.some on opened,
    )
