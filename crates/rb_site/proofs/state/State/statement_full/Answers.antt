-- A statement changes nothing.
use Rattle.std.proofs.Common.{[], false}
use Rattle.rb_site.specs.declared.event.Event.TheVariants.{Statement as AskStatement}
use Rattle.rb_site.specs.States.{noting}
use Rattle.rb_site.proofs.FullHistory.{follows_full_ok, statement_unchanging}
use Rattle.rb_site.proofs.state.State.statement_full.Goals as goal

pub returns : goal.returns
returns c = follows_full_ok false c.args.self.now c.args.self.now [] [] (AskStatement c.args.place.now)
    (noting c.statement.new.reply c.statement.new.noted) c.statement.result
    (statement_unchanging c.args.self.now.settings c.args.self.now.site c.args.place.now) c.statement.ensures
