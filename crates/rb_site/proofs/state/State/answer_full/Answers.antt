-- A question changes nothing, and each other event is answered by its own function.
use Rattle.std.proofs.Common.{[], true}
use Rattle.rb_site.specs.declared.event.Event.TheVariants.{AsOf, Balance}
use Rattle.rb_site.specs.States.{plain}
use Rattle.rb_site.proofs.FullHistory.{as_of_unchanging, balance_unchanging, follows_full}
use Rattle.rb_site.proofs.state.State.answer_full.Goals as goal

pub returns-in-Balance-clause-reply : goal.returns-in-Balance-clause-reply
returns-in-Balance-clause-reply c = follows_full true c.args.self.now c.args.self.now [] [] c.args.event.now (Balance c.in-Balance.place)
    (plain c.balance.new.reply) c.in-Balance.is
    (balance_unchanging c.args.self.now.settings c.args.self.now.site c.in-Balance.place) c.balance.ensures

pub returns-in-AsOf-clause-reply : goal.returns-in-AsOf-clause-reply
returns-in-AsOf-clause-reply c = follows_full true c.args.self.now c.args.self.now [] [] c.args.event.now
    (AsOf c.in-AsOf.place c.in-AsOf.position) (plain c.as_of.new.reply) c.in-AsOf.is
    (as_of_unchanging c.args.self.now.settings c.args.self.now.site c.in-AsOf.place c.in-AsOf.position) c.as_of.ensures
