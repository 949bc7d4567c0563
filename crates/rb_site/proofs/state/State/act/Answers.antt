-- An event is handled as the model says.
use Rattle.std.proofs.Common.{refl}
use Rattle.std.proofs.lemmas.Result.{on_err_weaker}
use Rattle.rb_site.specs.declared.event.Event.TheVariants.{Apply, Pass, Submit}
use Rattle.rb_site.proofs.Handlers.{handled, handled_silent}
use Rattle.rb_site.proofs.state.State.act.Goals as goal

pub returns-in-Submit-clause-ok : goal.returns-in-Submit-clause-ok
returns-in-Submit-clause-ok c = handled c.args.keeps c.args.self.now c.submit.new.self c.args.sent.now.items c.submit.new.sent.items
    c.args.event.now (Submit c.in-Submit.request) c.submit.result c.submit.new.reply
    c.args.noted.now c.in-Submit.is c.requires c.submit.ensures.ok

pub returns-in-Receive-Shadow-clause-err : goal.returns-in-Receive-Shadow-clause-err
returns-in-Receive-Shadow-clause-err c = on_err_weaker c.receive.result (λ e. (e, refl)) c.receive.ensures.err

pub returns-in-Apply-clause-ok : goal.returns-in-Apply-clause-ok
returns-in-Apply-clause-ok c = handled_silent c.args.keeps c.args.self.now c.apply.new.self c.args.sent.now.items
    c.args.event.now (Apply c.in-Apply.name) c.apply.result c.apply.new.reply c.args.noted.now
    c.in-Apply.is c.requires c.apply.ensures.ok

pub returns-in-Apply-clause-err : goal.returns-in-Apply-clause-err
returns-in-Apply-clause-err c = on_err_weaker c.apply.result (λ e. (e, refl)) c.apply.ensures.err

pub returns-in-Pass-clause-ok : goal.returns-in-Pass-clause-ok
returns-in-Pass-clause-ok c = handled c.args.keeps c.args.self.now c.pass.new.self c.args.sent.now.items c.pass.new.sent.items
    c.args.event.now (Pass c.in-Pass.to) c.pass.result c.pass.new.reply
    c.args.noted.now c.in-Pass.is c.requires c.pass.ensures.ok
