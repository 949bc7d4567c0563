-- A received shadow of a new name is answered as the model says.
use Rattle.std.proofs.Common.{◌∙◌, [], true, OnOk, ap, subst, sym}
use Rattle.rb_site.specs.Events.{Outcome}
use Rattle.rb_site.specs.States.{Follows, SiteState, plain}
use Rattle.rb_site.proofs.Handlers.{new_received, refuses_own}
use Rattle.rb_site.proofs.state.State.receive_new.Goals as goal

pub returns-then-shadow-view-clause-ok : goal.returns-then-shadow-view-clause-ok
returns-then-shadow-view-clause-ok c =
    refuses_own c.args.self.now c.args.shadow.now (plain c.give.new.place) c.requires.sound c.requires.new
    (c.if-shadow-view.true ∙ c.view.ensures.me ∙ ap (λ (z : SiteState). z.site.me) c.self.view_is) c.give.ensures

pub returns-clause-ok : goal.returns-clause-ok
returns-clause-ok c =
    let P : Outcome → Type 0 = λ o. OnOk c.hold.result (Follows true c.args.self.now c.hold.new.self [] [] o (plain c.hold.new.reply)) in
    subst P (sym (new_received c.args.self.now.settings c.args.self.now.site c.args.shadow.now c.requires.sound c.requires.new
    (λ e. c.if-shadow-view.false (e ∙ sym (c.view.ensures.me ∙ ap (λ (z : SiteState). z.site.me) c.self.view_is)))))
    c.hold.ensures.ok

pub returns-clause-err : goal.returns-clause-err
returns-clause-err c = c.hold.ensures.err
