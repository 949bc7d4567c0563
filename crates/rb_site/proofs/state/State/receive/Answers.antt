-- A received shadow is answered as the model says.
use Rattle.std.proofs.Common.{◌∙◌, true, ap, subst, sym}
use Rattle.std.specs.Prelude.{option_map}
use Rattle.rb_shadow.specs.declared.shadow.Shadow.{Shadow}
use Rattle.rb_shadow.specs.Operations.{find_in, same_shadow}
use Rattle.rb_shadow.specs.Sound.{fault_of}
use Rattle.rb_site.specs.declared.reply.Reply.TheVariants.{Refused}
use Rattle.rb_site.specs.States.{Says, SiteState, plain}
use Rattle.rb_site.proofs.Handlers.{knows_nothing, knows_whether, refuses_unsound}
use Rattle.rb_site.proofs.state.State.receive.Goals as goal

pub returns-in-Err-clause-ok : goal.returns-in-Err-clause-ok
returns-in-Err-clause-ok c =
    let (why, is, fault) = c.in-Err.ensures.faulty in
    refuses_unsound c.args.self.now c.args.shadow.now why (plain c.give.new.place)
    (ap (λ s. fault_of s c.args.shadow.now)
    (sym (c.config.ensures.same ∙ c.ledger-ledger.ensures.settings ∙ ap (λ (z : SiteState). z.settings) c.self.view_is)) ∙ fault)
    (subst (λ w. Says true (plain c.give.new.place) (Refused w)) is c.give.ensures)

pub knows-requires : goal.knows-requires
knows-requires c = ap (λ s. fault_of s c.args.shadow.now) (sym c.config.ensures.same) ∙ c.in_default.ensures.sound

pub returns-in-Some-clause-ok : goal.returns-in-Some-clause-ok
returns-in-Some-clause-ok c =
    knows_whether c.args.self.now c.args.shadow.now c.in-Some.same (plain c.again.new.reply)
    (ap (λ s. fault_of s c.args.shadow.now)
    (sym (c.config.ensures.same ∙ c.ledger-ledger.ensures.settings ∙ ap (λ (z : SiteState). z.settings) c.self.view_is))
    ∙ c.in_default.ensures.sound)
    (c.in-Some.ensures
    ∙ ap (λ us. option_map (λ (u : Shadow). same_shadow u c.args.shadow.now) (find_in us c.args.shadow.now.name))
    c.ledger-ledger.ensures.entries
    ∙ ap (λ (z : SiteState). option_map (λ (u : Shadow). same_shadow u c.args.shadow.now)
    (find_in z.site.ops c.args.shadow.now.name)) c.self.view_is)
    c.again.ensures

pub receive_new-requires-clause-sound : goal.receive_new-requires-clause-sound
receive_new-requires-clause-sound c =
    ap (λ s. fault_of s c.args.shadow.now)
    (sym (c.config.ensures.same ∙ c.ledger-ledger.ensures.settings ∙ ap (λ (z : SiteState). z.settings) c.self.view_is))
    ∙ c.in_default.ensures.sound

pub receive_new-requires-clause-new : goal.receive_new-requires-clause-new
receive_new-requires-clause-new c =
    ap (λ (z : SiteState). find_in z.site.ops c.args.shadow.now.name) (sym c.self.view_is)
    ∙ ap (λ us. find_in us c.args.shadow.now.name) (sym c.ledger-ledger.ensures.entries)
    ∙ knows_nothing (λ (u : Shadow). same_shadow u c.args.shadow.now) _ c.in_default-knows.ensures
