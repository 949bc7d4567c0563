-- A held shadow is applied or let go as the model says.
use Rattle.std.proofs.Common.{◌∙◌, Some, sym, ap, subst}
use Rattle.std.specs.Option.{option_copied}
use Rattle.rb_money.specs.Settings.{Settings}
use Rattle.rb_inbox.specs.Held.{Holding}
use Rattle.rb_shadow.specs.Operations.{find_in, is_eligible}
use Rattle.rb_site.specs.declared.event.Event.TheVariants.{Apply}
use Rattle.rb_site.specs.Events.{outcome_of}
use Rattle.rb_site.specs.States.{SeenLedger, SiteState, plain}
use Rattle.rb_site.proofs.Handlers.{AnswersAlone, applies, drops, held_named, held_sound, index_named, not_held}
use Rattle.rb_site.proofs.Handlers.{not_memory, not_ready, refusal_is, state_as}
use Rattle.rb_site.proofs.Handlers.{tied_as, tied_without, waits}
use Rattle.rb_site.proofs.state.State.apply.Goals as goal

pub invariant_of-self : goal.invariant_of-self
invariant_of-self c = tied_without c.self.inside.recorded.settings c.apply.new.self.settings c.self.inside.inbox c.remove_at.new.self
    c.self.inside.token c.in-Some.held.now.name (ap (λ (b : SeenLedger). b.settings) c.in-Ok.ensures.applied) c.remove_at.ensures
    c.self.invariant

pub returns-in-Ok-clause-ok : goal.returns-in-Ok-clause-ok
returns-in-Ok-clause-ok c =
    let now : SiteState = state_as c.apply.new.self.settings c.self.inside.token.me c.apply.new.self.ops c.remove_at.new.self.held
    c.self.inside.token.token in
    let P : SiteState → Type 0 = λ z. AnswersAlone z now (outcome_of z.settings z.site (Apply c.args.name.now))
    (plain c.give-in-Ok.new.place) in
    subst P c.self.view_is
    (let old : SiteState = state_as c.self.inside.recorded.settings c.self.inside.token.me c.self.inside.recorded.ops
    c.self.inside.inbox.held c.self.inside.token.token in
    let Q : Settings → Type 0 = λ s. AnswersAlone old (state_as s c.self.inside.token.me c.apply.new.self.ops c.remove_at.new.self.held
    c.self.inside.token.token) (outcome_of old.settings old.site (Apply c.args.name.now)) (plain c.give-in-Ok.new.place) in
    subst Q (sym (ap (λ (b : SeenLedger). b.settings) c.in-Ok.ensures.applied))
    (applies c.self.inside.recorded.settings c.self.inside.token.me c.self.inside.recorded.ops c.self.inside.inbox.held c.apply.new.self.ops
    c.remove_at.new.self.held c.self.inside.token.token c.args.name.now c.in-Some.held.now (plain c.give-in-Ok.new.place)
    (sym c.find-index.ensures.held ∙ ap option_copied c.in-Some.is)
    (ap (λ us. is_eligible us c.in-Some.held.now) (sym c.ledger.ensures.entries) ∙ sym c.is_eligible.ensures
    ∙ c.if-not-is_eligible.false)
    (held_sound c.self.inside.recorded.settings c.self.inside.inbox.held c.args.name.now c.in-Some.held.now c.self.invariant.sound
    (sym c.find-index.ensures.held ∙ ap option_copied c.in-Some.is))
    c.in-Ok.ensures.taken (ap (λ (b : SeenLedger). b.ops) c.in-Ok.ensures.applied) (ap (λ (b : Holding). b.held) c.remove_at.ensures)
    c.give-in-Ok.ensures))

pub invariant_of-self-in_default-why : goal.invariant_of-self-in_default-why
invariant_of-self-in_default-why c = tied_without c.self.inside.recorded.settings c.apply.new.self.settings c.self.inside.inbox
    c.remove_at-in_default-why.new.self c.self.inside.token c.in-Some.held.now.name
    (ap (λ (b : SeenLedger). b.settings) c.in-Err.ensures.refused.0) c.remove_at-in_default-why.ensures c.self.invariant

pub returns-in-NotReady-clause-ok : goal.returns-in-NotReady-clause-ok
returns-in-NotReady-clause-ok c =
    let now : SiteState = state_as c.apply.new.self.settings c.self.inside.token.me c.apply.new.self.ops c.self.inside.inbox.held
    c.self.inside.token.token in
    let P : SiteState → Type 0 = λ z. AnswersAlone z now (outcome_of z.settings z.site (Apply c.args.name.now))
    (plain c.give-in-NotReady.new.place) in
    subst P c.self.view_is
    (let old : SiteState = state_as c.self.inside.recorded.settings c.self.inside.token.me c.self.inside.recorded.ops
    c.self.inside.inbox.held c.self.inside.token.token in
    let Q : SeenLedger → Type 0 = λ b. AnswersAlone old (state_as b.settings c.self.inside.token.me b.ops c.self.inside.inbox.held
    c.self.inside.token.token) (outcome_of old.settings old.site (Apply c.args.name.now)) (plain c.give-in-NotReady.new.place) in
    subst Q (sym c.in-Err.ensures.refused.0)
    (waits c.self.inside.recorded.settings c.self.inside.token.me c.self.inside.recorded.ops c.self.inside.inbox.held
    c.self.inside.token.token c.args.name.now c.in-Some.held.now (plain c.give-in-NotReady.new.place)
    (sym c.find-index.ensures.held ∙ ap option_copied c.in-Some.is)
    (ap (λ us. is_eligible us c.in-Some.held.now) (sym c.ledger.ensures.entries) ∙ sym c.is_eligible.ensures
    ∙ c.if-not-is_eligible.false)
    (held_sound c.self.inside.recorded.settings c.self.inside.inbox.held c.args.name.now c.in-Some.held.now c.self.invariant.sound
    (sym c.find-index.ensures.held ∙ ap option_copied c.in-Some.is))
    (refusal_is c.in-Err.why _ c.in-Err.ensures.refused.1 (not_memory c.in-Err.why c.in-NotReady.is)
    ∙ ap Some c.in-NotReady.is) c.give-in-NotReady.ensures))

pub returns-in_default-why-clause-ok : goal.returns-in_default-why-clause-ok
returns-in_default-why-clause-ok c =
    let now : SiteState = state_as c.apply.new.self.settings c.self.inside.token.me c.apply.new.self.ops
    c.remove_at-in_default-why.new.self.held c.self.inside.token.token in
    let P : SiteState → Type 0 = λ z. AnswersAlone z now (outcome_of z.settings z.site (Apply c.args.name.now))
    (plain c.give-in_default-why.new.place) in
    subst P c.self.view_is
    (let old : SiteState = state_as c.self.inside.recorded.settings c.self.inside.token.me c.self.inside.recorded.ops
    c.self.inside.inbox.held c.self.inside.token.token in
    let Q : SeenLedger → Type 0 = λ b. AnswersAlone old (state_as b.settings c.self.inside.token.me b.ops
    c.remove_at-in_default-why.new.self.held c.self.inside.token.token) (outcome_of old.settings old.site (Apply c.args.name.now))
    (plain c.give-in_default-why.new.place) in
    subst Q (sym c.in-Err.ensures.refused.0)
    (drops c.self.inside.recorded.settings c.self.inside.token.me c.self.inside.recorded.ops c.self.inside.inbox.held
    c.remove_at-in_default-why.new.self.held c.self.inside.token.token c.args.name.now c.in-Some.held.now c.in-Err.why
    (plain c.give-in_default-why.new.place)
    (sym c.find-index.ensures.held ∙ ap option_copied c.in-Some.is)
    (ap (λ us. is_eligible us c.in-Some.held.now) (sym c.ledger.ensures.entries) ∙ sym c.is_eligible.ensures
    ∙ c.if-not-is_eligible.false)
    (held_sound c.self.inside.recorded.settings c.self.inside.inbox.held c.args.name.now c.in-Some.held.now c.self.invariant.sound
    (sym c.find-index.ensures.held ∙ ap option_copied c.in-Some.is))
    (refusal_is c.in-Err.why _ c.in-Err.ensures.refused.1 c.in_default-why.not-OutOfMemory) c.in_default-why.not-NotReady
    (ap (λ (b : Holding). b.held) c.remove_at-in_default-why.ensures) c.give-in_default-why.ensures))

pub returns-in_default-clause-ok : goal.returns-in_default-clause-ok
returns-in_default-clause-ok c =
    not_held c.args.self.now c.args.name.now (plain c.give.new.place)
    (ap (λ (z : SiteState). find_in z.site.held c.args.name.now) (sym c.self.view_is) ∙ sym c.find-index.ensures.held
    ∙ ap option_copied c.in_default.is) c.give.ensures

pub returns-then-not-is_eligible-clause-ok : goal.returns-then-not-is_eligible-clause-ok
returns-then-not-is_eligible-clause-ok c =
    not_ready c.args.self.now c.args.name.now c.in-Some.held.now (plain c.give-then-not-is_eligible.new.place)
    (ap (λ (z : SiteState). find_in z.site.held c.args.name.now) (sym c.self.view_is) ∙ sym c.find-index.ensures.held
    ∙ ap option_copied c.in-Some.is)
    (ap (λ (z : SiteState). is_eligible z.site.ops c.in-Some.held.now) (sym c.self.view_is)
    ∙ ap (λ us. is_eligible us c.in-Some.held.now) (sym c.ledger.ensures.entries) ∙ sym c.is_eligible.ensures
    ∙ c.if-not-is_eligible.true)
    c.give-then-not-is_eligible.ensures

pub invariant_of-self-in-OutOfMemory : goal.invariant_of-self-in-OutOfMemory
invariant_of-self-in-OutOfMemory c = tied_as c.self.inside.recorded.settings c.apply.new.self.settings c.self.inside.inbox
    c.self.inside.token (ap (λ (b : SeenLedger). b.settings) c.in-Err.ensures.refused.0) c.self.invariant

pub invariant_of-self-in-NotReady : goal.invariant_of-self-in-NotReady
invariant_of-self-in-NotReady c = tied_as c.self.inside.recorded.settings c.apply.new.self.settings c.self.inside.inbox
    c.self.inside.token (ap (λ (b : SeenLedger). b.settings) c.in-Err.ensures.refused.0) c.self.invariant

pub returns-in-OutOfMemory-clause-err : goal.returns-in-OutOfMemory-clause-err
returns-in-OutOfMemory-clause-err c =
    ap (λ (b : SeenLedger). state_as b.settings c.self.inside.token.me b.ops c.self.inside.inbox.held c.self.inside.token.token)
    c.in-Err.ensures.refused.0 ∙ c.self.view_is

pub remove_at-requires-clause-held : goal.remove_at-requires-clause-held
remove_at-requires-clause-held c = (
  c.in-Some.held.now,
  held_named c.self.inside.inbox.held c.args.name.now c.in-Some.held.now
      (sym c.find-index.ensures.held ∙ ap option_copied c.in-Some.is),
)

pub remove_at-requires-clause-index : goal.remove_at-requires-clause-index
remove_at-requires-clause-index c = index_named c.self.inside.inbox.held c.args.name.now c.in-Some.held.now _
    (sym c.find-index.ensures.held ∙ ap option_copied c.in-Some.is) c.find-index.ensures.index

pub remove_at-requires-in_default-why : goal.remove_at-requires-in_default-why
remove_at-requires-in_default-why c = record {
  held = (
    c.in-Some.held.now,
    held_named c.self.inside.inbox.held c.args.name.now c.in-Some.held.now (sym c.find-index.ensures.held
        ∙ ap option_copied c.in-Some.is),
  );
  index = index_named c.self.inside.inbox.held c.args.name.now c.in-Some.held.now _ (sym c.find-index.ensures.held
      ∙ ap option_copied c.in-Some.is) c.find-index.ensures.index;
}
