-- A shadow is held as the model says.
use Rattle.std.proofs.Common.{◌∙◌, Ok, Err, sym, ap, subst}
use Rattle.rb_inbox.proofs.Public.{sound_numbered}
use Rattle.rb_inbox.specs.Held.{Holding}
use Rattle.rb_shadow.specs.Sound.{IsSound}
use Rattle.rb_site.specs.Events.{outcome_of_new}
use Rattle.rb_site.specs.States.{SiteState, plain}
use Rattle.rb_site.proofs.Handlers.{AnswersAlone, already, holds, refused_put, state_as, tied_at, tied_with}
use Rattle.rb_site.proofs.state.State.hold.Goals as goal

pub put_copy-requires : goal.put_copy-requires
put_copy-requires c = let P : SiteState → Type 0 = λ z. IsSound z.settings c.args.shadow.now in
    sound_numbered c.self.inside.recorded.settings c.args.shadow.now (subst P (sym c.self.view_is) c.requires)

pub invariant_of-self : goal.invariant_of-self
invariant_of-self c =
    tied_with c.self.inside.recorded.settings c.self.inside.inbox c.put_copy.new.self c.self.inside.token c.args.shadow.now
    (c.put_copy.ensures.held (c.in-Ok-Held.is ∙ ap Ok c.in-Ok-Held.field-0-is)) (let P : SiteState →
    Type 0 = λ z. IsSound z.settings c.args.shadow.now in subst P (sym c.self.view_is) c.requires) c.self.invariant

pub returns-in-Ok-Held-clause-ok : goal.returns-in-Ok-Held-clause-ok
returns-in-Ok-Held-clause-ok c =
    let clocked = rw (c.ledger.ensures.settings, c.ledger.ensures.entries) at c.clock.ensures in
    let P : SiteState → Type 0 = λ z. AnswersAlone z (state_as c.self.inside.recorded.settings c.self.inside.token.me
    c.self.inside.recorded.ops c.put_copy.new.self.held c.self.inside.token.token) (outcome_of_new z.settings z.site c.args.shadow.now)
    (plain c.give.new.place) in
    subst P c.self.view_is
    (holds c.self.inside.recorded.settings c.self.inside.token.me c.self.inside.recorded.ops c.self.inside.inbox c.put_copy.new.self
    c.self.inside.token.token c.clock.result.now c.args.shadow.now (plain c.give.new.place) clocked c.self.invariant.limit
    (c.put_copy.ensures.welcome (c.in-Ok-Held.is ∙ ap Ok c.in-Ok-Held.field-0-is)) (c.put_copy.ensures.held (c.in-Ok-Held.is
    ∙ ap Ok c.in-Ok-Held.field-0-is)) c.give.ensures)

pub returns-in-Ok-Already-clause-ok : goal.returns-in-Ok-Already-clause-ok
returns-in-Ok-Already-clause-ok c =
    let now : SiteState = state_as c.self.inside.recorded.settings c.self.inside.token.me c.self.inside.recorded.ops
    c.put_copy.new.self.held c.self.inside.token.token in
    let P : SiteState → Type 0 = λ z. AnswersAlone z now (outcome_of_new z.settings z.site c.args.shadow.now)
    (plain c.give-in-Ok-Already.new.place) in
    subst P c.self.view_is
    (let old : SiteState = state_as c.self.inside.recorded.settings c.self.inside.token.me c.self.inside.recorded.ops
    c.self.inside.inbox.held c.self.inside.token.token in
    let Q : Holding → Type 0 = λ b. AnswersAlone old (state_as c.self.inside.recorded.settings c.self.inside.token.me
    c.self.inside.recorded.ops b.held c.self.inside.token.token) (outcome_of_new old.settings old.site c.args.shadow.now)
    (plain c.give-in-Ok-Already.new.place) in
    subst Q (sym (c.put_copy.ensures.unchanged (c.in-Ok-Already.is ∙ ap Ok c.in-Ok-Already.field-0-is)))
    (already c.self.inside.recorded.settings c.self.inside.token.me c.self.inside.recorded.ops c.self.inside.inbox.held
    c.self.inside.token.token c.args.shadow.now (plain c.give-in-Ok-Already.new.place) (c.put_copy.ensures.already (c.in-Ok-Already.is
    ∙ ap Ok c.in-Ok-Already.field-0-is)) c.give-in-Ok-Already.ensures))

pub returns-clause-ok : goal.returns-clause-ok
returns-clause-ok c =
    let clocked = rw (c.ledger.ensures.settings, c.ledger.ensures.entries) at c.clock.ensures in
    let now : SiteState = state_as c.self.inside.recorded.settings c.self.inside.token.me c.self.inside.recorded.ops
    c.put_copy.new.self.held c.self.inside.token.token in
    let P : SiteState → Type 0 = λ z. AnswersAlone z now (outcome_of_new z.settings z.site c.args.shadow.now) (plain c.give-2.new.place) in
    subst P c.self.view_is
    (refused_put c.self.inside.recorded.settings c.self.inside.token.me c.self.inside.recorded.ops c.self.inside.inbox c.put_copy.new.self
    c.self.inside.token.token c.clock.result.now c.args.shadow.now c.in-Err.why
    (plain c.give-2.new.place) clocked c.self.invariant.limit
    c.in-Err.ensures.refusals (λ e. c.put_copy.ensures.conflict (c.in-Err.is ∙ ap Err e)) (λ e. c.put_copy.ensures.full (c.in-Err.is
    ∙ ap Err e)) c.in_default.not-OutOfMemory c.in-Err.ensures.err c.give-2.ensures)

pub invariant_of-self-in-Ok-Already : goal.invariant_of-self-in-Ok-Already
invariant_of-self-in-Ok-Already c = tied_at c.self.inside.recorded.settings c.self.inside.inbox c.put_copy.new.self c.self.inside.token
    (c.put_copy.ensures.unchanged (c.in-Ok-Already.is ∙ ap Ok c.in-Ok-Already.field-0-is)) c.self.invariant

pub invariant_of-self-in-OutOfMemory : goal.invariant_of-self-in-OutOfMemory
invariant_of-self-in-OutOfMemory c = tied_at c.self.inside.recorded.settings c.self.inside.inbox c.put_copy.new.self c.self.inside.token
    c.in-Err.ensures.err c.self.invariant

pub returns-in-OutOfMemory-clause-err : goal.returns-in-OutOfMemory-clause-err
returns-in-OutOfMemory-clause-err c =
    ap (λ (b : Holding). state_as c.self.inside.recorded.settings c.self.inside.token.me c.self.inside.recorded.ops b.held
    c.self.inside.token.token) c.in-Err.ensures.err ∙ c.self.view_is

pub invariant_of-self-2 : goal.invariant_of-self-2
invariant_of-self-2 c = tied_at c.self.inside.recorded.settings c.self.inside.inbox c.put_copy.new.self c.self.inside.token
    c.in-Err.ensures.err c.self.invariant
