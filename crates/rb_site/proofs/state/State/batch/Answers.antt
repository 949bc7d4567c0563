-- A batch is made or refused as the model says.
use Rattle.std.proofs.Common.{◌≡◌, ◌∙◌, ◌<◌, List, ap, subst, sym, true, false, Ok, Err}
use Rattle.rb_scratch.specs.Batches.{batch_of}
use Rattle.rb_site.specs.declared.event.Event.TheVariants.{Batch}
use Rattle.rb_site.specs.declared.message.Message.{Message}
use Rattle.rb_site.specs.Events.{outcome_of}
use Rattle.rb_site.specs.States.{Follows, SeenLedger, SiteState, noting, plain}
use Rattle.rb_site.proofs.Batches.{is_of_size, makes_batch, refused_batch, refuses_batch, refuses_size}
use Rattle.rb_site.proofs.Handlers.{follows_plain, follows_with, state_as, tied_as}
use Rattle.rb_site.proofs.state.State.batch.Goals as goal

-- a refusal sends nothing, for any history
pub returns-then-not-is_batch-clause-ok : goal.returns-then-not-is_batch-clause-ok
returns-then-not-is_batch-clause-ok c =
    let size : is_of_size c.args.requests.now ≡ false = ap is_of_size (sym c.as_slice-asked.ensures) ∙ sym c.is_batch.ensures
    ∙ c.if-not-is_batch.true in
    follows_with c.args.keeps c.args.self.now c.args.self.now c.args.sent.now.items c.args.sent.now.items _ _ (plain c.give.new.place)
    (ap (noting c.give.new.place) c.requires) (
    follows_plain c.args.keeps c.args.self.now c.args.self.now c.args.sent.now.items
    (outcome_of c.args.self.now.settings c.args.self.now.site (Batch c.args.requests.now)) (plain c.give.new.place)
    (refuses_size c.args.self.now c.args.requests.now (plain c.give.new.place) size c.give.ensures))

pub returns-in-Ok-clause-ok : goal.returns-in-Ok-clause-ok
returns-in-Ok-clause-ok c =
    let (vs, grown, says, posted, runs) = c.in-Ok.ensures.made in
    let size : is_of_size c.args.requests.now ≡ true = ap is_of_size (sym c.as_slice-asked.ensures) ∙ sym c.is_batch.ensures
    ∙ c.if-not-is_batch.false in
    let made : batch_of c.self.inside.recorded.settings c.self.inside.token.me c.self.inside.recorded.ops c.self.inside.token.token 0
    c.args.requests.now ≡ Ok vs =
    ap (λ i. batch_of c.self.inside.recorded.settings i c.self.inside.recorded.ops c.self.inside.token.token 0 c.args.requests.now)
    (sym c.view-token.ensures.me)
    ∙ ap (batch_of c.self.inside.recorded.settings c.view-token.result.me c.self.inside.recorded.ops c.self.inside.token.token 0)
    (sym c.as_slice-asked.ensures)
    ∙ runs c.self.inside.token.token c.view-token.ensures.shows in
    let P : SiteState → Type 0 = λ z. Follows c.args.keeps z
    (state_as c.batch-made.new.self.settings c.self.inside.token.me c.batch-made.new.self.ops
    c.self.inside.inbox.held c.self.inside.token.token) c.args.sent.now.items c.batch-made.new.sent.items
    (outcome_of z.settings z.site (Batch c.args.requests.now)) c.in-Ok.made in
    follows_with c.args.keeps c.args.self.now _ c.args.sent.now.items c.batch-made.new.sent.items _ _ c.in-Ok.made c.put.ensures
    (subst P c.self.view_is
    (let old : SiteState = state_as c.self.inside.recorded.settings c.self.inside.token.me c.self.inside.recorded.ops
    c.self.inside.inbox.held c.self.inside.token.token in
    let Q : SeenLedger → Type 0 = λ b. Follows c.args.keeps old (state_as b.settings c.self.inside.token.me b.ops c.self.inside.inbox.held
    c.self.inside.token.token) c.args.sent.now.items c.batch-made.new.sent.items
    (outcome_of old.settings old.site (Batch c.args.requests.now)) c.in-Ok.made in
    subst Q (sym grown)
    (makes_batch c.args.keeps c.self.inside.recorded.settings c.self.inside.token.me c.self.inside.recorded.ops c.self.inside.inbox.held
    c.self.inside.token.token c.args.requests.now vs c.args.sent.now.items c.batch-made.new.sent.items c.in-Ok.made size made says posted)))

pub returns-clause-ok : goal.returns-clause-ok
returns-clause-ok c =
    let size : is_of_size c.args.requests.now ≡ true = ap is_of_size (sym c.as_slice-asked.ensures) ∙ sym c.is_batch.ensures
    ∙ c.if-not-is_batch.false in
    let refused : batch_of c.self.inside.recorded.settings c.self.inside.token.me c.self.inside.recorded.ops c.self.inside.token.token 0
    c.args.requests.now ≡ Err c.in-Err.why =
    ap (λ i. batch_of c.self.inside.recorded.settings i c.self.inside.recorded.ops c.self.inside.token.token 0 c.args.requests.now)
    (sym c.view-token.ensures.me)
    ∙ ap (batch_of c.self.inside.recorded.settings c.view-token.result.me c.self.inside.recorded.ops c.self.inside.token.token 0)
    (sym c.as_slice-asked.ensures)
    ∙ refused_batch c.in-Err.why _ c.in-Err.ensures.refused.2 c.in_default.not-OutOfMemory c.self.inside.token.token
    c.view-token.ensures.shows in
    let now : SeenLedger → SiteState = λ b. state_as b.settings c.self.inside.token.me b.ops c.self.inside.inbox.held
    c.self.inside.token.token in
    let P : SiteState → Type 0 = λ z. Follows c.args.keeps z (now c.batch-made.new.self) c.args.sent.now.items c.batch-made.new.sent.items
    (outcome_of z.settings z.site (Batch c.args.requests.now)) (plain c.give-2.new.place) in
    let old : SiteState = now c.self.inside.recorded in
    let Q : SeenLedger → Type 0 = λ b. Follows c.args.keeps old (now b) c.args.sent.now.items c.batch-made.new.sent.items
    (outcome_of old.settings old.site (Batch c.args.requests.now)) (plain c.give-2.new.place) in
    let R : List Message → Type 0 = λ ms. Follows c.args.keeps old old c.args.sent.now.items ms
    (outcome_of old.settings old.site (Batch c.args.requests.now)) (plain c.give-2.new.place) in
    follows_with c.args.keeps c.args.self.now _ c.args.sent.now.items c.batch-made.new.sent.items _ _ (plain c.give-2.new.place)
    (ap (noting c.give-2.new.place) c.requires)
    (subst P c.self.view_is
    (subst Q (sym c.in-Err.ensures.refused.0)
    (subst R (sym c.in-Err.ensures.refused.1)
    (follows_plain c.args.keeps old old c.args.sent.now.items (outcome_of old.settings old.site (Batch c.args.requests.now))
    (plain c.give-2.new.place)
    (refuses_batch c.self.inside.recorded.settings c.self.inside.token.me c.self.inside.recorded.ops c.self.inside.inbox.held
    c.self.inside.token.token c.args.requests.now c.in-Err.why (plain c.give-2.new.place) size refused c.give-2.ensures)))))

pub batch-made-requires-clause-site : goal.batch-made-requires-clause-site
batch-made-requires-clause-site c =
    subst (λ me. me < c.self.inside.recorded.settings.sites) (sym c.view-token.ensures.me) c.self.invariant.me

pub invariant_of-self : goal.invariant_of-self
invariant_of-self c =
    let (vs, grown, says, posted, runs) = c.in-Ok.ensures.made in
    tied_as c.self.inside.recorded.settings c.batch-made.new.self.settings c.self.inside.inbox c.self.inside.token
    (ap (λ (b : SeenLedger). b.settings) grown) c.self.invariant

pub invariant_of-self-in-OutOfMemory : goal.invariant_of-self-in-OutOfMemory
invariant_of-self-in-OutOfMemory c = tied_as c.self.inside.recorded.settings c.batch-made.new.self.settings c.self.inside.inbox
    c.self.inside.token (ap (λ (b : SeenLedger). b.settings) c.in-Err.ensures.refused.0) c.self.invariant

pub returns-in-OutOfMemory-clause-err : goal.returns-in-OutOfMemory-clause-err
returns-in-OutOfMemory-clause-err c = (
  ap (λ (b : SeenLedger). state_as b.settings c.self.inside.token.me b.ops c.self.inside.inbox.held c.self.inside.token.token)
      c.in-Err.ensures.refused.0 ∙ c.self.view_is,
  c.in-Err.ensures.refused.1,
)

pub invariant_of-self-2 : goal.invariant_of-self-2
invariant_of-self-2 c = tied_as c.self.inside.recorded.settings c.batch-made.new.self.settings c.self.inside.inbox c.self.inside.token
    (ap (λ (b : SeenLedger). b.settings) c.in-Err.ensures.refused.0) c.self.invariant
