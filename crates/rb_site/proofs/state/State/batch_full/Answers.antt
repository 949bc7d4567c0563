-- A batch that would be made is refused, and any other has its own refusal.
use Rattle.std.proofs.Common.{◌≡◌, ◌∙◌, Ok, Err, ap, false, subst, sym, true}
use Rattle.rb_scratch.specs.Batches.{batch_of}
use Rattle.rb_site.specs.declared.event.Event.TheVariants.{Batch}
use Rattle.rb_site.specs.States.{SeenLedger, SiteState}
use Rattle.rb_site.specs.Unchanging.{reply_at_full}
use Rattle.rb_site.proofs.Batches.{is_of_size, refused_batch}
use Rattle.rb_site.proofs.FullHistory.{batch_made, batch_refused, batch_size}
use Rattle.rb_site.proofs.Handlers.{state_as}
use Rattle.rb_site.proofs.state.State.batch_full.Goals as goal

pub returns-then-not-is_batch-clause-reply : goal.returns-then-not-is_batch-clause-reply
returns-then-not-is_batch-clause-reply c =
    let size : is_of_size c.args.requests.now ≡ false = ap is_of_size (sym c.as_slice-asked.ensures) ∙ sym c.is_batch.ensures
    ∙ c.if-not-is_batch.true in
    batch_size c.args.self.now.settings c.args.self.now.site c.args.requests.now c.give.new.place size c.give.ensures.0

pub returns-in-Ok-clause-reply : goal.returns-in-Ok-clause-reply
returns-in-Ok-clause-reply c =
    let (vs, runs) = c.in-Ok.ensures.fits in
    let size : is_of_size c.args.requests.now ≡ true = ap is_of_size (sym c.as_slice-asked.ensures) ∙ sym c.is_batch.ensures
    ∙ c.if-not-is_batch.false in
    let made : batch_of c.self.inside.recorded.settings c.self.inside.token.me c.self.inside.recorded.ops c.self.inside.token.token 0
    c.args.requests.now ≡ Ok vs =
    ap (λ i. batch_of c.self.inside.recorded.settings i c.self.inside.recorded.ops c.self.inside.token.token 0 c.args.requests.now)
    (sym c.view-token.ensures.me)
    ∙ ap (batch_of c.self.inside.recorded.settings c.view-token.result.me c.self.inside.recorded.ops c.self.inside.token.token 0)
    (sym c.as_slice-asked.ensures)
    ∙ runs c.self.inside.token.token c.view-token.ensures.shows in
    let old : SiteState = state_as c.self.inside.recorded.settings c.self.inside.token.me c.self.inside.recorded.ops
    c.self.inside.inbox.held c.self.inside.token.token in
    let P : SiteState → Type 0 = λ z. c.give-in-Ok.new.place ≡ reply_at_full z.settings z.site (Batch c.args.requests.now) in
    subst P c.self.view_is
    (batch_made old.settings old.site c.args.requests.now vs c.give-in-Ok.new.place size made c.give-in-Ok.ensures.0)

pub returns : goal.returns
returns c =
    let size : is_of_size c.args.requests.now ≡ true = ap is_of_size (sym c.as_slice-asked.ensures) ∙ sym c.is_batch.ensures
    ∙ c.if-not-is_batch.false in
    let refused : batch_of c.self.inside.recorded.settings c.self.inside.token.me c.self.inside.recorded.ops c.self.inside.token.token 0
    c.args.requests.now ≡ Err c.in-Err.why =
    ap (λ i. batch_of c.self.inside.recorded.settings i c.self.inside.recorded.ops c.self.inside.token.token 0 c.args.requests.now)
    (sym c.view-token.ensures.me)
    ∙ ap (batch_of c.self.inside.recorded.settings c.view-token.result.me c.self.inside.recorded.ops c.self.inside.token.token 0)
    (sym c.as_slice-asked.ensures)
    ∙ refused_batch c.in-Err.why _ c.in-Err.ensures.refused c.in_default.not-OutOfMemory c.self.inside.token.token
    c.view-token.ensures.shows in
    let old : SiteState = state_as c.self.inside.recorded.settings c.self.inside.token.me c.self.inside.recorded.ops
    c.self.inside.inbox.held c.self.inside.token.token in
    let P : SiteState → Type 0 = λ z. c.give-2.new.place ≡ reply_at_full z.settings z.site (Batch c.args.requests.now) in
    record {
      same =
          ap (λ (b : SeenLedger). state_as b.settings c.self.inside.token.me b.ops c.self.inside.inbox.held c.self.inside.token.token)
          c.try_batch.ensures.same ∙ c.self.view_is;
      reply = subst P c.self.view_is
          (batch_refused old.settings old.site c.args.requests.now c.in-Err.why c.give-2.new.place size refused c.give-2.ensures.0);
    }
