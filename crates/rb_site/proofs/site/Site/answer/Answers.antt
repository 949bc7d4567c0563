-- A full history is left as it is.
use Rattle.std.proofs.Common.{append-nil, ◌≡◌, ◌∙◌, [], ◌++◌, true, cond, ap, sym}
use Rattle.rb_money.specs.declared.refusal.Refusal.TheVariants.{HistoryFull}
use Rattle.rb_site.specs.declared.reply.Reply.TheVariants.{Refused}
use Rattle.rb_site.specs.Events.{is_full, outcome_of, reply_of, sent_by}
use Rattle.rb_site.specs.Seen.{state_of, stepped}
use Rattle.rb_site.proofs.Errors.{on_err}
use Rattle.rb_site.proofs.site.Site.answer.Goals as goal

pub returns-then-is_full-clause-ok : goal.returns-then-is_full-clause-ok
returns-then-is_full-clause-ok g c =
    let full : is_full c.args.self.now.settings (state_of c.args.self.now) ≡ true = sym c.is_full.ensures ∙ c.if-is_full.true in (
      sym (ap (λ b. cond b c.args.self.now (stepped c.args.self.now c.args.event.now)) full),
      sym (ap (λ b. cond b (Refused HistoryFull) (reply_of c.args.self.now.settings (state_of c.args.self.now).ops
          (outcome_of c.args.self.now.settings (state_of c.args.self.now) c.args.event.now))) full),
      sym (append-nil c.args.sent.now.items) ∙ sym (ap (λ b. c.args.sent.now.items
          ++ cond b [] (sent_by (outcome_of c.args.self.now.settings (state_of c.args.self.now) c.args.event.now))) full),
    )

pub step_recording-requires : goal.step_recording-requires
step_recording-requires g c = sym c.is_full.ensures ∙ c.if-is_full.false

pub returns-in_err-step_recording-clause-has_room : goal.returns-in_err-step_recording-clause-has_room
returns-in_err-step_recording-clause-has_room g c = on_err c.from_residual.result _ (sym c.is_full.ensures ∙ c.if-is_full.false)

pub returns-in_err-step_recording-clause-err : goal.returns-in_err-step_recording-clause-err
returns-in_err-step_recording-clause-err g c = on_err c.from_residual.result _ c.in_err-step_recording.ensures.err
