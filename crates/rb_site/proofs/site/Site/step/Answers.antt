-- An event sends at most as many messages as a batch may have requests.
use Rattle.std.proofs.Common.{◌∙◌, ◌≤◌, ◌++◌, ap, length, subst, sym}
use Rattle.std.proofs.lemmas.Result.{IfOk-from_err}
use Rattle.rb_scratch.specs.declared.request.TheConstants.{MOST_REQUESTS}
use Rattle.rb_site.specs.Events.{sent_at}
use Rattle.rb_site.specs.Seen.{state_of}
use Rattle.rb_site.proofs.Public.Outcomes.{sent_few}
use Rattle.rb_site.proofs.Errors.{on_err}
use Rattle.rb_site.proofs.site.Site.step.Goals as goal

pub returns-clause-few : goal.returns-clause-few
returns-clause-few g c = subst (λ ms. length ms ≤ MOST_REQUESTS) (sym ((c.in_ok-answer.ensures.ok).2
    ∙ ap (λ ms. ms ++ sent_at c.args.self.now.settings (state_of c.args.self.now) c.args.event) c.new-posted.ensures.items))
    (sent_few c.args.self.now.settings (state_of c.args.self.now) c.args.event)

pub returns-in_err-answer-clause-ok : goal.returns-in_err-answer-clause-ok
returns-in_err-answer-clause-ok g c = IfOk-from_err c.from_residual.result _ c.from_residual.ensures.0

pub returns-in_err-answer-clause-few : goal.returns-in_err-answer-clause-few
returns-in_err-answer-clause-few g c = IfOk-from_err c.from_residual.result _ c.from_residual.ensures.0

pub returns-in_err-answer-clause-err : goal.returns-in_err-answer-clause-err
returns-in_err-answer-clause-err g c = on_err c.from_residual.result _ c.in_err-answer.ensures.err.0

pub returns-in_err-answer-clause-has_room : goal.returns-in_err-answer-clause-has_room
returns-in_err-answer-clause-has_room g c = on_err c.from_residual.result _ c.in_err-answer.ensures.has_room

pub returns-clause-ok : goal.returns-clause-ok
returns-clause-ok g c = (
  c.in_ok-answer.ensures.ok.0,
  c.in_ok-answer.ensures.ok.1,
  c.in_ok-answer.ensures.ok.2 ∙ ap (λ ms. ms ++ sent_at c.args.self.now.settings (state_of c.args.self.now) c.args.event)
      c.new-posted.ensures.items,
)
