-- The order, or what shows that there is none.
use Rattle.std.proofs.Common.{◌∙◌, ap}
use Rattle.rb_auditor.specs.Findings.{IsStuckAt}
use Rattle.rb_auditor.specs.Kept.{histories_in}
use Rattle.rb_auditor.specs.Progress.{Progress}
use Rattle.rb_auditor.proofs.Judged
use Rattle.rb_auditor.proofs.Refuting
use Rattle.rb_auditor.proofs.Takings
use Rattle.rb_auditor.proofs.auditing.find.Goals as goal

pub returns-in-Some-clause-refuted : goal.returns-in-Some-clause-refuted
returns-in-Some-clause-refuted c = Refuting.wrong_is_final _ _ _ _ c.in-Some.ensures.some

pub returns-in_default-open-clause-found : goal.returns-in_default-open-clause-found
returns-in_default-open-clause-found c = Judged.all_replay c.requires c.in_default.ensures.none

pub returns-in_default-take_all-clause-found : goal.returns-in_default-take_all-clause-found
returns-in_default-take_all-clause-found c = Judged.all_replay c.requires c.in_default.ensures.none

pub returns-then-is_done-clause-certified : goal.returns-then-is_done-clause-certified
returns-then-is_done-clause-certified c =
    Takings.certified_as c.take_all.new.taking (c.in-Ok-take_all.ensures.same.0
    ∙ ap (λ (p : Progress). p.settings) c.in-Ok.ensures)
    (c.in-Ok-take_all.ensures.same.1 ∙ ap (λ (p : Progress). p.histories) c.in-Ok.ensures) c.close.ensures.order
    (Takings.all_certified c.take_all.new.taking c.is_done.ensures.taking c.if-is_done.ensures.done)

stuck_at : (c : goal.After-drop-taking-inside-in-Ok-next-5)
    → IsStuckAt c.args.config.now (histories_in c.args.notes.now) c.in-Ok-next.next.items
stuck_at c =
    Takings.stuck_as (c.in-Ok-take_all.ensures.same.0 ∙ ap (λ (p : Progress). p.settings) c.in-Ok.ensures)
    (c.in-Ok-take_all.ensures.same.1 ∙ ap (λ (p : Progress). p.histories) c.in-Ok.ensures)
    c.in-Ok-next.ensures c.is_done.ensures.taking c.in-Ok-take_all.ensures.rest c.if-is_done.ensures.done

pub returns-in-Ok-next : goal.returns-in-Ok-next
returns-in-Ok-next c =
    record { certified = tt; found = stuck_at c; refuted = Refuting.stuck_is_final _ _ _ (stuck_at c) }

pub returns-clause-found : goal.returns-clause-found
returns-clause-found c = Judged.all_replay c.requires c.in_default.ensures.none
