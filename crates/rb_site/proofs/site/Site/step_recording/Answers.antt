-- A step that is recorded is a step of the model, and any other leaves the site as it was.
use Rattle.std.proofs.Common.{◌≡◌, ◌∙◌, ◌+◌, ◌≤◌, ◌||◌, false, true, cond, [], ◌∷◌, ◌++◌, length, ap, refl, subst, sym}
use Rattle.std.specs.Prelude.{map}
use Rattle.std.proofs.lemmas.Bool.{or_parts}
use Rattle.std.proofs.lemmas.List.{map-append}
use Rattle.rb_scratch.specs.declared.request.TheConstants.{MOST_REQUESTS}
use Rattle.rb_site.specs.Events.{is_full, outcome_of, reply_to, sent_at}
use Rattle.rb_site.specs.Seen.{SeenSite, entry, next_site, state_of}
use Rattle.rb_site.specs.Reports.{IsEnough}
use Rattle.rb_site.specs.States.{IsStanding, SiteState, noting}
use Rattle.rb_site.proofs.site.Site.step_recording.Given.{Over}
use Rattle.rb_site.proofs.site.Site.step_recording.Goals as goal
use Rattle.rb_site.proofs.Reports.{enough_more, still_enough}
use Rattle.rb_site.proofs.States.{IsStep, changes_seen, is_step, me_kept, noted_in, seen_as}
use Rattle.rb_site.proofs.States.{seen_now, seen_same, stands_as, stays}
use Rattle.rb_site.proofs.Public.Outcomes.{sends_few}
use Rattle.rb_site.specs.Unchanging.{changes_site}

the_step : (g : Over) (c : goal.After-push_reserved g) → IsStep (seen_as c.self.inside.state.settings c.self.inside.state.site.me
    (map g.E.KeepsEntry.entry c.self.inside.history.items)) c.act_noted.new.state c.args.sent.now.items c.act_noted.new.sent.items
    c.args.event.now (noting c.act_noted.new.reply c.in_ok-changed.ensures.ok.0)
the_step g c =
    is_step g.E.KeepsEntry.KEEPS _ c.self.inside.state c.act_noted.new.state c.args.sent.now.items c.act_noted.new.sent.items
    c.args.event.now
    (noting c.act_noted.new.reply c.in_ok-changed.ensures.ok.0)
    (ap (λ (x : SeenSite). is_full x.settings (state_of x)) c.self.view_is ∙ c.requires)
    c.self.invariant.0 c.in_ok-changed.ensures.ok.1

the_pushed : (g : Over) (c : goal.After-push_reserved g) → seen_as c.act_noted.new.state.settings c.act_noted.new.state.site.me
    (map g.E.KeepsEntry.entry c.push_reserved.new.self.items) ≡ noted_in
    (seen_as c.self.inside.state.settings c.self.inside.state.site.me (map g.E.KeepsEntry.entry c.self.inside.history.items))
    c.args.event.now
    c.act_noted.new.reply
the_pushed g c =
    seen_now _ c.act_noted.new.state c.args.sent.now.items c.act_noted.new.sent.items c.args.event.now
    (noting c.act_noted.new.reply c.in_ok-changed.ensures.ok.0)
    (map g.E.KeepsEntry.entry c.push_reserved.new.self.items) (the_step g c)
    (me_kept g.E.KeepsEntry.KEEPS c.self.inside.state c.act_noted.new.state c.args.sent.now.items c.act_noted.new.sent.items _
    (noting c.act_noted.new.reply c.in_ok-changed.ensures.ok.0)
    c.in_ok-changed.ensures.ok.1)
    (ap (map g.E.KeepsEntry.entry) c.push_reserved.ensures.items
    ∙ map-append g.E.KeepsEntry.entry c.reserve_one.new.list.items _
    ∙ ap (λ x. map g.E.KeepsEntry.entry c.reserve_one.new.list.items ++ x ∷ []) c.in_ok-changed.ensures.entry
    ∙ ap (λ xs. map g.E.KeepsEntry.entry xs ++ entry c.args.event.now c.act_noted.new.reply ∷ []) c.in_ok-reserve_one.ensures.items)

pub invariant_of-self-then-recorded : goal.invariant_of-self-then-recorded
invariant_of-self-then-recorded g c = (
  let P : SeenSite → Type 0 = λ x. IsStanding x c.act_noted.new.state in subst P (sym (the_pushed g c)) (the_step g c).standing,
  λ kept. still_enough c.grow.new.self g.E.KeepsEntry.KEEPS c.self.inside.state c.act_noted.new.state c.args.sent.now.items
      c.act_noted.new.sent.items (outcome_of c.self.inside.state.settings c.self.inside.state.site c.args.event.now)
      (noting c.act_noted.new.reply c.in_ok-changed.ensures.ok.0) c.in_ok-changed.ensures.ok.1
      (sends_few c.self.inside.state.settings c.self.inside.state.site c.args.event.now)
      (subst (λ n. length c.self.inside.state.settings.starts ≤ n) (sym c.grow.ensures.accounts) (c.self.invariant.1 kept).accounts)
      (subst (λ n. n + MOST_REQUESTS ≤ c.grow.new.self.entries) (c.len.ensures.same
      ∙ ap length c.ledger.ensures.entries) (c.in_ok-grow.ensures.ok (c.KEEPS.ensures ∙ kept))),
)

-- the event changes the site if that was seen
changes : (g : Over) (c : goal.After-push_reserved g) → changes_site c.args.self.now.settings (state_of c.args.self.now) c.args.event.now
    ≡ c.in_ok-changed.changed
changes g c = changes_seen _ c.args.self.now c.self.inside.state c.args.event.now _ _ c.self.view_is c.self.invariant.0
    c.in_ok-changed.ensures.changed refl

pub returns-then-recorded-clause-recorded : goal.returns-then-recorded-clause-recorded
returns-then-recorded-clause-recorded g c = ap (λ b. c.args.all || b) (sym (changes g c))

pub returns-then-recorded-clause-ok : goal.returns-then-recorded-clause-ok
returns-then-recorded-clause-ok g c = (
  the_pushed g c ∙ (the_step g c).seen ∙ ap (λ (x : SeenSite). next_site x c.args.event.now) c.self.view_is
      ∙ sym (ap (λ b. cond b (next_site c.args.self.now c.args.event.now) c.args.self.now)
      (ap (λ b. c.args.all || b) (changes g c) ∙ c.if-recorded.true)),
  (the_step g c).reply ∙ ap (λ (x : SeenSite). reply_to x.settings (state_of x) c.args.event.now) c.self.view_is,
  (the_step g c).sent ∙ ap (λ (x : SeenSite). c.args.sent.now.items ++ sent_at x.settings (state_of x) c.args.event.now) c.self.view_is,
)

-- ---- an event that isn't recorded, since it changes nothing

pub invariant_of-self-else-recorded : goal.invariant_of-self-else-recorded
invariant_of-self-else-recorded g c =
    let P : SiteState → Type 0 = λ z. IsStanding (seen_as z.settings z.site.me (map g.E.KeepsEntry.entry c.reserve_one.new.list.items)) z
    × (g.E.KeepsEntry.KEEPS ≡ true → IsEnough c.grow.new.self z) in
    let same : c.act_noted.new.state ≡ c.self.inside.state =
    stays g.E.KeepsEntry.KEEPS c.self.inside.state c.act_noted.new.state c.args.sent.now.items c.act_noted.new.sent.items _
    (noting c.act_noted.new.reply c.in_ok-changed.ensures.ok.0)
    (sym c.in_ok-changed.ensures.changed ∙ (or_parts c.args.all c.in_ok-changed.changed c.if-recorded.false).1)
    c.in_ok-changed.ensures.ok.1 in
    subst P (sym same) (
      stands_as g.E.KeepsEntry.entry c.self.inside.history.items c.reserve_one.new.list.items c.self.inside.state
          c.in_ok-reserve_one.ensures.items c.self.invariant.0,
      λ keeps. enough_more c.self.inside.report_lists c.grow.new.self c.self.inside.state c.grow.ensures.kept c.grow.ensures.accounts
          (c.self.invariant.1 keeps),
    )

pub returns-else-recorded-clause-recorded : goal.returns-else-recorded-clause-recorded
returns-else-recorded-clause-recorded g c =
    ap (λ b. c.args.all || b) (sym (changes_seen _ c.args.self.now c.self.inside.state c.args.event.now _ _ c.self.view_is
    c.self.invariant.0 c.in_ok-changed.ensures.changed refl))

pub returns-else-recorded-clause-ok : goal.returns-else-recorded-clause-ok
returns-else-recorded-clause-ok g c =
    let step : IsStep (seen_as c.self.inside.state.settings c.self.inside.state.site.me
    (map g.E.KeepsEntry.entry c.self.inside.history.items))
    c.act_noted.new.state c.args.sent.now.items c.act_noted.new.sent.items
    c.args.event.now (noting c.act_noted.new.reply c.in_ok-changed.ensures.ok.0) =
    is_step g.E.KeepsEntry.KEEPS _ c.self.inside.state c.act_noted.new.state c.args.sent.now.items c.act_noted.new.sent.items
    c.args.event.now (noting c.act_noted.new.reply c.in_ok-changed.ensures.ok.0)
    (ap (λ (x : SeenSite). is_full x.settings (state_of x)) c.self.view_is ∙ c.requires)
    c.self.invariant.0 c.in_ok-changed.ensures.ok.1 in
    let same : c.act_noted.new.state ≡ c.self.inside.state =
    stays g.E.KeepsEntry.KEEPS c.self.inside.state c.act_noted.new.state c.args.sent.now.items c.act_noted.new.sent.items _
    (noting c.act_noted.new.reply c.in_ok-changed.ensures.ok.0)
    (sym c.in_ok-changed.ensures.changed ∙ (or_parts c.args.all c.in_ok-changed.changed c.if-recorded.false).1)
    c.in_ok-changed.ensures.ok.1 in
    let none : (c.args.all || changes_site c.args.self.now.settings (state_of c.args.self.now) c.args.event.now) ≡ false =
    ap (λ b. c.args.all || b) (changes_seen _ c.args.self.now c.self.inside.state c.args.event.now _ _ c.self.view_is
    c.self.invariant.0 c.in_ok-changed.ensures.changed refl) ∙ c.if-recorded.false in (
      ap (λ (z : SiteState). seen_as z.settings z.site.me (map g.E.KeepsEntry.entry c.reserve_one.new.list.items)) same
          ∙ seen_same g.E.KeepsEntry.entry c.self.inside.history.items c.reserve_one.new.list.items c.self.inside.state c.args.self.now
          c.in_ok-reserve_one.ensures.items c.self.view_is
          ∙ sym (ap (λ b. cond b (next_site c.args.self.now c.args.event.now) c.args.self.now) none),
      step.reply ∙ ap (λ (x : SeenSite). reply_to x.settings (state_of x) c.args.event.now) c.self.view_is,
      step.sent ∙ ap (λ (x : SeenSite). c.args.sent.now.items ++ sent_at x.settings (state_of x) c.args.event.now) c.self.view_is,
    )
