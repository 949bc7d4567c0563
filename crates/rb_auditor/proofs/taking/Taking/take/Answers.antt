-- The next entry is taken.
use Rattle.std.proofs.Common.{◌≡◌, ◌∙◌, ℕ, ◌+◌, ◌<◌, ◌≤◌, ◌++◌, ◌∷◌, []}
use Rattle.std.proofs.Common.{List, Some, ap, sym, subst, refl, length, get_or}
use Rattle.std.specs.Prelude.{slice_get, slice_set}
use Rattle.std.proofs.lemmas.Option.{slice_get_read}
use Rattle.rb_auditor.specs.declared.step.Step.{Step}
use Rattle.rb_auditor.specs.Kept.{entries_noted, histories_in}
use Rattle.rb_auditor.specs.Progress.{Progress, Rests, Took}
use Rattle.rb_auditor.proofs.Judged
use Rattle.rb_auditor.proofs.Judged.{IsNextStep, IsReadAt}
use Rattle.rb_auditor.proofs.Resting
use Rattle.rb_auditor.proofs.Results.{still}
use Rattle.rb_auditor.proofs.Takings
use Rattle.rb_auditor.proofs.taking.Taking.take.Goals.{After-deref, After-push_reserved, In-Some}
use Rattle.rb_auditor.proofs.taking.Taking.take.Goals as goal

-- the step that the code reads
step_at : {xs ys : List Step} {k : ℕ} {x : Step} → xs ≡ ys → k < length xs → x ≡ get_or xs k x → slice_get ys k ≡ Some x
step_at {xs} {k = k} {x = x} same less is = rw (← same) (slice_get_read xs (length xs) k x refl less is)

-- the value before the entry is taken
abbrev old_progress : After-deref → Progress
old_progress c = record {
  settings = c.self.inside.config.now;
  histories = histories_in c.self.inside.notes.now;
  order = c.self.inside.order.items;
  taken = c.self.inside.taken.items;
  messages = c.self.inside.sent.items;
}

-- what is read of the site
read : (c : After-deref)
    → IsReadAt (old_progress c) c.self.inside.sent.all c.args.site c.index-taken.result.now c.index-self-site.result
read c = Judged.read refl c.self.invariant.0 c.self.invariant.1 c.self.invariant.2
    (Judged.has_notes c.self.inside.notes.now c.self.view_is refl c.requires) c.index-taken.ensures c.index-self-site.is

-- the site's next entry and its step, if one is left
next : (c : In-Some) → IsNextStep (old_progress (goal.at.In-Some c).After-deref) c.self.inside.sent.all c.args.site
    c.index-taken.result.now c.index-self-site.result c.in-Some.step.now
next c = Judged.next_step (read (goal.at.In-Some c).After-deref) (step_at (c.deref.ensures.value
    ∙ ap (λ z. z.steps.items) (sym c.index-self-site.is)) c.in-Some.ensures.lookup.3.0 c.in-Some.ensures.lookup.1)

pub returns-in_default-clause-ok : goal.returns-in_default-clause-ok
returns-in_default-clause-ok c =
    let past : length c.index-self-site.result.steps.items ≤ c.index-taken.result.now =
    subst (λ (xs : List Step). length xs ≤ c.index-taken.result.now) (c.deref.ensures.value
    ∙ ap (λ z. z.steps.items) (sym c.index-self-site.is)) c.in_default.ensures.lookup.3 in
    let r = read (goal.at.returns-in_default-clause-ok c).After-deref in
    (refl, subst (λ p. Rests p c.args.site) c.self.view_is (Judged.rests_past r past))

pub moved-requires : goal.moved-requires
moved-requires c = Judged.step_within _ _ _ _ (next (goal.at.moved-requires c).In-Some).says

pub returns-in_default-moved-clause-ok : goal.returns-in_default-moved-clause-ok
returns-in_default-moved-clause-ok c =
    let p = goal.at.returns-in_default-moved-clause-ok c in
    let r = read p.After-deref in
    let n = next p.In-Some in (
      refl,
      subst (λ p. Rests p c.args.site) c.self.view_is (Resting.rests_here _ c.args.site c.index-taken.result.now
          (entries_noted c.index-self-site.result) n.entry r.there r.at n.next
          (Judged.held _ _ _ _ _ n.says c.in_default-moved.ensures.taken)),
    )

-- the value with the entry taken
abbrev new_progress : After-push_reserved → Progress
new_progress c = record {
  settings = c.self.inside.config.now;
  histories = histories_in c.self.inside.notes.now;
  order = c.push_reserved.new.self.items;
  taken = slice_set c.self.inside.taken.items c.args.site (c.index-taken.result.now + 1);
  messages = c.add_all.new.self.items;
}

took : (c : After-push_reserved)
    → Took (old_progress (goal.at.After-push_reserved c).After-deref) (new_progress c) c.args.site
took c =
    let r = read (goal.at.After-push_reserved c).After-deref in
    let n = next (goal.at.After-push_reserved c).In-Some in
    let may = Judged.comes _ _ _ _ _ _ n.says c.in-Some-moved.ensures.taken in
    record {
      taken = c.index-taken.result.now;
      history = entries_noted c.index-self-site.result;
      entry = n.entry;
      next = record { there = r.there; at = r.at; next = n.next };
      source = may.0;
      is = ap (λ o. record (new_progress c) { order = o })
          (c.push_reserved.ensures.items ∙ ap (λ js. js ++ c.args.site ∷ []) c.in_ok-reserve.ensures.items)
          ∙ ap (λ ms. record (new_progress c) { order = c.self.inside.order.items ++ c.args.site ∷ []; messages = ms })
          (c.in_ok-add_all.ensures.ok ∙ ap (λ ms. c.self.inside.sent.items ++ ms) may.1);
    }

pub invariant_of-self-2 : goal.invariant_of-self-2
invariant_of-self-2 c = (
  Takings.took_one _ _ c.args.site c.self.invariant.0 (took (goal.at.invariant_of-self-2 c).After-push_reserved),
  rw c.add_all.ensures.all c.self.invariant.1,
  c.self.invariant.2,
  c.self.invariant.3,
)

pub returns-clause-ok : goal.returns-clause-ok
returns-clause-ok c =
    let p = (goal.at.returns-clause-ok c).After-push_reserved in
    subst (λ q. Took q (new_progress p) c.args.site) c.self.view_is (took p)

pub index-taken-requires : goal.index-taken-requires
index-taken-requires c = Judged.has_taken c.self.inside.notes.now c.self.invariant.0 refl c.self.inside.taken.ok.0
    (Judged.has_notes c.self.inside.notes.now c.self.view_is refl c.requires)

pub bounds-self-inside-site : goal.bounds-self-inside-site
bounds-self-inside-site c = Judged.has_notes c.self.inside.notes.now c.self.view_is refl c.requires

pub invariant_of-self : goal.invariant_of-self
invariant_of-self c =
    (rw c.in_err-reserve.ensures.items c.self.invariant.0, c.self.invariant.1, c.self.invariant.2, c.self.invariant.3)

pub returns-in_err-reserve-clause-err : goal.returns-in_err-reserve-clause-err
returns-in_err-reserve-clause-err c = still c.from_residual.result _ (rw c.in_err-reserve.ensures.items c.self.view_is)

pub invariant_of-self-in_err-add_all : goal.invariant_of-self-in_err-add_all
invariant_of-self-in_err-add_all c = (
  rw (c.in_ok-reserve.ensures.items, c.in_err-add_all.ensures.err) c.self.invariant.0,
  rw c.add_all.ensures.all c.self.invariant.1,
  c.self.invariant.2,
  c.self.invariant.3,
)

pub returns-in_err-add_all-clause-err : goal.returns-in_err-add_all-clause-err
returns-in_err-add_all-clause-err c = still c.from_residual-in_err-add_all.result _
    (rw (c.in_ok-reserve.ensures.items, c.in_err-add_all.ensures.err) c.self.view_is)

pub index_mut-requires : goal.index_mut-requires
index_mut-requires c = Judged.has_taken c.self.inside.notes.now c.self.invariant.0 refl c.self.inside.taken.ok.0
    (Judged.has_notes c.self.inside.notes.now c.self.view_is refl c.requires)
