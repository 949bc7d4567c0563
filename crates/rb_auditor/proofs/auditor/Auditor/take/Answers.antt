-- One entry more at its site.
use Rattle.std.proofs.Common.{◌≡◌, ◌∙◌, ◌<◌, length, ap, sym, arith}
use Rattle.rb_auditor.specs.Audits.{Audited}
use Rattle.rb_auditor.specs.Kept.{entries_noted}
use Rattle.std.proofs.lemmas.List.{length-map}
use Rattle.rb_auditor.proofs.Kept
use Rattle.rb_auditor.proofs.Results.{on_err, on_ok}
use Rattle.rb_auditor.proofs.auditor.Auditor.take.Goals.{After-index_mut-notes}
use Rattle.rb_auditor.proofs.auditor.Auditor.take.Goals as goal

-- the site is one of the configuration
within : (c : After-index_mut-notes) → c.args.site < c.self.inside.config.sites
within c =
    let seen : length c.args.self.now.histories ≡ length c.self.inside.notes.items =
    ap (λ (a : Audited). length a.histories) (sym c.self.view_is) ∙ length-map c.self.inside.notes.items entries_noted in
    omega (arith, c.self.invariant.notes)

pub take_entry-requires : goal.take_entry-requires
take_entry-requires c =
    Kept.at_place c.self.invariant (within (goal.at.take_entry-requires c).After-index_mut-notes)
    c.index_mut-replayed.ensures.value c.index_mut-notes.ensures.value

pub invariant_of-self : goal.invariant_of-self
invariant_of-self c =
    Kept.set_place c.self.invariant c.take_entry.ensures.more
    (within (goal.at.invariant_of-self c).After-index_mut-notes)
    c.index_mut-replayed.ensures.value c.index_mut-notes.ensures.value c.take_entry.ensures.notes

pub returns-clause-ok : goal.returns-clause-ok
returns-clause-ok c = on_ok c.take_entry.result c.take_entry.ensures.ok (λ grown.
    Kept.has_more c.self.inside.notes.items c.take_entry.new.notes c.self.view_is c.self.invariant.notes
    (within (goal.at.returns-clause-ok c).After-index_mut-notes) c.index_mut-notes.ensures.value grown)

pub returns-clause-err : goal.returns-clause-err
returns-clause-err c = on_err c.take_entry.result c.take_entry.ensures.err (λ same.
    Kept.has_same c.self.inside.notes.items c.take_entry.new.notes c.self.view_is c.self.invariant.notes
    (within (goal.at.returns-clause-err c).After-index_mut-notes) c.index_mut-notes.ensures.value same)
