-- The notes are right with the entry.
use Rattle.std.proofs.Common.{◌≡◌, ◌∙◌, ◌++◌, ◌∷◌, [], map, length, ap, refl, sym}
use Rattle.std.proofs.lemmas.Bool.{false≢true}
use Rattle.rb_auditor.specs.declared.notes.Notes.{Notes}
use Rattle.rb_auditor.specs.Kept.{entries_noted, one_step_more}
use Rattle.rb_auditor.proofs.Kept
use Rattle.rb_auditor.proofs.Kept.{no_more}
use Rattle.rb_auditor.proofs.replay.take_entry.Goals as goal

-- the entries are as before memory was taken
same_entries : (old new : Notes) → new.entries.items ≡ old.entries.items → entries_noted new ≡ entries_noted old
same_entries old new e = ap (map (λ z. z.value)) e

-- the notes are whole as before
whole_before : (old new : Notes) → new.entries.items ≡ old.entries.items → new.steps.items ≡ old.steps.items
    → length new.steps.items ≡ length (entries_noted new) → length old.steps.items ≡ length (entries_noted old)
whole_before old new e f whole = ap length (sym f) ∙ whole ∙ ap length (same_entries old new e)

pub returns-in_err-reserve-clause-notes : goal.returns-in_err-reserve-clause-notes
returns-in_err-reserve-clause-notes c =
    Kept.unchanged (no_more _) refl (same_entries c.args.notes.now c.reserve.new.self c.in_err-reserve.ensures.entries)
    c.in_err-reserve.ensures.steps c.requires

pub returns-then-not-are_whole-clause-notes : goal.returns-then-not-are_whole-clause-notes
returns-then-not-are_whole-clause-notes c =
    let same = same_entries c.args.notes.now c.reserve.new.self c.in_ok-reserve.ensures.entries in
    Kept.past_wrong c.args.entry.now c.requires
    (λ whole. false≢true (sym c.if-not-are_whole.true ∙ c.are_whole.ensures.1 (ap length c.in_ok-reserve.ensures.steps
    ∙ whole ∙ sym (ap length same))))
    (c.add.ensures.entries ∙ ap (λ h. h ++ c.args.entry.now ∷ []) same)
    (c.add.ensures.steps ∙ c.in_ok-reserve.ensures.steps)

pub step_of-requires : goal.step_of-requires
step_of-requires c = Kept.replayed_now c.requires
    (whole_before c.args.notes.now c.reserve.new.self c.in_ok-reserve.ensures.entries c.in_ok-reserve.ensures.steps
    (c.are_whole.ensures.0 c.if-not-are_whole.false))

pub returns-in_err-step-clause-notes : goal.returns-in_err-step-clause-notes
returns-in_err-step-clause-notes c = Kept.unchanged c.in_err-step.ensures.more c.in_err-step.ensures.err
    (same_entries c.args.notes.now c.reserve.new.self c.in_ok-reserve.ensures.entries) c.in_ok-reserve.ensures.steps
    c.requires

pub returns-clause-notes : goal.returns-clause-notes
returns-clause-notes c =
    Kept.one_more c.args.entry.now c.in_ok-step.step (Kept.notes_more c.in_ok-step.ensures.more c.requires)
    (whole_before c.args.notes.now c.reserve.new.self c.in_ok-reserve.ensures.entries c.in_ok-reserve.ensures.steps
    (c.are_whole.ensures.0 c.if-not-are_whole.false))
    c.in_ok-step.ensures.step c.in_ok-step.ensures.same.0 c.in_ok-step.ensures.same.1
    (c.add-2.ensures.entries ∙ ap (λ h. h ++ c.args.entry.now ∷ [])
    (same_entries c.args.notes.now c.reserve.new.self c.in_ok-reserve.ensures.entries))
    (c.add-2.ensures.steps ∙ ap (λ ts. one_step_more ts c.in_ok-step.step) c.in_ok-reserve.ensures.steps)
