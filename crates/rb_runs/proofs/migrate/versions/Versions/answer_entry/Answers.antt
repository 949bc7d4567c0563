-- The entry of the line is written.
use Rattle.rb_runs.proofs.Words.{◌≡◌, ◌++◌, ℕ, List, Some, None, true, ap, subst, MatchResult, is_utf8, Settings, asked_entry_of_line}
use Rattle.rb_runs.proofs.Words.{AskedEntry, migrated_entry_line}
use Rattle.rb_history.specs.declared.fault.LineFault.TheVariants.{Bad}
use Rattle.rb_history.specs.Entries.{asked_entry_on}
use Rattle.rb_runs.proofs.migrate.versions.Versions.answer_entry.Goals as goal

-- the entry on a line is that of its text
on_text : (s : Settings) (line text : List ℕ) → text ≡ line → is_utf8 line ≡ true → asked_entry_of_line s text ≡ asked_entry_on s line
unfolding asked_entry_on
on_text s line text e utf8 = rw utf8 (ap (asked_entry_of_line s) e)

pub returns-clause-answered : goal.returns-clause-answered
returns-clause-answered c =
    let s = c.args.self.now in
    let old = c.args.buffered.now.items in
    let new = c.append_migrated_entry.new.out.items in
    let some = c.in-Some in
    subst (λ o. MatchResult c.append_migrated_entry.result
    (λ _. (x : ℕ × AskedEntry) × (o ≡ Some x) × (new ≡ old ++ migrated_entry_line s x)) (λ why. why ≡ Bad → o ≡ None))
    (on_text s c.args.line.now some.text.now some.ensures.0 some.ensures.1) c.append_migrated_entry.ensures.answered
