use Rattle.std.proofs.Common.{◌≡◌, ◌-◌, ◌∙◌, ap, arith, length, sym, subst}
use Rattle.serde_json.specs.Written.{compact_text}
use Rattle.rb_history.specs.ConfigLines.{config_json}
use Rattle.rb_journal.specs.Lines.{recovered}
use Rattle.rb_run_site.specs.Files.{BeginsWith}
use Rattle.rb_run_site.specs.Journals.{journal_head}
use Rattle.rb_run_site.specs.Openings.{OpensFile}
use Rattle.rb_run_site.specs.Replays.{ReplaysLines}
use Rattle.rb_run_site.proofs.OpenedFiles.{replayed_file}
use Rattle.rb_run_site.proofs.opening.replay_file.Goals as goal

pub entries_in-requires-clause-first : goal.entries_in-requires-clause-first
entries_in-requires-clause-first g c = (
  compact_text (config_json c.args.node.now.site.settings),
  c.settings_are_configured.ensures.line,
  c.deref.ensures.value ∙ c.in_ok-first.ensures,
)

pub returns-in-Some : goal.returns-in-Some
returns-in-Some g c =
    let old = c.args.node.now.site in
    let new = c.replay_all.new.node.site in
    let file = c.args.bytes.now in
    let begins : BeginsWith file (journal_head old.settings) c.in-Some.entries.now =
    subst (λ f. BeginsWith file f c.in-Some.entries.now) (c.deref.ensures.value ∙ c.in_ok-first.ensures)
    (rw c.in-Some.is at c.in_ok-entries.ensures) in
    let counted : c.count_lines-lines.result.0 - 1 ≡ length (recovered c.in-Some.entries.now) =
    omega (arith, c.count_lines-lines.ensures.count, ap length begins.0) in
    let skipped : c.saturating_sub-skipped.result ≡ c.count_lines-lines.result.0 - 1 - c.args.resend =
    omega (arith, c.saturating_sub-skipped.ensures, c.saturating_sub.ensures) in
    let replayed = subst (λ n. ReplaysLines old new (recovered c.in-Some.entries.now) n c.args.sends.now.items c.replay_all.new.sends.items)
    skipped c.in_ok-replay_all-in-Some.ensures in
    subst (λ f. OpensFile old new file f c.replay_all.new.sends.items c.args.resend) (sym c.new.ensures.items)
    (replayed_file old new file c.in-Some.entries.now c.args.sends.now.items c.replay_all.new.sends.items c.args.resend
    (c.count_lines-lines.result.0 - 1) c.requires.first c.in-None-damaged_line.ensures begins counted c.requires.none replayed)
