use Rattle.rb_runs.proofs.Words.{Some, ap, sym, ◌∙◌, migrated_config_line}
use Rattle.rb_runs.proofs.Ends.{opens}
use Rattle.rb_runs.proofs.migrate.versions.VersionsTakesLines.open.Goals as goal

pub returns : goal.returns
returns c =
    let s = c.in_ok-versions.versions in
    let on = c.in_ok-config.ensures ∙ ap Some (sym c.in_ok-versions.ensures) in
    (migrated_config_line s, c.in_ok-append_config.ensures.ok, opens s c.args.line.now c.requires.short c.requires.some on)
