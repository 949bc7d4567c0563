use Rattle.std.proofs.Common.{subst}
use Rattle.rb_money.specs.Settings.{IsConfigured}
use Rattle.rb_run_site.proofs.EntryLines.{config_is_line}
use Rattle.rb_run_site.proofs.responder.settings_are_configured.Goals as goal

pub returns-clause-configured : goal.returns-clause-configured
returns-clause-configured g c = subst IsConfigured c.config.ensures c.sites-sites.ensures.configured

pub returns-clause-line : goal.returns-clause-line
returns-clause-line g c =
    config_is_line c.lines_are_single.ensures.configs c.args.node.now.site.settings
    (subst IsConfigured c.config.ensures c.sites-sites.ensures.configured)
