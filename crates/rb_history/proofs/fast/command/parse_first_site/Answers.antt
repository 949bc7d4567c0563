use Rattle.std.proofs.Common.{◌++◌, codes, decimal, ap, ◌∙◌}
use Rattle.rb_history.proofs.fast.command.parse_first_site.Goals as goal

pub returns : goal.returns
returns c =
    let site = c.in_ok-site.site in
    c.in-Some.ensures
    ∙ ap (λ l. codes "site\":" ++ l) (c.in_ok-site.ensures.1 ∙ ap (λ l. decimal site ++ l) c.in_ok-parse_prefix.ensures)
