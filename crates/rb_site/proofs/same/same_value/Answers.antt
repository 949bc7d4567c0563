-- The type's own test.
use Rattle.std.proofs.Common.{◌∙◌, sym}
use Rattle.rb_site.proofs.same.same_value.Goals as goal

pub returns : goal.returns
returns g c =
    let exact = g.met.T.Exact.exact c.args.first.now c.args.second.now in
    (λ e. exact.0 (sym c.eq.ensures ∙ e), λ e. c.eq.ensures ∙ exact.1 e)
