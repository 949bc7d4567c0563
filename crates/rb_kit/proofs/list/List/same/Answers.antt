-- The items' own test, one by one.
use Rattle.std.proofs.Common.{ap, sym, ◌∙◌}
use Rattle.std.specs.Cmp.Lexicographic.{pointwise, pointwise_decides}
use Rattle.rb_kit.proofs.list.List.same.Goals as goal

pub returns : goal.returns
returns g c =
    let same = pointwise_decides g.met.T.Exact.exact c.args.self.now c.args.other.now in
    let is =
    c.eq.ensures
    ∙ ap (λ xs. pointwise g.T.PartialEq.eq xs c.as_slice-2.result.now) (c.as_slice.ensures.value ∙ c.self.view_is)
    ∙ ap (pointwise g.T.PartialEq.eq c.args.self.now) (c.as_slice-2.ensures.value ∙ c.other.view_is) in
    (λ e. same.0 (sym is ∙ e), λ e. is ∙ same.1 e)
