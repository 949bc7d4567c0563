use Rattle.std.proofs.Common.{◌≡◌, ◌+◌, ◌<◌, ◌++◌, ◌∷◌, [], length, take, ap, sym, ◌∙◌, arith}
use Rattle.std.proofs.lemmas.List.{take_more}
use Rattle.rb_scratch.specs.Records.{RecordList}
use Rattle.rb_scratch.proofs.records.Records.pop.Goals as goal

pub returns : goal.returns
returns c =
    let parts = c.self.inside.parts in
    let next : c.self.inside.len ≡ c.in_ok-last.last + 1 = omega (arith, c.in_ok-last.ensures.0, c.in_ok-last.ensures.1) in
    let near : c.in_ok-last.last < length parts = omega (arith, next, c.self.invariant.0, c.self.invariant.1) in
    sym (ap (λ (r : RecordList). r.parts) c.self.view_is) ∙ ap (λ n. take n parts) next
    ∙ take_more parts c.in_ok-last.last _ near
    ∙ ap (λ p. take c.in_ok-last.last parts ++ p ∷ []) (sym c.new.ensures)
