use Rattle.rb_ledger.proofs.Words.{◌≡◌, ◌-◌, ◌∷◌, ap, ◌∙◌, arith, length, take, suc, slice_set}
use Rattle.rb_ledger.proofs.ClockTables
use Rattle.rb_ledger.proofs.counts.is_same_of_many.Goals as goal

pub returns : goal.returns
returns c = λ t n.
    let ks = c.args.kept.now in
    let ns = c.args.red ∷ c.args.blue.now in
    let one : length ks ≡ suc (length ks - 1) = omega (arith, c.len-sites.ensures.same, c.len-sites.ensures.least) in
    ClockTables.same_but ks ns c.args.own n (omega (arith, c.len-sites.ensures.same, c.len-sites.ensures.most, c.requires))
    (λ k low apart. c.loop-site.invariant t k (omega (arith, low, c.len-sites.ensures.same, c.loop-site-test.false)) apart)
    ∙ ap (λ k. slice_set (take k ns) c.args.own n) one
