use Rattle.rb_ledger.proofs.Words.{◌≡◌, ◌<◌, ◌∙◌, length, sym, subst, refl, arith, target_of}
use Rattle.rb_ledger.proofs.FoundNames
use Rattle.rb_ledger.proofs.Public.OnAccount
use Rattle.rb_ledger.proofs.index.other_at.Goals as goal

pub receiver-requires : goal.receiver-requires
receiver-requires c =
    let (some, is) = c.in-Some.ensures in
    subst (λ i. i < length c.args.before.now) (sym is) (FoundNames.target_near c.args.before.now
    (target_of c.args.kind) c.args.target _ c.requires some refl)

pub returns-in-Some : goal.returns-in-Some
returns-in-Some c =
    let (some, is) = c.in-Some.ensures in
    let near : c.in-Some.index < length c.args.before.now = subst (λ i. i < length c.args.before.now) (sym is)
    (FoundNames.target_near c.args.before.now (target_of c.args.kind) c.args.target _ c.requires some refl) in
    let (d, there) = OnAccount.element c.args.before.now c.in-Some.index near in
    FoundNames.other_there c.args.before.now c.args.kind c.args.target c.in-Some.index d _ c.requires some is (c.receiver.ensures d)

pub returns-in-None : goal.returns-in-None
returns-in-None c =
    let none : 0 ≡ c.args.target = omega (arith, c.in-None.ensures) in
    c.receiver-in-None.ensures ∙ FoundNames.other_alone c.args.before.now c.args.kind (none ∙ c.requires)
