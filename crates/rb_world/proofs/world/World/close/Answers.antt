-- Each site reports its state.
use Rattle.std.proofs.Common.{◌≡◌, ◌∙◌, ◌≤◌, ap, arith, length, subst, sym, vec_len}
use Rattle.rb_money.specs.declared.limits.TheConstants.{MOST_SITES}
use Rattle.rb_world.specs.Laws.{IsRunOf, SeenWorld}
use Rattle.rb_world.proofs.Closing.{as_many, closing-first, closing-next, closing-whole}
use Rattle.rb_world.proofs.Public.{few_sites}
use Rattle.rb_world.proofs.world.World.close.Goals as goal

pub sites-init : goal.sites-init
sites-init g c =
    let settings : c.self.inside.config ≡ c.args.self.settings = ap (λ (w : SeenWorld). w.settings) c.self.view_is in (
      rw c.self.invariant.3 (closing-first g.E.KeepsEntry.KEEPS c.args.self.settings c.args.self.world.sites c.self.inside.sites.items
          (ap (λ (w : SeenWorld). w.world.sites) c.self.view_is) (rw settings at c.self.invariant.1)),
      omega (
        arith,
        c.self.inside.reports.ok.0,
        ap length c.self.invariant.3,
        c.self.invariant.4,
        c.self.inside.sites.ok.0,
      ),
    )

pub sites-preserved : goal.sites-preserved
sites-preserved g c = (
  rw c.push_reserved.ensures.items (closing-next g.E.KeepsEntry.KEEPS c.args.self.settings c.args.self.world.sites
      c.sites.sites.items c.pop.new.self.items c.sites.reports.items c.in-Some.site c.close.result c.in-Some.ensures.items
      c.sites.invariant.0 c.close.ensures),
  omega (arith, c.sites.invariant.1, c.push_reserved.ensures.len, c.push_reserved.ensures.capacity, c.in-Some.ensures.cases),
)

pub returns-clause-few : goal.returns-clause-few
returns-clause-few g c =
    let none : vec_len c.sites.sites ≡ 0 = c.in_default.ensures.cases.0 in
    let whole =
    closing-whole g.E.KeepsEntry.KEEPS c.args.self.settings c.args.self.world.sites c.sites.reports.items
    c.sites.sites.items (sym c.sites.sites.ok.0 ∙ none) c.sites.invariant.0 in
    let few = few_sites c.args.self (subst IsRunOf c.self.view_is c.self.invariant.0) in
    subst (λ n. n ≤ MOST_SITES)
    (sym (ap length c.reverse.ensures.items ∙ as_many g.E.KeepsEntry.KEEPS c.args.self.settings c.args.self.world.sites _ whole)) few
