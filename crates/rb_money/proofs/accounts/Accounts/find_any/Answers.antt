use Rattle.std.proofs.Common.{◌∙◌, ap}
use Rattle.std.specs.Prelude.{option_map}
use Rattle.rb_money.specs.declared.place.Place.{Place}
use Rattle.rb_money.proofs.Places.{index_is}
use Rattle.rb_money.proofs.accounts.Accounts.find_any.Goals as goal

pub returns-in-Some : goal.returns-in-Some
returns-in-Some c = rw (← c.self.view_is) (ap (option_map (λ i. let p : Place = record { 0 = i } in p)) (c.in-Some.ensures.index
    ∙ index_is c.self.inside.by_name.entries c.args.name.now))

pub returns-in-None : goal.returns-in-None
returns-in-None c = rw (← c.self.view_is) (ap (option_map (λ i. let p : Place = record { 0 = i } in p)) (c.in-None.ensures.index
    ∙ index_is c.self.inside.by_name.entries c.args.name.now))
