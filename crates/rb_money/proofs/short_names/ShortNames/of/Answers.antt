use Rattle.std.proofs.Common.{◌≡◌, ◌∙◌, List, Some, ap, arith, string_bytes, subst, sym, ℕ}
use Rattle.std.proofs.lemmas.List.Elements.{All-replicate}
use Rattle.rb_money.specs.Settings.{place_in}
use Rattle.rb_money.specs.Words.{IsShort}
use Rattle.rb_money.specs.declared.place.Place.{Place}
use Rattle.rb_money.proofs.Named.{names_of}
use Rattle.rb_money.proofs.Places.{own_place}
use Rattle.rb_money.proofs.Words.{all_filled, empty_slot}
use Rattle.rb_money.proofs.short_names.ShortNames.of.Goals as goal

pub loop-i-init : goal.loop-i-init
loop-i-init c =
    let names = names_of c.args.accounts.now in
    all_filled (IsShort names) c.new-slots.result.items _ c.resize.new.self.items c.if-accounts.len c.new-slots.ensures.items
    c.in_ok-resize.ensures.items (All-replicate (IsShort names) _ (0, _) (empty_slot names _))

pub loop-i-preserved : goal.loop-i-preserved
loop-i-preserved c =
    let es = c.args.accounts.now in
    let place : Place = record { 0 = c.loop-i.i } in
    let IsHere : List ℕ → Type 0 = λ name. place_in (names_of es) name ≡ Some place in
    let name = c.as_bytes.ensures.value ∙ ap (λ e. string_bytes e.0) c.index-accounts-i.is in
    c.put.ensures (names_of es) c.loop-i.invariant
    (subst IsHere (sym name) (own_place es c.requires.proper c.loop-i.i c.index-accounts-i.result (omega arith)))
