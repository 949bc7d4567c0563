use Rattle.std.proofs.Common.{◌≡◌, ◌-◌, ap, sym, ◌∙◌, Some}
use Rattle.std.specs.Prelude.{map, option_map, slice_get}
use Rattle.std.proofs.lemmas.Option.{slice_get-get_or, slice_get-map}
use Rattle.rb_site.specs.Worlds.{message_at}
use Rattle.rb_site.specs.declared.event.Event.TheVariants.{Receive}
use Rattle.rb_world.specs.Laws.{SeenWorld}
use Rattle.rb_world.proofs.SentPlaces.{message_read}
use Rattle.rb_world.proofs.world.World.put_arrival.Goals as goal

pub returns-clause-some : goal.returns-clause-some
returns-clause-some g c =
    let noted = g.M.KeepsMessage.noted in
    let items = c.self.inside.messages.items in
    let k = c.args.number - 1 in
    let found = c.in-Some.ensures.lookup in
    let there : slice_get items k ≡ Some c.in-Some.kept.now = ap (λ xs. slice_get xs k) (sym c.deref.ensures.value)
    ∙ slice_get-get_or c.deref.result.now k c.in-Some.kept.now found.3.0 ∙ ap Some (sym found.1) in
    sym (ap Some c.arrive.ensures ∙ ap (option_map Receive) (ap (option_map noted) (sym there) ∙ sym (slice_get-map noted items k)
    ∙ sym (message_read (map noted items) c.args.number c.if-number-eq0.false)
    ∙ ap (λ (w : SeenWorld). message_at w.world.messages c.args.number) c.self.view_is))
