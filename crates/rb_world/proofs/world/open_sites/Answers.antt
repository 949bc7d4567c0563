-- One site more.
use Rattle.std.proofs.Common.{◌≡◌, ◌∙◌, List, ◌++◌, [], ◌∷◌, map, ap, arith, subst, sym}
use Rattle.std.proofs.lemmas.List.{map-append}
use Rattle.std.proofs.lemmas.List.Elements.{All-append}
use Rattle.std.proofs.lemmas.List.FromFn.{map-range_with_len_more}
use Rattle.rb_site.specs.Events.{first_site}
use Rattle.rb_site.specs.Seen.{SeenSite, state_of}
use Rattle.rb_world.proofs.Stepping.{AreOf, one_of}
use Rattle.rb_world.proofs.world.open_sites.Goals as goal

pub loop-me-preserved : goal.loop-me-preserved
loop-me-preserved g c = (
  ap (map state_of) c.push_reserved.ensures.items
      ∙ map-append state_of c.loop-me.sites.items _
      ∙ ap (λ x. map state_of c.loop-me.sites.items ++ state_of x ∷ []) c.in-Ok.ensures
      ∙ ap (λ ts. ts ++ first_site c.loop-me.me ∷ []) c.loop-me.invariant.0
      ∙ sym (map-range_with_len_more first_site 0 c.loop-me.me c.loop-me.me (omega arith)),
  (let P : List SeenSite → Type 0 = λ xs. AreOf c.args.config.now xs in
      subst P (sym c.push_reserved.ensures.items) (All-append (λ (x : SeenSite). x.settings
      ≡ c.args.config.now) c.loop-me.sites.items _ c.loop-me.invariant.1
      (one_of c.args.config.now c.in-Ok.site (ap (λ (x : SeenSite). x.settings) c.in-Ok.ensures)))),
  omega arith,
  omega arith,
)
