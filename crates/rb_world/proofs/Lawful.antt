-- The laws of the order, of the clocks and of the balances.
use Rattle.std.proofs.Common.{List}
use Rattle.std.specs.Prelude.{pos, ◌≤ℤ◌}
use Rattle.rb_money.specs.Settings.{Settings}
use Rattle.rb_money.specs.declared.place.Place.{Place}
use Rattle.rb_shadow.specs.declared.shadow.Shadow.{Shadow}
use Rattle.rb_shadow.specs.Operations.{IsUnique, bal}
use Rattle.rb_shadow.specs.Laws.{IsClosed, IsPart}
use Rattle.rb_shadow.proofs.Public.Balances
use Rattle.rb_shadow.proofs.Public.Covered
use Rattle.rb_ledger.proofs.Public.Pasts
use Rattle.rb_ledger.proofs.Public.ValidClocks
use Rattle.rb_ledger.proofs.Public.Legal
use Rattle.rb_site.specs.Worlds.{World, made_in}
use Rattle.rb_world.specs.Laws.{Clocks, Funds, ValidLists, NeverNegative, RedBlue, Agreement}
use Rattle.rb_world.proofs.Good.{IsGood}
use Rattle.rb_world.proofs.Order.{IsOrderedSet}

-- in a good world the operations made are a RedBlue order, and each site's list is a causal serialization of some of
-- them, with all that were made there
pub red_blue : (s : Settings) (w : World) → IsGood s w → RedBlue s w
red_blue s w g =
    let all = made_in w in
    let o = g.order in
    record {
      lawful = record {
        unique = o.unique;
        closed = λ v h. Pasts.closed s all v (o.pasts v h);
        transitive = λ t u v h k l p q. Pasts.transitive s all u v o.unique k (o.pasts v l) q t.name p;
        irreflexive = λ u h. Pasts.irreflexive s all u (o.pasts u h);
        reds = λ u v h k p q. o.reds u v h k (Pasts.is_red-shown u.name _ (Pasts.shown s all u o.unique (o.pasts u h)) p)
            (Pasts.is_red-shown v.name _ (Pasts.shown s all v o.unique (o.pasts v k)) q);
        homes = o.homes;
      };
      serial = λ i t at. let h = g.sites i t at in
          record { unique = h.valid.unique; past_before = h.valid.past_before; own_past = h.own_past };
      made = λ i t at. (g.sites i t at).part;
      own = λ i t at. (g.sites i t at).own;
    }

-- in a good world the names that a site applied are those of its clock
pub clocks : (s : Settings) (w : World) → IsGood s w → Clocks s w
clocks s w g i t at = ValidClocks.valid_clock s t.ops g.few (g.sites i t at).valid

-- in a good world sites that applied the same operations agree
pub agreement : (s : Settings) (w : World) → IsGood s w → Agreement s w
agreement s w g i t at j u at' same =
    Balances.agreement s (made_in w) t.ops u.ops (red_blue s w g).lawful (g.sites i t at).part (g.sites j u at').part
    (g.sites i t at).valid.unique (g.sites j u at').valid.unique same

-- in a good world each site's list is valid
pub valid_lists : (s : Settings) (w : World) → IsGood s w → ValidLists s w
valid_lists s w g i t at = (g.sites i t at).valid

-- in a good world no balance of a site is negative
pub never_negative : (s : Settings) (w : World) → IsGood s w → NeverNegative s w
never_negative s w g i t at a = Legal.covers s t.ops a (g.sites i t at).valid

-- in a good world each balance of a closed part of what was made has its source
pub funds : (s : Settings) (w : World) → IsGood s w → Funds s w
funds s w g vs part unique closed a =
    let l = (red_blue s w g).lawful in
    let o : IsOrderedSet s (made_in w) = g.order in
    Covered.funded s (made_in w) vs a o.unique o.reds l.transitive l.irreflexive (Pasts.is_covered s (made_in w) o.unique o.pasts) part
    unique closed

-- no balance of a closed part of what was made is negative
pub part_never_negative : (s : Settings) (w : World) (us : List Shadow) (a : Place) → IsGood s w → IsPart us (made_in w) → IsUnique us →
    IsClosed us → pos 0 ≤ℤ bal s us a
part_never_negative s w us a g part unique closed =
    let l = (red_blue s w g).lawful in
    let o : IsOrderedSet s (made_in w) = g.order in
    Covered.never_negative s (made_in w) us a o.unique o.reds l.transitive l.irreflexive (Pasts.is_covered s (made_in w) o.unique o.pasts)
    part unique closed
