use Rattle.rb_history.proofs.Words.{numbered_in, items_view, Some, [], ap, arith, refl, rules, sym, take, ◌∙◌, drop_all}
use Rattle.rb_history.proofs.Reading.{item_here, nothing_read, with_front}
use Rattle.rb_history.proofs.SiteCounts.{all_read, none_behind, value_read}
use Rattle.rb_history.proofs.read.counts.numbered_counts.Goals as goal

pub loop-item-init : goal.loop-item-init
loop-item-init c = record {
  few = omega arith;
  sites = search rules;
  none = search rules;
  read = nothing_read [] (numbered_in 0 (items_view c.args.items.now)) refl;
}

pub loop-item-preserved : goal.loop-item-preserved
loop-item-preserved c =
    let counts = c.loop-item.counts in
    let least = c.loop-item.least in
    let items = c.args.items.now in
    let i = c.loop-item.item-index in
    let made = c.in_ok-site in
    let near = made.ensures.near in
    record {
      few = omega (arith, near);
      sites = search rules;
      none = none_behind counts least made.site made.count near.0 near.1 c.loop-item.invariant.none;
      read = value_read counts least made.site made.count items i c.item-item.result _ c.loop-item.invariant.sites near.0 near.1
          c.loop-item.invariant.none (item_here items i _ (omega arith) c.item-item.is)
          (sym made.ensures.read) c.loop-item.invariant.read;
    }

pub returns : goal.returns
returns c =
    let counts = c.loop-item.counts in
    let least = c.loop-item.least in
    let items = c.args.items.now in
    ap Some (sym (all_read counts least c.loop-item.invariant.none))
    ∙ ap (λ l. with_front (take least counts) (numbered_in least (items_view l)))
    (sym (drop_all c.loop-item.item-index items (omega arith)))
    ∙ c.loop-item.invariant.read
