-- Each list is empty, or one isn't.
use Rattle.rb_runs.proofs.Words.{◌≡◌, ◌<◌, ◌∙◌, ap, arith, inl, inr, length, map, refl, slice_get, sym, length-map, slice_get_read}
use Rattle.rb_runs.proofs.Words.{slice_get_within, map_at, same_number}
use Rattle.rb_runs.proofs.Lacked.{is_none, is_some}
use Rattle.rb_runs.proofs.books.open.are_empty.Goals as goal

pub returns-then-not-is_empty : goal.returns-then-not-is_empty
returns-then-not-is_empty c =
    let here = map_at (λ list. list.items) c.args.lists.now c.loop-list.list-index c.list-item.result
    (slice_get_read c.args.lists.now (length c.args.lists.now) c.loop-list.list-index c.list-item.result refl c.loop-list-test.true
    c.list-item.is) in (
      λ no i list at. cc,
      λ all. absurd (is_some c.list-item.result.len c.list-item.result.items c.list-item.result.ok.0
          c.if-not-is_empty.ensures (all c.loop-list.list-index c.list-item.result.items here)),
    )

pub loop-list-preserved : goal.loop-list-preserved
loop-list-preserved c = λ i list lt at. elim (same_number c.loop-list.list-index i) [
  | inl e ↦
      let here = map_at (λ list. list.items) c.args.lists.now c.loop-list.list-index c.list-item.result
      (slice_get_read c.args.lists.now (length c.args.lists.now) c.loop-list.list-index c.list-item.result refl c.loop-list-test.true
      c.list-item.is) in
      let there = ap (slice_get (map (λ list. list.items) c.args.lists.now)) (sym e) ∙ at in
      let same : list ≡ c.list-item.result.items = cc in
      same ∙ is_none c.list-item.result.len c.list-item.result.items c.list-item.result.ok.0 c.if-not-is_empty.ensures
  | inr ne ↦ c.loop-list.invariant i list (omega (arith, lt, ne)) at
]

pub returns : goal.returns
returns c = (
  λ _ i list at.
      let within : i < length (map (λ list. list.items) c.args.lists.now) = slice_get_within _ i list at in
      let many = length-map c.args.lists.now (λ list. list.items) in
      c.loop-list.invariant i list (omega (arith, within, many, c.loop-list-test.false)) at,
  λ _. refl,
)
