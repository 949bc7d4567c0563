-- One balance more.
use Rattle.std.proofs.Common.{◌∙◌, ◌≤◌, ℕ, ◌+◌, ◌++◌, [], ◌∷◌, ap, arith, length, map, refl, subst, sym}
use Rattle.std.specs.Prelude.{vec_len, vec_capacity}
use Rattle.std.specs.List.{range_with_len}
use Rattle.std.proofs.lemmas.List.FromFn.{map-range_with_len_more}
use Rattle.rb_money.specs.Amounts.{cents}
use Rattle.rb_money.specs.Settings.{Settings}
use Rattle.rb_shadow.specs.Operations.{bal}
use Rattle.rb_site.proofs.Reports.{at_end, not_beyond, room_left}
use Rattle.rb_site.proofs.report_lists.with_balances.Goals as goal

pub loop-place-preserved : goal.loop-place-preserved
loop-place-preserved c = (
  let f : ℕ → ℕ = λ i. cents (bal c.args.ledger.now.settings c.args.ledger.now.entries (record { 0 = i })) in
      c.push_reserved.ensures.items
      ∙ ap (λ bs. bs ++ c.in-Some.balance ∷ []) c.loop-place.invariant.0
      ∙ ap (λ n. map f (range_with_len 0 c.loop-place.place) ++ n ∷ []) (ap cents c.in-Some.ensures.sum)
      ∙ sym (map-range_with_len_more f 0 c.loop-place.place c.loop-place.place (omega arith)),
  c.push_reserved.ensures.len ∙ ap (λ n. n + 1) c.loop-place.invariant.1,
  (let P : ℕ → Type 0 = λ n. length c.args.ledger.now.settings.starts ≤ n in
      subst P (sym c.push_reserved.ensures.capacity) c.loop-place.invariant.2),
)

pub loop-place-init : goal.loop-place-init
loop-place-init c = (c.requires.empty, c.args.balances.ok.0 ∙ ap length c.requires.empty, c.requires.room)

pub push_reserved-requires : goal.push_reserved-requires
push_reserved-requires c = room_left (vec_len c.loop-place.balances) (vec_capacity c.loop-place.balances) c.loop-place.place
    c.len-accounts.result (length c.args.ledger.now.settings.starts) c.loop-place.invariant.1 c.loop-place-test.true
    (c.len-accounts.ensures.starts ∙ ap length c.accounts.ensures.starts ∙ ap (λ (s : Settings). length s.starts) c.config.ensures.same)
    c.loop-place.invariant.2

pub unreachable-requires : goal.unreachable-requires
unreachable-requires c = not_beyond c.loop-place.place c.len-accounts.result (length c.args.ledger.now.settings.starts)
    c.loop-place-test.true
    (c.len-accounts.ensures.starts ∙ ap length c.accounts.ensures.starts ∙ ap (λ (s : Settings). length s.starts) c.config.ensures.same)
    (c.in-None.ensures.absent.0 refl)

pub returns : goal.returns
returns c =
    let f : ℕ → ℕ = λ i. cents (bal c.args.ledger.now.settings c.args.ledger.now.entries (record { 0 = i })) in
    c.loop-place.invariant.0 ∙ ap (λ n. map f (range_with_len 0 n)) (at_end c.loop-place.place c.len-accounts.result
    (length c.args.ledger.now.settings.starts) c.loop-place.auto.place-end c.loop-place-test.false
    (c.len-accounts.ensures.starts ∙ ap length c.accounts.ensures.starts ∙ ap (λ (s : Settings). length s.starts) c.config.ensures.same))
