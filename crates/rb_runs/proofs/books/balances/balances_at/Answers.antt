-- One balance more.
use Rattle.rb_runs.proofs.Words.{◌≡◌, ◌∙◌, ℕ, ◌++◌, [], ◌∷◌, ap, arith, map, rules, sym, range_with_len, map-range_with_len_more, cents}
use Rattle.rb_runs.proofs.Words.{bal}
use Rattle.rb_runs.proofs.books.balances.balances_at.Goals as goal

pub loop-place-preserved : goal.loop-place-preserved
loop-place-preserved c =
    let f : ℕ → ℕ = λ i. cents (bal c.args.ledger.now.settings c.args.ledger.now.entries (record { 0 = i })) in
    let pushed : c.push.new.self.items ≡ c.loop-place.balances.items ++ c.in-Some.balance ∷ [] = search rules in
    pushed ∙ ap (λ bs. bs ++ c.in-Some.balance ∷ []) c.loop-place.invariant
    ∙ ap (λ n. map f (range_with_len 0 c.loop-place.place) ++ n ∷ []) (ap cents c.in-Some.ensures.sum)
    ∙ sym (map-range_with_len_more f 0 c.loop-place.place c.loop-place.place (omega arith))
