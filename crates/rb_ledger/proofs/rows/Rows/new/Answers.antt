use Rattle.rb_ledger.proofs.Words.{◌≡◌, ℕ, ◌+◌, List, [], ◌∷◌, ◌++◌, map, replicate, Vec, Global, ap, ◌∙◌, arith}
use Rattle.rb_ledger.proofs.Words.{map_push, replicate_more, IfOk-from_err}
use Rattle.rb_ledger.proofs.rows.Rows.new.Goals as goal

abbrev items_of : Vec ℕ Global → List ℕ
items_of v = v.items

-- one more empty row
empty_more : (vs ws : List (Vec ℕ Global)) (v : Vec ℕ Global) (n : ℕ) → map (λ (v : Vec ℕ Global). v.items) vs ≡ replicate n []
    → v.items ≡ [] → ws ≡ vs ++ v ∷ [] → map (λ (v : Vec ℕ Global). v.items) ws ≡ replicate (n + 1) []
empty_more vs ws v n are empty is = ap (map items_of) is ∙ map_push items_of vs v ∙ ap (λ xs. xs ++ v.items ∷ []) are
    ∙ ap (λ row. replicate n [] ++ row ∷ []) empty ∙ replicate_more n []

pub loop-preserved : goal.loop-preserved
loop-preserved c = empty_more _ _ c.new.result _ c.loop.invariant c.new.ensures.items c.in_ok-push.ensures.items

pub returns-in_err-push-clause-rows : goal.returns-in_err-push-clause-rows
returns-in_err-push-clause-rows c = IfOk-from_err c.from_residual.result _ c.from_residual.ensures.0

pub returns-clause-rows : goal.returns-clause-rows
returns-clause-rows c =
    let all : c.loop.counter ≡ c.args.count = omega (arith, c.loop.auto.counter-end, c.loop-test.false) in
    c.loop.invariant ∙ ap (λ n. replicate n []) all
