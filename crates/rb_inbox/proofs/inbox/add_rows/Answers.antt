use Rattle.std.proofs.Common.{◌≡◌, ℕ, ◌∙◌, ◌++◌, ◌∷◌, ◌+◌, List, [], ap, replicate, append_assoc}
use Rattle.std.proofs.lemmas.List.{replicate-append-replicate}
use Rattle.rb_shadow.specs.declared.shadow.Shadow.{Shadow}
use Rattle.rb_inbox.proofs.inbox.add_rows.Goals as goal

-- after one empty row more
one_more : (old now more : List (List Shadow)) (row : List Shadow) (k : ℕ) → now ≡ old ++ replicate k [] → row ≡ [] → more ≡ now ++ row ∷ []
    → more ≡ old ++ replicate (k + 1) []
one_more old now more row k before empty pushed =
    pushed ∙ ap (λ us. now ++ us ∷ []) empty ∙ ap (λ rows. rows ++ [] ∷ []) before ∙ append_assoc old (replicate k []) ([] ∷ [])
    ∙ ap (λ rows. old ++ rows) (replicate-append-replicate k 1 [])

pub loop-alloc-preserved : goal.loop-alloc-preserved
loop-alloc-preserved c =
    let (k, before) = c.loop-alloc.invariant in (
      k + 1,
      one_more c.args.rows.now.items c.loop-alloc.rows.items c.push.new.self.items c.open.result k before c.open.ensures
          c.in_ok-push.ensures.items,
    )
