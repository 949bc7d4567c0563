-- Undoing gives the earlier operations and records.
use Rattle.std.proofs.Common.{◌-◌, List, [], ◌∷◌, ◌++◌, length, take, drop, refl, subst, append_assoc}
use Rattle.std.proofs.lemmas.List.{append-nil, length-drop, take-append-drop}
use Rattle.rb_money.specs.Settings.{Settings}
use Rattle.rb_shadow.specs.declared.shadow.Shadow.{Shadow}
use Rattle.rb_ledger.proofs.Public.Records.{records_of-push}
use Rattle.rb_site.specs.Worlds.{World}
use Rattle.rb_world.specs.Laws.{AreUndone, ExactReversal, IsUndone}

-- undoing what was just added leaves the list before it
undone : (s : Settings) (us : List Shadow) (v : Shadow) → IsUndone s (us ++ v ∷ []) us
undone s us v = record { last = v; list = refl; log = records_of-push s us v }

-- undoing the operations after a list leaves it
undone_after : (s : Settings) (us vs : List Shadow) → AreUndone s (us ++ vs) (length vs) us
undone_after s us [] = append-nil us
undone_after s us (v ∷ vs) = (
  us ++ v ∷ [],
  subst (λ xs. AreUndone s xs (length vs) (us ++ v ∷ [])) (append_assoc us (v ∷ []) vs) (undone_after s (us ++ v ∷ []) vs),
  undone s us v,
)

-- in every world operations are undone exactly
pub exact_reversal : (s : Settings) (w : World) → ExactReversal s w
exact_reversal s w = record {
  there_and_back = λ i t at v. undone s t.ops v;
  tail = λ i t at n within.
      subst (λ xs. AreUndone s xs (length t.ops - n) (take n t.ops)) (take-append-drop n t.ops)
      (subst (λ k. AreUndone s (take n t.ops ++ drop n t.ops) k (take n t.ops)) (length-drop n t.ops)
      (undone_after s (take n t.ops) (drop n t.ops)));
}
