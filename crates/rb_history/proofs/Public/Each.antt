-- Facts about each item of two lists.
use Rattle.rb_history.proofs.Words.{List, [], ◌∷◌, ◌++◌, Each}

-- each item of both lists has it
pub each_both : {A : Type 0} (P : A → Type 0) (xs ys : List A) → Each P xs → Each P ys → Each P (xs ++ ys)
each_both P [] ys h k = k
each_both P (x ∷ xs) ys h k = (h.0, each_both P xs ys h.1 k)
