-- Lists of two, of three and of six, and how many members an object has.
use Rattle.rb_history.proofs.Words.{◌≡◌, List, [], ◌∷◌, length, None, Some, refl, ap, arith, Data, object, Members, members_len, as_object}
use Rattle.rb_history.proofs.Words.{items_view, Value, six_in, pair_in, size_of, three_in}

-- a list of another length is no list of two
pub no_pair : (vs : List Value) → (length vs ≡ 2 → ⊥) → pair_in (items_view vs) ≡ None
no_pair (a ∷ b ∷ []) h = absurd (h (omega arith))
no_pair _ h = refl

-- nor of three
pub no_three : (vs : List Value) → (length vs ≡ 3 → ⊥) → three_in (items_view vs) ≡ None
no_three (a ∷ b ∷ c ∷ []) h = absurd (h (omega arith))
no_three _ h = refl

-- nor of six
pub no_six : (vs : List Value) → (length vs ≡ 6 → ⊥) → six_in (items_view vs) ≡ None
no_six (a ∷ b ∷ c ∷ d ∷ e ∷ f ∷ []) h = absurd (h (omega arith))
no_six _ h = refl

-- an object's size
pub size_is : (d : Data) (ms : Members) → as_object d ≡ Some ms → size_of d ≡ members_len ms
size_is (object m) ms e = ap members_len (cc)
size_is _ ms e = absurd (cc)
