-- Facts about a call that failed.
use Rattle.std.proofs.Common.{◌≡◌, ℕ, List, length, take, take_all, arith}
use Rattle.std.specs.Prelude.{Result, Ok, Err, MatchResult}
use Rattle.std.specs.Result.{IsErr}

-- what is to hold after an `Err` holds if the call failed
pub kept : {A E P : Type 0} (r : Result A E) (ok : A → Type 0) → IsErr r → P → MatchResult r ok (λ _. P)
kept (Ok x) ok is p = absurd (cc)
kept (Err x) ok is p = p

-- a list that stayed begins with itself
pub stayed : (l : List ℕ) → take (length l) l ≡ l
stayed l = take_all (length l) l (omega arith)
