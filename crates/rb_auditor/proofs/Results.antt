-- Claims that follow from how a call went.
use Rattle.std.proofs.Common.{◌≡◌, Bool, true, false, IsTrue, MatchBool, refl, Result, Ok, Err}
use Rattle.std.specs.Prelude.{OnErr, OnOk}
use Rattle.std.specs.Result.{is_err}
use Rattle.std.specs.declared.alloc.AllocError.{AllocError}
use Rattle.std.proofs.lemmas.Bool.{false≢true}

-- what holds if it went well
pub went_well : {A : Type 0} (r : Result Unit AllocError) → is_err r ≡ false → OnOk r A → A
went_well (Ok u) e a = a
went_well (Err x) e a = cc

-- what follows if it went well
pub on_ok : {A B : Type 0} (r : Result Unit AllocError) → OnOk r A → (A → B) → OnOk r B
on_ok (Ok u) a f = f a
on_ok (Err e) a f = tt

-- and if it did not
pub on_err : {A B : Type 0} (r : Result Unit AllocError) → OnErr r A → (A → B) → OnErr r B
on_err (Ok u) a f = tt
on_err (Err e) a f = f a

-- what follows either way
pub either_way : {A B C : Type 0} (r : Result Unit AllocError) → OnOk r A → OnErr r B → (A → C) → (B → C) → C
either_way (Ok u) a b f g = f a
either_way (Err e) a b f g = g b

-- what holds anyway holds if it failed
pub still : {A E : Type 0} (r : Result A E) (P : Type 0) → P → OnErr r P
still (Ok x) P h = tt
still (Err y) P h = h

-- a test is true exactly of what it gives, if what it denies can't be
pub decided : (b : Bool) (D L C : Type 0) → MatchBool b D L → (D → C) → (L → C → ⊥) → (IsTrue b → C) × (C → IsTrue b)
decided true D L C h gives denies = (λ t. gives h, λ k. refl)
decided false D L C h gives denies = (λ t. absurd (false≢true t), λ k. absurd (denies h k))

-- what can't be is denied
pub denied : (C : Type 0) → (C → ⊥) → (IsTrue false → C) × (C → IsTrue false)
denied C denies = (λ t. absurd (false≢true t), λ k. absurd (denies k))
