-- A number after a call, between numbers that hold either way.
use Rattle.rb_ledger.proofs.Words.{◌≡◌, ℕ, ◌≤◌, arith, Result, Ok, Err, OnOk, OnErr, AllocError}

-- it is at least what both of its values are at least
pub at_least : (r : Result (Unit {0}) AllocError) (n m l k : ℕ) → OnOk r (n ≡ l) → OnErr r (n ≡ m) → k ≤ l → k ≤ m → k ≤ n
at_least (Ok x) n m l k ok err a b = omega arith
at_least (Err x) n m l k ok err a b = omega arith

-- and at most what both are at most
pub at_most : (r : Result (Unit {0}) AllocError) (n m l k : ℕ) → OnOk r (n ≡ l) → OnErr r (n ≡ m) → l ≤ k → m ≤ k → n ≤ k
at_most (Ok x) n m l k ok err a b = omega arith
at_most (Err x) n m l k ok err a b = omega arith
