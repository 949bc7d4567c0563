-- How many digits a number has.
use Rattle.std.proofs.Common.{◌≡◌, ℕ, ◌+◌, ◌/◌, ◌<◌, ◌≤◌, ◌^◌, length, decimal, ap, arith, length-append}
use Rattle.std.proofs.lemmas.Fmt.{decimal_digit, decimal_step, length-decimal-le}

-- one more than without the last
pub longer : (n : ℕ) → 10 ≤ n → n < 2 ^ 64 → length (decimal n) ≡ length (decimal (n / 10)) + 1
longer n h k = omega (arith, ap length (decimal_step n h k), length-append {A = ℕ})

-- a number below 10 has one digit
pub one : (n : ℕ) → n < 10 → length (decimal n) ≡ 1
one n h = ap length (decimal_digit n h)

-- a number from 10 to 99 has two digits
pub two : (n : ℕ) → 10 ≤ n → n < 100 → length (decimal n) ≡ 2
two n h k = omega (arith, longer n h (omega arith), one (n / 10) (omega arith))

-- a number from 100 to 999 has three digits
pub three : (n : ℕ) → 100 ≤ n → n < 1000 → length (decimal n) ≡ 3
three n h k = omega (arith, longer n (omega arith) (omega arith), two (n / 10) (omega arith) (omega arith))

-- a number from 1,000 to 9,999 has four digits
pub four : (n : ℕ) → 1000 ≤ n → n < 10000 → length (decimal n) ≡ 4
four n h k = omega (arith, longer n (omega arith) (omega arith), three (n / 10) (omega arith) (omega arith))

-- four more than without the last four
pub longer_by_four : (n : ℕ) → 10000 ≤ n → n < 2 ^ 64 → length (decimal n) ≡ length (decimal (n / 10000)) + 4
longer_by_four n h k =
    let same : n / 10 / 10 / 10 / 10 ≡ n / 10000 = omega arith in
    omega (
      arith,
      longer n (omega arith) k,
      longer (n / 10) (omega arith) (omega arith),
      longer (n / 10 / 10) (omega arith) (omega arith),
      longer (n / 10 / 10 / 10) (omega arith) (omega arith),
      ap (λ m. length (decimal m)) same,
    )

-- the lengths of the numbers of a few digits
pub ruleset few = (one, two, three, four)

-- a number of 64 bits has at most 20 digits
pub within_20 : (n : ℕ) → n < 2 ^ 64 → length (decimal n) ≤ 20
within_20 n h = length-decimal-le 20 n (omega arith) (omega arith) h

-- a number of 32 bits has at most 10 digits
pub within_10 : (n : ℕ) → n < 2 ^ 32 → length (decimal n) ≤ 10
within_10 n h = length-decimal-le 10 n (omega arith) (omega arith) (omega arith)

-- a number of 8 bits has at most 3 digits
pub within_3 : (n : ℕ) → n < 2 ^ 8 → length (decimal n) ≤ 3
within_3 n h = length-decimal-le 3 n (omega arith) (omega arith) (omega arith)
