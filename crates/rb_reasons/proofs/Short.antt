use Rattle.std.proofs.Common.{rules, ◌≤◌, ◌<◌, ◌^◌, ◌++◌, ◌+◌, ◌%◌, [], ℕ, List, arith, codes, decimal, length, length-append}
use Rattle.std.proofs.lemmas.Fmt.{decimal_by_steps, length-decimal-le}
use Rattle.std.proofs.lemmas.List.Elements.{All-append, All-cons, All-from_recursion, All-nil, All-push}
use Rattle.rb_reasons.specs.Reasons.{IsPlain, reason_text, short_text}

-- how long a reason is, whose column is a number of 64 bits
pub short : (n : ℕ) (why before behind blanks : List ℕ) → n < 2 ^ 64 → length why ≤ 300 → length before ≤ 48 → length behind ≤ 72
    → length blanks ≤ 48 → length (reason_text n why before behind blanks) ≤ 512
short n why before behind blanks small w b h k =
    let last = codes "\n  " ++ (blanks ++ codes "^") in
    let part = before ++ (behind ++ last) in
    let said = why ++ (codes "\n  " ++ part) in
    omega (
      arith,
      length-append (decimal n) (codes ": " ++ said),
      length-append why (codes "\n  " ++ part),
      length-append before (behind ++ last),
      length-append behind last,
      length-append blanks (codes "^"),
      length-decimal-le 20 n (omega arith) (omega arith) small,
      w,
      b,
      h,
      k,
    )

-- the same of a reason on one line
pub shorter : (n : ℕ) (why : List ℕ) → n < 2 ^ 64 → length why ≤ 300 → length (short_text n why) ≤ 336
shorter n why small w =
    omega (
      arith,
      length-append (decimal n) (codes ": " ++ why),
      length-decimal-le 20 n (omega arith) (omega arith) small,
      w,
    )

abbrev plain_byte : ℕ → Type 0
plain_byte b = (32 ≤ b) × (b < 127)

-- digits are plain
plain_digits : (n : ℕ) → n < 2 ^ 64 → IsPlain (decimal n)
plain_digits = decimal_by_steps (λ n ds. IsPlain ds)
    (λ n few. All-cons plain_byte (48 + n) [] (omega (arith, few), omega (arith, few)) (All-nil plain_byte))
    (λ n ds more plain. All-push plain_byte ds (48 + n % 10) plain (omega arith, omega arith))

-- so is all of a reason on one line
pub all_plain : (n : ℕ) (why : List ℕ) → n < 2 ^ 64 → IsPlain why → IsPlain (short_text n why)
all_plain n why small plain =
    All-append plain_byte (codes "column ") (decimal n ++ (codes ": " ++ why))
    (All-from_recursion plain_byte (codes "column ") (search rules))
    (All-append plain_byte (decimal n) (codes ": " ++ why) (plain_digits n small)
    (All-append plain_byte (codes ": ") why (All-from_recursion plain_byte (codes ": ") (search rules)) plain))
