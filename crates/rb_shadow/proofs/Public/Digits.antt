-- A number is read back from its digits.
use Rattle.std.proofs.lemmas.Str.Parse.{IsNumeralModel, numerals_by_value, tells_digits}
use Rattle.std.specs.Str.Parse.{AllDigits, digits_value}

-- decimal digits have the value of their number
abbrev pub in_digits : IsNumeralModel (AllDigits 10) (digits_value 10)
in_digits = numerals_by_value (AllDigits 10) tells_digits
