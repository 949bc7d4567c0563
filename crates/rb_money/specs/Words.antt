-- Names that are looked up as one number.
use Rattle.std.specs.List.{All}
use Rattle.std.specs.Prelude.{◌≡◌, ◌+◌, ◌*◌, ◌<◌, ℕ, List, [], ◌∷◌, Some}
use Rattle.rb_money.specs.Settings.{place_in}
use Rattle.rb_money.specs.declared.place.Place.{Place}

-- the bytes of a name as one number, the first the lowest, and a 1 above them
abbrev pub word : List ℕ → ℕ
word [] = 1
word (b ∷ bs) = word bs * 256 + b

-- each is a byte
abbrev pub AreBytes : List ℕ → Type 0
AreBytes bytes = All (λ b. b < 256) bytes

-- a word and a place: whatever name has the word is at the place among these names
abbrev pub IsShort : List (List ℕ) → ℕ × Place → Type 0
IsShort names e = (name : List ℕ) → AreBytes name → word name ≡ e.0 → place_in names name ≡ Some e.1

-- a table of words and places, each of which is so
abbrev pub AreShort : List (List ℕ) → List (ℕ × Place) → Type 0
AreShort names slots = All (IsShort names) slots
