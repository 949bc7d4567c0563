-- The token as a view shows it, the colour of a name, and tests of the money.
use Rattle.std.proofs.Common.{◌≡◌, ℕ, ◌≤◌, false, List, refl, arith}
use Rattle.std.specs.Prelude.{ℤ, pos, negsuc, ◌≤ℤ◌, int_lt}
use Rattle.std.proofs.lemmas.Bool.Decides.{nat_tests}
use Rattle.rb_shadow.specs.declared.colour.Colour.TheVariants.{Blue as BlueColour, Red as RedColour}
use Rattle.rb_shadow.specs.declared.shadow.Shadow.{Shadow}
use Rattle.rb_shadow.specs.Operations.{shown_colour}
use Rattle.rb_token.specs.Token.{Token}
use Rattle.rb_token.specs.Seen.{Shows}
use Rattle.rb_token.specs.declared.view.TokenView.{TokenView}
use Rattle.rb_scratch.specs.Requests.{next_name}
use Rattle.std.proofs.lemmas.Int.{ints}
use Rattle.rb_shadow.specs.declared.colour.Colour.{Colour}

-- a token that a view shows
abbrev pub seen : TokenView → Token
seen w = record { epoch = 0; held = w.held; needed = w.needed }

-- a view shows the token that it is made of
pub seen_shows : (w : TokenView) → Shows w (seen w)
seen_shows w = record { held = refl; needed = refl }

-- the next name of a colour shows that colour
pub shows : (me : ℕ) (us : List Shadow) (c : Colour) → shown_colour (next_name me us c) ≡ c
shows me us BlueColour = refl
shows me us RedColour = refl

-- a balance that isn't below an amount has it
pub enough : (z : ℤ) (n : ℕ) → int_lt z (pos n) ≡ false → pos n ≤ℤ z
enough (pos m) n h = let low : n ≤ m = grind (arith, nat_tests) in omega (arith, ints)
enough (negsuc m) n h = cc
