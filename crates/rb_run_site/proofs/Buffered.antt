-- If nothing is buffered, nothing is written.
use Rattle.std.proofs.Common.{◌≡◌, ℕ, List, [], ◌∷◌, ◌++◌, Option, sym, ◌∙◌}
use Rattle.rb_lines.specs.Buffers.{Sends}

both_none : (a b : List ℕ) → [] ≡ a ++ b → b ≡ []
both_none [] b e = sym e
both_none (x ∷ a) b e = absurd (cc e)

-- if nothing was buffered, nothing is
pub still_none : (w w' : Option (List ℕ)) (buffered still : List ℕ) → buffered ≡ [] → Sends w w' buffered still → still ≡ []
still_none w w' buffered still none sent = both_none sent.0 still (sym none ∙ sent.2)
