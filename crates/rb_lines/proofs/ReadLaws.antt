-- The bytes that a reader has given after two reads, and the list after a read behind a part of it.
use Rattle.std.proofs.Common.{◌≤◌, ◌+◌, List, ℕ, ◌++◌, length, take, drop, slice_range, Option, sym, ap, ◌∙◌, append_assoc, arith}
use Rattle.std.proofs.lemmas.List.{drop-append-le, length-take-le}
use Rattle.std.proofs.lemmas.Slice.{between_is}
use Rattle.std.proofs.KnownBytes.{Consumes-trans}
use Rattle.rb_lines.specs.Buffers.{Reads}

-- what two reads gave, one after the other
pub Reads-then : (a b c : Option (List ℕ)) (old mid new : List ℕ) → Reads old mid a b → Reads mid new b c → Reads old new a c
Reads-then a b c old mid new p q =
    (p.0 ++ q.0, q.1 ∙ ap (λ l. l ++ q.0) p.1 ∙ append_assoc old p.0 q.0, Consumes-trans a b c p.0 q.0 p.2 q.2)

-- what joins the prefix of a list joins a part that ends with the prefix
pub Reads-part : (a b : Option (List ℕ)) (xs ys : List ℕ) (start end n : ℕ) → start ≤ end → end ≤ length xs
    → Reads (take end xs) (take (end + n) ys) a b → Reads (slice_range xs start end) (slice_range ys start (end + n)) a b
Reads-part a b xs ys start end n ordered within (more, joined, given) = (
  more,
  between_is ys start (end + n) ∙ ap (drop start) joined
      ∙ drop-append-le start (take end xs) more (omega (arith, length-take-le end xs within))
      ∙ ap (λ l. l ++ more) (sym (between_is xs start end)),
  given,
)
