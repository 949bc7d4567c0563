-- Texts put one after another.
use Rattle.std.proofs.Common.{◌≡◌, ℕ, ◌+◌, ◌≤◌, List, ◌++◌, length, take, ap, sym, ◌∙◌, append_assoc, length-append, length-take-le, arith}
use Rattle.rb_history.specs.Placed.{Placed}

-- a text after another is both
pub placed_then : {a b c xs ys : List ℕ} {i j k : ℕ} → Placed a b i xs j → Placed b c j ys k → Placed a c i (xs ++ ys) k
placed_then {a} {b} {c} {xs} {ys} {i} {j} {k} p q = record {
  bytes = q.bytes ∙ ap (λ l. l ++ ys) p.bytes ∙ append_assoc (take i a) xs ys;
  moved = q.moved ∙ ap (λ n. n + length ys) p.moved ∙ (omega (arith, length-append xs ys));
}

-- the same text, in other words
pub placed_is : {a b xs ys : List ℕ} {i j : ℕ} → xs ≡ ys → Placed a b i xs j → Placed a b i ys j
placed_is {a} {b} {xs} {ys} {i} {j} e p = record {
  bytes = p.bytes ∙ ap (λ l. take i a ++ l) e;
  moved = p.moved ∙ ap (λ l. i + length l) e;
}

-- a text is placed if the bytes up to its end are those before it, and it
pub placed_at : {a b text : List ℕ} {at end : ℕ} → at ≤ length a → end ≤ length b → take end b ≡ take at a ++ text → Placed a b at text end
placed_at {a} {b} {text} {at} {end} low high e = record {
  bytes = e;
  moved = sym (length-take-le end b high) ∙ ap length e ∙ length-append (take at a) text
      ∙ ap (λ n. n + length text) (length-take-le at a low);
}
