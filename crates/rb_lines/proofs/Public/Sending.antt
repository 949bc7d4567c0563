-- The bytes that a writer holds after two writes.
use Rattle.std.proofs.Common.{◌≡◌, List, ℕ, ◌++◌, take, drop, Option, sym, ap, ◌∙◌, append_assoc, append-nil, []}
use Rattle.std.proofs.KnownBytes.{Appends-trans}
use Rattle.std.proofs.lemmas.List.{take-append-drop}
use Rattle.std.specs.Io.KnownBytes.{Appends}
use Rattle.rb_lines.specs.Buffers.{Sends}
use Rattle.rb_lines.specs.Writes.{AppendsFront}

-- a prefix that takes n bytes more
pub front_more : (text front rest rest' : List ℕ) (n : ℕ) → text ≡ front ++ rest → rest' ≡ drop n rest
    → text ≡ (front ++ take n rest) ++ rest'
front_more text front rest rest' n e e' = e ∙ ap (λ l. front ++ l) (sym (take-append-drop n rest))
    ∙ sym (append_assoc front (take n rest) (drop n rest)) ∙ ap (λ l. (front ++ take n rest) ++ l) (sym e')

-- what is still buffered goes out in two parts
pub Sends-then : (a b c : Option (List ℕ)) (buffered still left : List ℕ) → Sends a b buffered still → Sends b c still left →
    Sends a c buffered left
Sends-then a b c buffered still left p q =
    (p.0 ++ q.0, Appends-trans a b c p.0 q.0 p.1 q.1, p.2 ∙ ap (λ l. p.0 ++ l) q.2 ∙ sym (append_assoc p.0 q.0 left))

-- all of it went out
pub Sends-all : (a b : Option (List ℕ)) (buffered still : List ℕ) → Appends a b buffered → still ≡ [] → Sends a b buffered still
Sends-all a b buffered still p e = (buffered, p, sym (append-nil buffered) ∙ ap (λ l. buffered ++ l) (sym e))

-- a prefix of the rest went out
pub Sends-front : (a b c : Option (List ℕ)) (buffered still : List ℕ) → Sends a b buffered still → AppendsFront b c still →
    AppendsFront a c buffered
Sends-front a b c buffered still p q =
    (p.0 ++ q.0, (q.1.0, p.2 ∙ ap (λ l. p.0 ++ l) q.1.1 ∙ sym (append_assoc p.0 q.0 q.1.0)), Appends-trans a b c p.0 q.0 p.1 q.2)
