-- How far a source's bytes were read and its lines taken.
use Rattle.std.proofs.Common.{◌≡◌, ◌<◌, ◌≤◌, ◌+◌, ◌⊎◌, ℕ, Bool, true, false, List, [], ◌∷◌, ◌++◌, length, take, drop, inl, inr, refl, sym}
use Rattle.std.proofs.Common.{ap, ◌∙◌, arith, append-nil, append_assoc}
use Rattle.std.proofs.Math.ListN.{drop_of_length-le}
use Rattle.std.proofs.Math.Seq.{take-append_seam}
use Rattle.rb_lines.specs.Lines.{lines_of, whole_lines, line_len}
use Rattle.rb_lines.proofs.LineLaws.{first_line, first_whole, last_line, last_whole}

take_all : (p : List ℕ) → take (length p) p ≡ p
take_all p = rw append-nil at (take-append_seam p [])

-- of all bytes these lines were taken, these bytes wait, and the rest is still to be read
pub record Walks (all : List ℕ) (done : List (List ℕ)) (pending rest : List ℕ) (ended : Bool) : Type 0 where
  pub got : List ℕ
  pub lines : lines_of all ≡ done ++ lines_of (pending ++ rest)
  pub bytes : all ≡ got ++ rest
  pub whole : ended ≡ false → (tail : List ℕ) → whole_lines (got ++ tail) ≡ done ++ whole_lines (pending ++ tail)

-- at first no line was taken
pub at_start : (all : List ℕ) → Walks all [] [] all false
at_start all = record { got = []; lines = refl; bytes = refl; whole = λ _ tail. refl }

-- bytes more were read: no line more was taken
pub after_read : (all : List ℕ) (done : List (List ℕ)) (p p' r r' : List ℕ) (e e' : Bool) → Walks all done p r e
    → (more : List ℕ) × (p' ≡ p ++ more) × (r ≡ more ++ r') → (e' ≡ false → e ≡ false) → Walks all done p' r' e'
after_read all done p p' r r' e e' w (more, at_end, taken) was = record {
  got = w.got ++ more;
  lines = w.lines ∙ ap (λ x. done ++ lines_of x) (ap (λ x. p ++ x) taken ∙ sym (append_assoc p more r') ∙ ap (λ x. x ++ r') (sym at_end));
  bytes = w.bytes ∙ ap (λ x. w.got ++ x) taken ∙ sym (append_assoc w.got more r');
  whole = λ going tail. ap whole_lines (append_assoc w.got more tail) ∙ w.whole (was going) (more ++ tail)
      ∙ ap (λ x. done ++ whole_lines x) (sym (append_assoc p more tail) ∙ ap (λ x. x ++ tail) (sym at_end));
}

-- the line at the front is taken
pub after_line : (all : List ℕ) (done : List (List ℕ)) (p r : List ℕ) (e : Bool) (n : ℕ) → Walks all done p r e → n ≡ line_len p
    → n ≤ length p
    → (n < length p) ⊎ ((n ≡ length p) × (0 < n) × (e ≡ true)) → (e ≡ true → r ≡ [])
    → Walks all (done ++ take n p ∷ []) (drop (n + 1) p) r e
after_line all done p r e n w len fits (inl more) end =
    let short : line_len p < length p = omega (arith, len) in record {
      got = w.got;
      lines = w.lines ∙ ap (λ x. done ++ x) (rw (← len) at (first_line p r short)) ∙ sym (append_assoc done (take n p ∷ []) _);
      bytes = w.bytes;
      whole = λ going tail. w.whole going tail ∙ ap (λ x. done ++ x) (rw (← len) at (first_whole p tail short))
          ∙ sym (append_assoc done (take n p ∷ []) _);
    }
after_line all done p r e n w len fits (inr (whole, some, ended)) end =
    let none_left : r ≡ [] = end ended in
    let one : lines_of p ≡ p ∷ [] = last_line p (sym len ∙ whole) (omega arith) in
    let line : take n p ≡ p = rw whole (take_all p) in
    let gone : drop (n + 1) p ≡ [] = drop_of_length-le p (omega arith) in record {
      got = w.got;
      lines = w.lines ∙ ap (λ x. done ++ lines_of (p ++ x)) none_left ∙ ap (λ x. done ++ lines_of x) (append-nil p)
          ∙ ap (λ x. done ++ x) one ∙ ap (λ x. done ++ x ∷ []) (sym line)
          ∙ sym (append-nil (done ++ take n p ∷ [])) ∙ ap (λ x. (done ++ take n p ∷ []) ++ lines_of (x ++ [])) (sym gone)
          ∙ ap (λ x. (done ++ take n p ∷ []) ++ lines_of (drop (n + 1) p ++ x)) (sym none_left);
      bytes = w.bytes;
      whole = λ going tail. absurd (cc (going, ended));
    }

-- nothing is left: these were all lines
pub at_end : (all : List ℕ) (done : List (List ℕ)) (p r : List ℕ) (e : Bool) → Walks all done p r e → p ≡ [] → r ≡ [] → lines_of all ≡ done
at_end all done p r e w none end = w.lines ∙ ap (λ x. done ++ lines_of (x ++ r)) none ∙ ap (λ x. done ++ lines_of x) end ∙ append-nil done

-- a whole line at the front is the next
pub line_at_front : (p r : List ℕ) (e : Bool) (n : ℕ) → n ≡ line_len p → n ≤ length p
    → (n < length p) ⊎ ((n ≡ length p) × (0 < n) × (e ≡ true))
    → (e ≡ true → r ≡ [])
    → (more : List (List ℕ)) × (lines_of (p ++ r) ≡ take n p ∷ more)
line_at_front p r e n len fits (inl more) end =
    (lines_of (drop (n + 1) p ++ r), let short : line_len p < length p = omega (arith, len) in rw (← len) at (first_line p r short))
line_at_front p r e n len fits (inr (whole, some, ended)) end =
    let one : lines_of p ≡ p ∷ [] = last_line p (sym len ∙ whole) (omega arith) in
    let line : take n p ≡ p = rw whole (take_all p) in
    ([], ap (λ x. lines_of (p ++ x)) (end ended) ∙ ap lines_of (append-nil p) ∙ one ∙ ap (λ x. x ∷ []) (sym line))

-- no whole line waits: all whole lines of what was read were taken
pub at_rest : (all : List ℕ) (done : List (List ℕ)) (p r : List ℕ) (e : Bool) → (w : Walks all done p r e) → e ≡ false
    → line_len p ≡ length p → whole_lines w.got ≡ done
at_rest all done p r e w going none =
    ap whole_lines (sym (append-nil w.got)) ∙ w.whole going [] ∙ ap (λ x. done ++ whole_lines x) (append-nil p)
    ∙ ap (λ x. done ++ x) (last_whole p none) ∙ append-nil done
