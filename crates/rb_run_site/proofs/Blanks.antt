-- The blank lines before the first one that isn't, for a source whose bytes are known.
use Rattle.std.proofs.Common.{◌≡◌, ◌<◌, ◌≤◌, ◌+◌, ◌⊎◌, ℕ, Bool, true, false, cond, List, [], ◌∷◌, ◌++◌, length, take}
use Rattle.std.proofs.Common.{drop, Option, Some, None}
use Rattle.std.proofs.Common.{Ok, Err, refl, sym, ap, ◌∙◌, rules, subst, arith, length-append}
use Rattle.std.specs.Prelude.{IfSome, not}
use Rattle.std.specs.Io.KnownBytes.{IsAtEnd}
use Rattle.rb_lines.specs.Buffers.{Reads}
use Rattle.rb_lines.specs.Lines.{is_blank, is_long, line_len}
use Rattle.rb_lines.specs.declared.limits.TheConstants.{LINE_LIMIT}
use Rattle.rb_lines.proofs.Public.LongLines.{long_line}
use Rattle.rb_lines.proofs.Public.Walks.{Walks}
use Rattle.rb_lines.proofs.Public.Walks as walk
use Rattle.rb_run_site.specs.declared.fault.SiteFault.TheVariants.{NoConfig, LongLine, Read}
use Rattle.rb_run_site.specs.FirstLines.{FindsFirst, not_blank}

-- blank lines were taken, and the next line has this number
pub record Blanks (all : List ℕ) (number : ℕ) (pending rest : List ℕ) (ended : Bool) : Type 0 where
  pub done : List (List ℕ)
  pub walks : Walks all done pending rest ended
  pub are_blank : not_blank done ≡ []
  pub number_is : number ≡ 1 + length done

-- the same if the source's bytes are known
abbrev pub BlanksKnown : Option (List ℕ) → Option (List ℕ) → ℕ → List ℕ → Bool → Type 0
BlanksKnown None now n p e = Unit {0}
BlanksKnown (Some all) None n p e = ⊥
BlanksKnown (Some all) (Some rest) n p e = Blanks all n p rest e

-- at first no line was taken
pub known_start : (a : Option (List ℕ)) (p : List ℕ) (e : Bool) → p ≡ [] → e ≡ false → BlanksKnown a a 1 p e
known_start None p e none going = tt
known_start (Some all) p e none going = record {
  done = [];
  walks = subst (λ q. Walks all [] q all e) (sym none) (subst (λ d. Walks all [] [] all d) (sym going) (walk.at_start all));
  are_blank = refl;
  number_is = refl;
}

-- bytes more were read
pub known_read : (a b b' : Option (List ℕ)) (n : ℕ) (p p' : List ℕ) (e e' : Bool) → BlanksKnown a b n p e → Reads p p' b b'
    → (e' ≡ false → e ≡ false) → BlanksKnown a b' n p' e'
known_read None b b' n p p' e e' f r was = tt
known_read (Some all) None b' n p p' e e' f r was = absurd f
known_read (Some all) (Some x) None n p p' e e' f r was = absurd r.2
known_read (Some all) (Some x) (Some y) n p p' e e' f r was = record {
  done = f.done;
  walks = walk.after_read all f.done p p' x y e e' f.walks r was;
  are_blank = f.are_blank;
  number_is = f.number_is;
}

blank_more : (done : List (List ℕ)) (l : List ℕ) → not_blank done ≡ [] → is_blank l ≡ true → not_blank (done ++ l ∷ []) ≡ []
blank_more [] l none blank = rw blank refl
blank_more (x ∷ done) l none blank = by (is_blank x) none (λ q. blank_more done l q blank)
  where
    by : (b : Bool) → cond (not b) (x ∷ not_blank done) (not_blank done) ≡ [] → (not_blank done ≡ [] → not_blank (done ++ l ∷ []) ≡ [])
        → cond (not b) (x ∷ not_blank (done ++ l ∷ [])) (not_blank (done ++ l ∷ [])) ≡ []
    by true q later = later q
    by false q later = absurd (cc)

-- the line at the front is blank, and was taken
pub known_line : (a b : Option (List ℕ)) (n : ℕ) (p : List ℕ) (e : Bool) (k : ℕ) → BlanksKnown a b n p e → k ≡ line_len p → k ≤ length p
    → (k < length p) ⊎ ((k ≡ length p) × (0 < k) × (e ≡ true)) → (e ≡ true → IsAtEnd b) → is_blank (take k p) ≡ true
    → BlanksKnown a b (n + 1) (drop (k + 1) p) e
known_line None b n p e k f len fits at_front end blank = tt
known_line (Some all) None n p e k f len fits at_front end blank = absurd f
known_line (Some all) (Some x) n p e k f len fits at_front end blank = record {
  done = f.done ++ take k p ∷ [];
  walks = walk.after_line all f.done p x e k f.walks len fits at_front end;
  are_blank = blank_more f.done (take k p) f.are_blank blank;
  number_is = omega (arith, f.number_is, length-append f.done (take k p ∷ []));
}

-- ---- the ends

-- the first line that isn't blank waits
pub known_found : (a b : Option (List ℕ)) (n : ℕ) (p : List ℕ) (e : Bool) (k : ℕ) → BlanksKnown a b n p e
    → IfSome a (λ input. FindsFirst (Ok (k, n)) input p b)
known_found None b n p e k f = tt
known_found (Some all) None n p e k f = absurd f
known_found (Some all) (Some x) n p e k f = record {
  rest = x;
  left_is = refl;
  behind = record { blanks = f.done; are_blank = f.are_blank; number_is = f.number_is; whole = f.walks.lines };
}

-- there are no more lines
pub known_end : (a b : Option (List ℕ)) (n : ℕ) (p : List ℕ) (e : Bool) → BlanksKnown a b n p e → p ≡ [] → IsAtEnd b
    → IfSome a (λ input. FindsFirst (Err NoConfig) input p b)
known_end None b n p e f none end = tt
known_end (Some all) None n p e f none end = absurd f
known_end (Some all) (Some x) n p e f none end =
    (ap not_blank (walk.at_end all f.done p x e f.walks none end) ∙ f.are_blank, ap Some end)

-- the next line is too long
pub known_long : (a b : Option (List ℕ)) (n : ℕ) (p : List ℕ) (e : Bool) → BlanksKnown a b n p e → LINE_LIMIT < line_len p
    → IfSome a (λ input. FindsFirst (Err (LongLine n)) input p b)
known_long None b n p e f h = tt
known_long (Some all) None n p e f h = absurd f
known_long (Some all) (Some x) n p e f h =
    let (l, more, first, longer) = long_line p x LINE_LIMIT h in
    let is : is_long l ≡ true = search rules in (
      l,
      more,
      is,
      record {
        blanks = f.done;
        are_blank = f.are_blank;
        number_is = f.number_is;
        whole = f.walks.lines ∙ ap (λ y. f.done ++ y) first;
      },
    )

-- no more is read
pub known_stop : (a b : Option (List ℕ)) (n : ℕ) (p : List ℕ) (e : Bool) → BlanksKnown a b n p e → e ≡ false → line_len p ≡ length p
    → IfSome a (λ input. FindsFirst (Err Read) input p b)
known_stop None b n p e f going none = tt
known_stop (Some all) None n p e f going none = absurd f
known_stop (Some all) (Some x) n p e f going none = record {
  taken = f.walks.got;
  rest = x;
  left_is = refl;
  whole = f.walks.bytes;
  are_blank = ap not_blank (walk.at_rest all f.done p x e f.walks going none) ∙ f.are_blank;
}
