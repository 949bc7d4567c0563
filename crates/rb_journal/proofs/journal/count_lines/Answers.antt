use Rattle.std.proofs.Common.{◌≡◌, ℕ, suc, ◌+◌, ◌-◌, ◌<◌, true, List, [], ◌∷◌, length, get_or, take, drop, position, ◌==◌, Some, inl, inr}
use Rattle.std.proofs.Common.{refl, sym, ◌∙◌, ap, add-one, arith, length-append, length-drop, take_while}
use Rattle.std.specs.List.{concat}
use Rattle.std.proofs.lemmas.Bool.{cases_lt, eqb-true, eq-eqb, lt-ltb, cond-true, false≢true}
use Rattle.std.proofs.lemmas.List.{take_rest, length-take-le}
use Rattle.std.proofs.lemmas.List.Quantifiers.{position-Some}
use Rattle.std.proofs.lemmas.List.Sums.{fails_before_first}
use Rattle.rb_journal.specs.Lines.{lines_in, is_open, recovered}
use Rattle.rb_journal.proofs.Crash.{cut_done}
use Rattle.rb_journal.proofs.Public.Lines.{first_line, no_line, open-true, closed}
use Rattle.rb_journal.proofs.journal.count_lines.Goals as goal

begins_open : (bytes : List ℕ) (n : ℕ) → get_or bytes 0 0 ≡ 123 → is_open (take (suc n) bytes) ≡ true
begins_open [] n is = absurd (omega arith)
begins_open (b ∷ bytes) n is = eq-eqb b 123 is

first_is : (bytes : List ℕ) (last : ℕ) → position (λ b. b == 10) bytes ≡ Some last → get_or bytes 0 0 ≡ 123
    → recovered bytes ≡ take (last + 1) bytes ∷ recovered (take (length bytes - (last + 1)) (drop (last + 1) bytes))
first_is bytes last found begins =
    let at = position-Some (λ b. b == 10) bytes last 0 found in
    let whole : lines_in bytes ≡ take (suc last) bytes ∷ lines_in (drop (suc last) bytes) =
    first_line bytes last at.0 (eqb-true (get_or bytes last 0) 10 at.1) (λ k below is. false≢true (sym (at.2 k below)
    ∙ eq-eqb (get_or bytes k 0) 10 is)) in
    rw (take_rest bytes (last + 1), add-one last)
    (ap (λ (ls : List (List ℕ)). take_while is_open ls) whole ∙ open-true (take (suc last) bytes) (lines_in (drop (suc last) bytes))
    (begins_open bytes last begins))

no_more : (bytes : List ℕ) → ((i : ℕ) → position (λ b. b == 10) bytes ≡ Some i → ⊥) → recovered bytes ≡ []
no_more bytes none = elim (cases_lt (Rattle.std.specs.List.position_or_len (λ b. b == 10) bytes) (length bytes)) [
  | inl lt ↦ absurd (none _ (cond-true _ _ _ (lt-ltb _ _ lt)))
  | inr ge ↦
      let whole : lines_in bytes ≡ [] = no_line bytes (λ k below is. false≢true
      (sym (fails_before_first (λ b. b == 10) bytes k 0 (omega arith)) ∙ eq-eqb (get_or bytes k 0) 10 is)) in
      ap (λ (ls : List (List ℕ)). take_while is_open ls) whole
]

not_open : (bytes : List ℕ) → (get_or bytes 0 0 ≡ 123 → ⊥) → recovered bytes ≡ []
not_open [] shut = refl
not_open (b ∷ bytes) shut = closed b bytes shut

pub loop-last-preserved : goal.loop-last-preserved
loop-last-preserved c =
    let rest = c.loop-last.rest.now in
    let n = c.in-Some.last + 1 in
    let found = sym c.first_feed.ensures ∙ c.in-Some.is in
    let first = first_is rest c.in-Some.last found c.if-rest-ne123.false in
    let within : c.in-Some.last < length rest = (position-Some (λ b. b == 10) rest c.in-Some.last 0 found).0 in
    let left : length (take (length rest - n) (drop n rest)) ≡ length rest - n = ap length (take_rest rest n) ∙ length-drop n rest in
    let split = ap (λ (ls : List (List ℕ)). length (concat ls)) first ∙ length-append (take n rest) _ in
    record {
      so_far = omega (arith, split, length-take-le n rest (omega arith), c.loop-last.invariant.so_far);
      counted = omega (arith, ap length first, c.loop-last.invariant.counted);
      few = omega (arith, c.loop-last.invariant.few);
      place = omega (arith, within, left, c.loop-last.invariant.place);
    }

pub returns-then-rest-ne123-clause-length : goal.returns-then-rest-ne123-clause-length
returns-then-rest-ne123-clause-length c =
    omega (arith, ap (λ (ls : List (List ℕ)). length (concat ls)) (not_open c.loop-last.rest.now c.if-rest-ne123.true))

pub returns-then-rest-ne123-clause-count : goal.returns-then-rest-ne123-clause-count
returns-then-rest-ne123-clause-count c = omega (arith, ap length (not_open c.loop-last.rest.now c.if-rest-ne123.true))

pub returns-in_default-clause-length : goal.returns-in_default-clause-length
returns-in_default-clause-length c =
    let none = no_more c.loop-last.rest.now (λ i is. c.in_default.not-Some i (c.first_feed.ensures ∙ is)) in
    omega (arith, ap (λ (ls : List (List ℕ)). length (concat ls)) none)

pub returns-in_default-clause-count : goal.returns-in_default-clause-count
returns-in_default-clause-count c =
    omega (arith, ap length (no_more c.loop-last.rest.now (λ i is. c.in_default.not-Some i (c.first_feed.ensures ∙ is))))

pub returns-then-rest-ne123-clause-lines : goal.returns-then-rest-ne123-clause-lines
returns-then-rest-ne123-clause-lines c =
    ap (λ (n : ℕ). take n c.args.bytes.now) (returns-then-rest-ne123-clause-length c) ∙ cut_done c.args.bytes.now

pub returns-in_default-clause-lines : goal.returns-in_default-clause-lines
returns-in_default-clause-lines c =
    ap (λ (n : ℕ). take n c.args.bytes.now) (returns-in_default-clause-length c) ∙ cut_done c.args.bytes.now
