-- The line ends at the first line feed.
use Rattle.std.proofs.Common.{◌≡◌, ◌==◌, Bool, true, false, arith, length, refl, sym}
use Rattle.std.proofs.lemmas.List.Sums.{position_or_len_is}
use Rattle.rb_lines.proofs.feed.line_length.Goals as goal

not_true : (b : Bool) → (b ≡ true → ⊥) → b ≡ false
not_true true h = absurd (h refl)
not_true false h = refl

pub returns-in-Some-clause-length : goal.returns-in-Some-clause-length
returns-in-Some-clause-length c =
    sym (position_or_len_is (λ b. b == 10) c.args.bytes.now c.in-Some.found 0 (omega (arith, (c.in-Some.ensures).0.high))
    (λ k h. not_true _ ((c.in-Some.ensures).0.before k (omega arith) h)) (λ h. (c.in-Some.ensures).1))

pub returns-in-None-clause-length : goal.returns-in-None-clause-length
returns-in-None-clause-length c =
    sym (position_or_len_is (λ b. b == 10) c.args.bytes.now (length c.args.bytes.now) 0 (omega arith)
    (λ k h. not_true _ (c.in-None.ensures k (omega arith) h)) (λ h. absurd (omega arith)))
