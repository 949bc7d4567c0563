-- Turns one after another, and lines that are taken off what waits.
use Rattle.std.proofs.Common.{◌≡◌, ◌<◌, ◌≤◌, ◌+◌, ◌-◌, ◌⊎◌, ℕ, Bool, true, false, cond, not, rules}
use Rattle.std.proofs.Common.{List, [], ◌∷◌, ◌++◌, length, take, drop, inl, inr, refl, sym}
use Rattle.std.proofs.Common.{ap, ◌∙◌, arith, subst, append_assoc, append-nil, length-append}
use Rattle.std.proofs.Math.Seq.{take-append_seam}
use Rattle.std.proofs.lemmas.Bool.{and_left, and_right}
use Rattle.std.proofs.lemmas.List.{append_cancel_left, map-append}
use Rattle.std.proofs.lemmas.List.Concat.{flat_map-append}
use Rattle.rb_lines.specs.Lines.{is_blank, is_long, line_len, whole_lines}
use Rattle.rb_lines.proofs.Public.LongLines.{len_is, first}
use Rattle.rb_lines.proofs.Public.Walks.{Walks, after_line}
use Rattle.rb_lines.specs.declared.limits.TheConstants.{LINE_LIMIT, MOST_BATCHED}
use Rattle.rb_journal.specs.Lines.{IsBatch, recovered}
use Rattle.rb_journal.specs.Turns.{Answers, AreFew, AreTurns, IsOneBatch, IsTurn, Turn, is_skipped, lines_added, lines_answered}
use Rattle.rb_journal.specs.Turns.{state_after, texts, to_answer}
use Rattle.rb_journal.specs.Steps.{Advances, AdvancesByBatch, IsTaken, Point}

-- turns, and then turns in the state that they left
pub turns_then : {S : Type 0} (answers : Answers S) (s : S) (xs ys : List (Turn S)) → AreTurns answers s xs
    → AreTurns answers (state_after s xs) ys → AreTurns answers s (xs ++ ys)
turns_then answers s [] ys a b = b
turns_then answers s (x ∷ xs) ys a b = (a.0, turns_then answers x.after xs ys a.1 b)

-- the state after some turns and then others
pub state_then : {S : Type 0} (s now new : S) (xs ys : List (Turn S)) → now ≡ state_after s xs → new ≡ state_after now ys
    → new ≡ state_after s (xs ++ ys)
state_then s now new [] ys a b = b ∙ ap (λ t. state_after t ys) a
state_then s now new (x ∷ xs) ys a b = state_then x.after now new xs ys a b

-- the lines that turns add, after those that others added
pub added_then : {S : Type 0} (lines now new : List (List ℕ)) (xs ys : List (Turn S)) → now ≡ lines ++ lines_added xs
    → new ≡ now ++ lines_added ys
    → new ≡ lines ++ lines_added (xs ++ ys)
added_then lines now new xs ys a b = rw (b, a, append_assoc, flat_map-append)

-- the text of turns, after that of others
pub texts_then : {S : Type 0} (text now new : List ℕ) (xs ys : List (Turn S)) → now ≡ text ++ texts xs → new ≡ now ++ texts ys
    → new ≡ text ++ texts (xs ++ ys)
texts_then text now new xs ys a b = rw (b, a, append_assoc, flat_map-append)

-- a line that isn't blank is answered
pub some_answered : (l : List ℕ) → is_blank l ≡ false → is_skipped l ≡ false
some_answered l some = and_left (is_blank l) (not (is_long l)) some

-- and so is one that is too long
pub long_answered : (l : List ℕ) → is_long l ≡ true → is_skipped l ≡ false
long_answered l long = and_right (is_blank l) (not (is_long l)) (ap not long)

-- another is skipped
pub blank_skipped : (l : List ℕ) → is_blank l ≡ true → length l ≤ LINE_LIMIT → is_skipped l ≡ true
blank_skipped l blank short =
    let fits : is_long l ≡ false = search rules in
    rw (blank, fits)

onto : (b : Bool) (x : ℕ × List ℕ) (xs ys : List (ℕ × List ℕ)) → cond b (xs ++ ys) (x ∷ (xs ++ ys)) ≡ cond b xs (x ∷ xs) ++ ys
onto true x xs ys = refl
onto false x xs ys = refl

-- the lines to answer of some lines, and then of others
pub to_answer_then : (n m : ℕ) (xs ys : List (List ℕ)) → m ≡ n + length xs → to_answer n (xs ++ ys) ≡ to_answer n xs ++ to_answer m ys
to_answer_then n m [] ys is = let same : n ≡ m = omega (arith, is) in ap (λ k. to_answer k ys) same
to_answer_then n m (x ∷ xs) ys is =
    let more = to_answer_then (n + 1) m xs ys (omega (arith, is)) in
    ap (λ l. cond (is_skipped x) l ((n, x) ∷ l)) more ∙ onto (is_skipped x) (n, x) (to_answer (n + 1) xs) (to_answer m ys)

-- the lines that turns answer, after those that others answered
pub answered_then : {S : Type 0} (n m : ℕ) (xs ys : List (Turn S)) (before behind : List (List ℕ)) → m ≡ n + length before
    → lines_answered xs ≡ to_answer n before → lines_answered ys ≡ to_answer m behind
    → lines_answered (xs ++ ys) ≡ to_answer n (before ++ behind)
answered_then n m xs ys before behind is a b = rw (map-append, a, b, to_answer_then n m before behind is)

-- ---- lines that are taken

nothing_taken : (p : List ℕ) (e : Bool) → IsTaken p e [] p
nothing_taken p e = record { lines = λ rest end. refl; whole = λ going tail. refl }

taken_then : (p q r : List ℕ) (e : Bool) (xs ys : List (List ℕ)) → IsTaken p e xs q → IsTaken q e ys r → IsTaken p e (xs ++ ys) r
taken_then p q r e xs ys a b = record {
  lines = λ rest end. rw (a.lines rest end, b.lines rest end, append_assoc);
  whole = λ going tail. rw (a.whole going tail, b.whole going tail, append_assoc);
}

-- a line of n bytes is at the front, with its line feed or at the end
abbrev pub IsFirst : List ℕ → Bool → ℕ → Type 0
IsFirst p e n = (n < length p) ⊎ ((n ≡ length p) × (0 < n) × (e ≡ true))

whole_one : (p tail : List ℕ) (e : Bool) (n : ℕ) → n ≡ line_len p → IsFirst p e n → e ≡ false
    → whole_lines (p ++ tail) ≡ take n p ∷ whole_lines (drop (n + 1) p ++ tail)
whole_one p tail e n len (inl more) going =
    subst (λ k. whole_lines (p ++ tail) ≡ take k p ∷ whole_lines (drop (k + 1) p ++ tail)) (len_is p ∙ sym len)
    (first p tail (omega (arith, len_is p, len, more))).1
whole_one p tail e n len (inr last) going = absurd (cc (going, last.2))

-- before any line is taken: all bytes are those that wait and the rest
pub start : (p rest : List ℕ) (e : Bool) → Walks (p ++ rest) [] p rest e
start p rest e = record { got = p; lines = refl; bytes = refl; whole = λ going tail. refl }

pub one_taken : (p : List ℕ) (e : Bool) (n : ℕ) → n ≡ line_len p → n ≤ length p → IsFirst p e n
    → IsTaken p e (take n p ∷ []) (drop (n + 1) p)
one_taken p e n len fits at_front = record {
  lines = λ rest end. (after_line (p ++ rest) [] p rest e n (start p rest e) len fits at_front end).lines;
  whole = λ going tail. whole_one p tail e n len at_front going;
}

-- ---- steps

module _ {S : Type 0} {answers : Answers S} {e : Bool} where
  -- no step: no line was taken and none was answered
  pub no_step : (p : Point S) → Advances answers e p p
  no_step p = record {
    turns = [];
    taken = [];
    are = tt;
    state_is = refl;
    lines_are = sym (append-nil p.lines);
    text_is = sym (append-nil p.text);
    count_is = omega arith;
    number_is = omega arith;
    answered = refl;
    taken_is = nothing_taken p.pending e;
  }

  -- some steps, and then others
  pub steps_then : {p q r : Point S} → Advances answers e p q → Advances answers e q r → Advances answers e p r
  steps_then {p} {q} {r} a b = record {
    turns = a.turns ++ b.turns;
    taken = a.taken ++ b.taken;
    are = turns_then answers p.state a.turns b.turns a.are (rw a.state_is at b.are);
    state_is = state_then p.state q.state r.state a.turns b.turns a.state_is b.state_is;
    lines_are = added_then p.lines q.lines r.lines a.turns b.turns a.lines_are b.lines_are;
    text_is = texts_then p.text q.text r.text a.turns b.turns a.text_is b.text_is;
    count_is = omega (arith, a.count_is, b.count_is, length-append a.turns b.turns);
    number_is = omega (arith, a.number_is, b.number_is, length-append a.taken b.taken);
    answered = answered_then p.number q.number a.turns b.turns a.taken b.taken a.number_is a.answered b.answered;
    taken_is = taken_then p.pending q.pending r.pending e a.taken b.taken a.taken_is b.taken_is;
  }

  module _ {p q : Point S} (n : ℕ) (len : n ≡ line_len p.pending) (fits : n ≤ length p.pending) (at_front : IsFirst p.pending e n) where
    -- a blank line is skipped
    pub skips : is_skipped (take n p.pending) ≡ true → q.state ≡ p.state → q.lines ≡ p.lines → q.text ≡ p.text
        → q.pending ≡ drop (n + 1) p.pending → q.number ≡ p.number + 1 → q.count ≡ p.count → Advances answers e p q
    skips skipped state lines text left number count = record {
      turns = [];
      taken = take n p.pending ∷ [];
      are = tt;
      state_is = state;
      lines_are = lines ∙ sym (append-nil p.lines);
      text_is = text ∙ sym (append-nil p.text);
      count_is = omega (arith, count);
      number_is = omega (arith, number);
      answered = sym (ap (λ b. cond b [] ((p.number, take n p.pending) ∷ [])) skipped);
      taken_is = rw left (one_taken p.pending e n len fits at_front);
    }

    -- a line is answered
    pub answers_one : {new : S} {lines_new batch batch_new : List (List ℕ)} {text_new : List ℕ} → is_skipped (take n p.pending) ≡ false
        → IsTurn answers p.state new p.lines lines_new batch batch_new p.number (take n p.pending) p.text text_new
        → q.state ≡ new → q.lines ≡ lines_new → q.text ≡ text_new → q.pending ≡ drop (n + 1) p.pending → q.number ≡ p.number + 1
        → q.count ≡ p.count + 1 → Advances answers e p q
    answers_one {new} some turn state lines text left number count = record {
      turns = record { number = p.number; line = take n p.pending; added = turn.added; text = turn.words; after = new } ∷ [];
      taken = take n p.pending ∷ [];
      are = (turn.answered, tt);
      state_is = state;
      lines_are = lines ∙ turn.lines_are ∙ ap (λ ls. p.lines ++ ls) (sym (append-nil turn.added));
      text_is = text ∙ turn.text_is ∙ ap (λ l. p.text ++ l) (sym (append-nil turn.words));
      count_is = omega (arith, count);
      number_is = omega (arith, number);
      answered = sym (ap (λ b. cond b [] ((p.number, take n p.pending) ∷ [])) some);
      taken_is = rw left (one_taken p.pending e n len fits at_front);
    }

-- ---- one batch

-- of turns and one after them, all but the last
all_but_last : {S : Type 0} (xs : List (Turn S)) (x : Turn S) → take (length (xs ++ x ∷ []) - 1) (xs ++ x ∷ []) ≡ xs
all_but_last xs x =
    let few : length (xs ++ x ∷ []) - 1 ≡ length xs = omega (arith, length-append xs (x ∷ [])) in
    ap (λ (n : ℕ). take n (xs ++ x ∷ [])) few ∙ take-append_seam xs (x ∷ [])

-- a batch whose turns are few has place for one turn more
one_more : {S : Type 0} (xs ys : List (Turn S)) → IsOneBatch xs → AreFew xs → length ys ≤ 1 → IsOneBatch (xs ++ ys)
one_more xs [] one few short = subst IsOneBatch (sym (append-nil xs)) one
one_more xs (y ∷ []) one few short = subst AreFew (sym (all_but_last xs y)) few
one_more xs (y ∷ z ∷ ys) one few short = absurd (omega (arith, short))

-- one turn alone is a batch
pub alone : {S : Type 0} (turns : List (Turn S)) → length turns ≤ 1 → IsOneBatch turns
alone turns short = one_more [] turns (omega arith, omega arith) (omega arith, omega arith) short

-- before the first line
pub none_yet : {S : Type 0} {answers : Answers S} {e : Bool} (p : Point S) → AdvancesByBatch answers e p p
unfolding no_step
none_yet p = (no_step p, (omega arith, omega arith))

module _ {S : Type 0} {answers : Answers S} {e : Bool} {p q : Point S} where
  -- if the bytes that wait are few, the turns that they come from are
  pub few_so_far : (batch : List ℕ) (a : Advances answers e p q) → q.lines ≡ p.lines ++ recovered batch → IsBatch batch → p.text ≡ []
      → length batch ≤ MOST_BATCHED → length q.text ≤ MOST_BATCHED → AreFew a.turns
  few_so_far batch a lines whole none few short =
      let same : lines_added a.turns ≡ recovered batch = append_cancel_left p.lines _ _ (sym a.lines_are ∙ lines) in
      let text : q.text ≡ texts a.turns = rw none at a.text_is in
      (rw (same, whole) few, rw text at short)

  -- a batch, and then one line
  pub batch_then : {r : Point S} (a : AdvancesByBatch answers e p q) → Advances answers e q r → AreFew a.0.turns → r.count ≤ q.count + 1
      → AdvancesByBatch answers e p r
  unfolding steps_then
  batch_then a b few one = (steps_then a.0 b, one_more a.0.turns b.turns a.1 few (omega (arith, b.count_is, one)))
