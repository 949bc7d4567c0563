-- The answer to one line.
use Rattle.std.proofs.Common.{◌≡◌, ◌∙◌, ℕ, ◌+◌, false, List, [], ◌∷◌, ◌++◌, cond, refl, sym, ap, append-nil}
use Rattle.rb_journal.specs.Alone.{IsAnsweredAlone}
use Rattle.rb_journal.specs.Turns.{Answers, IsTurn, is_skipped, to_answer}

-- a turn of a line that isn't skipped, alone
pub one_turn : {S : Type 0} (answers : Answers S) (old new : S) (lines lines_new batch batch_new : List (List ℕ)) (number : ℕ)
    (line text text_new : List ℕ) → IsTurn answers old new lines lines_new batch batch_new number line text text_new → batch ≡ []
    → text ≡ [] → is_skipped line ≡ false → IsAnsweredAlone answers old new lines lines_new batch_new number line text_new
one_turn answers old new lines lines_new batch batch_new number line text text_new t none silent one =
    let adds : batch_new ≡ t.added = t.batch_is ∙ ap (λ b. b ++ t.added) none in
    record {
      turns = record { number = number; line = line; added = t.added; text = t.words; after = new } ∷ [];
      are = (t.answered, tt);
      these = sym (ap (λ b. cond b (to_answer (number + 1) []) ((number, line) ∷ to_answer (number + 1) [])) one);
      after = refl;
      batch_is = adds ∙ sym (append-nil t.added);
      lines_are = t.lines_are ∙ ap (λ b. lines ++ b) (sym adds);
      text_is = t.text_is ∙ ap (λ l. l ++ t.words) silent ∙ sym (append-nil t.words);
    }
