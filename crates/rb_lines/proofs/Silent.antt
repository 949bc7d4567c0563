-- If no line has an answer, nothing is buffered and nothing goes out.
use Rattle.std.proofs.Common.{◌≡◌, ◌≢◌, ◌<◌, ◌-◌, ℕ, List, [], ◌∷◌, ◌++◌, Option, Result, Ok, Err, ap, arith, length, refl, sym, subst, ◌∙◌}
use Rattle.std.specs.Io.KnownBytes.{Appends}
use Rattle.std.proofs.KnownBytes.{Appends-trans}
use Rattle.rb_lines.specs.Answers.{AnswersLine, IsSilent, LinesOutcome, RunState, after_text}
use Rattle.rb_lines.specs.Buffers.{Sends}
use Rattle.rb_lines.specs.declared.no_line.NoLine.{NoLine}
use Rattle.rb_lines.specs.declared.no_line.NoLine.TheVariants.{Write}

-- between two lines: the writer had w0 and has w
abbrev pub KeepsSilent : RunState → RunState → Option (List ℕ) → Option (List ℕ) → List ℕ → Type 0
KeepsSilent first s w0 w buffered = IsSilent first → IsSilent s × Appends w0 w [] × (buffered ≡ [])

both_none : (a b : List ℕ) → [] ≡ a ++ b → (a ≡ []) × (b ≡ [])
both_none [] [] e = (refl, refl)
both_none [] (y ∷ b) e = absurd (cc e)
both_none (x ∷ a) b e = absurd (cc e)

-- if nothing is buffered, no write fails
pub no_write : (why : NoLine) (buffered : List ℕ) → buffered ≡ [] → (why ≡ Write → 0 < length buffered) → why ≢ Write
no_write why buffered none some e =
    let less : 0 < length buffered = some e in let zero : length buffered ≡ 0 = ap length none in omega arith

-- one failure is for one reason
pub same_reason : {A E : Type 0} (d e : E) → ◌≡◌ {A = Result A E} (Err d) (Err e) → d ≡ e
same_reason d e same = cc

-- bytes more were read: nothing went out
pub silent_read : (first s : RunState) (w0 w w' : Option (List ℕ)) (buffered still : List ℕ) → KeepsSilent first s w0 w buffered
    → Sends w w' buffered still → KeepsSilent first s w0 w' still
silent_read first s w0 w w' buffered still kept sent silent =
    let (now, before, none) = kept silent in
    let parts = both_none sent.0 still (sym none ∙ sent.2) in
    (now, Appends-trans w0 w w' [] [] before (subst (λ t. Appends w w' t) parts.0 sent.1), parts.1)

no_text : (s s' : RunState) (l text : List ℕ) → IsSilent s → AnswersLine s s' l text → (ls : List (List ℕ))
    → (text ≡ []) × ((s'.rest ls).text ≡ [])
no_text s s' l text silent answered ls =
    both_none text _ (sym (silent (l ∷ ls)) ∙ ap (λ (o : LinesOutcome). o.text) (answered.follows ls))

-- what is buffered is what was: nothing
pub none_still : (after before : List ℕ) → after ≡ before → before ≡ [] → after ≡ []
none_still after before same none = same ∙ none

-- a line was answered, by no text
pub silent_line : (first s s' : RunState) (w0 w : Option (List ℕ)) (l buffered buffered' : List ℕ) → KeepsSilent first s w0 w buffered
    → (text : List ℕ) × (buffered' ≡ buffered ++ text) × AnswersLine s s' l text → KeepsSilent first s' w0 w buffered'
silent_line first s s' w0 w l buffered buffered' kept (text, is, answered) silent =
    let (now, before, none) = kept silent in (
      λ ls. (no_text s s' l text now answered ls).1,
      before,
      is ∙ ap (λ b. b ++ text) none ∙ (no_text s s' l text now answered []).0,
    )
