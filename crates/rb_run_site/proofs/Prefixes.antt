-- The first line of a journal's file, and what is after it.
use Rattle.std.proofs.Common.{◌≡◌, ℕ, List, [], ◌∷◌, ◌++◌, refl, sym, ap, subst, ◌∙◌, append-nil}
use Rattle.std.specs.Prelude.{◌≢◌}
use Rattle.std.specs.List.{concat}
use Rattle.std.proofs.lemmas.List.{append_cancel_left}
use Rattle.rb_journal.specs.Lines.{IsBatch, IsLine, recovered}
use Rattle.rb_journal.proofs.Public.Lines.{line_alone, lines-append, recovered-append, still_lines}
use Rattle.rb_run_site.specs.Files.{BeginsWith, IsAnother}

-- the lines of a file's lines are the file's
again : (file : List ℕ) → recovered (concat (recovered file)) ≡ recovered file
again file = ap recovered (sym (append-nil (concat (recovered file)))) ∙ recovered-append file [] ∙ append-nil (recovered file)

-- the file's lines begin with a line: it is the first of them, and the others are those of what is after it
pub begins : (file first entries line : List ℕ) → IsLine line → first ≡ line ++ 10 ∷ [] → concat (recovered file) ≡ first ++ entries
    → BeginsWith file first entries
begins file first entries line is one lines =
    let alone : recovered first ≡ first ∷ [] = subst (λ f. recovered f ≡ f ∷ []) (sym one) (line_alone line is) in
    let batch : IsBatch first = subst IsBatch (sym one) (still_lines [] line refl is) in
    let parts : recovered file ≡ first ∷ recovered entries =
    sym (again file) ∙ ap recovered lines ∙ lines-append first entries batch ∙ ap (λ ls. ls ++ recovered entries) alone in
    (parts, append_cancel_left first (concat (recovered entries)) entries (ap concat (sym parts) ∙ lines))

-- they don't begin with it, and there are some: the file is another's
pub others : (file first : List ℕ) → ((rest : List ℕ) → concat (recovered file) ≢ first ++ rest) → concat (recovered file) ≢ []
    → IsAnother file first
others file first apart some = (
  λ later are. apart (concat later) (ap concat are),
  λ none. absurd (some (ap concat none)),
)
