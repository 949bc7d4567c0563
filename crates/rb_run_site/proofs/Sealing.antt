-- Journals that are sealed, and why one isn't.
use Rattle.std.proofs.Common.{◌≡◌, ⊎_elim, inr, ℕ, true, List, [], ◌∷◌, ◌++◌, Option, sym, ◌∙◌, ap, subst}
use Rattle.std.specs.Prelude.{◌≢◌}
use Rattle.std.specs.List.{concat}
use Rattle.rb_lines.specs.Lines.{lines_of}
use Rattle.rb_journal.specs.Lines.{IsIntact, IsSealed, recovered}
use Rattle.rb_journal.proofs.Public.Seals.{untouched}
use Rattle.rb_node.specs.Asked.{SeenAsked}
use Rattle.rb_run_site.specs.Openings.{OpensSite}
use Rattle.rb_run_site.specs.Seals.{IsSealRun, StartsAlone, own_input}
use Rattle.rb_run_site.specs.Starts.{WaitsBehind}
use Rattle.rb_run_site.proofs.Behind.{starts}

-- some lines aren't none
no_more : (xs : List (List ℕ)) (x : List ℕ) (ys : List (List ℕ)) → [] ≡ xs ++ x ∷ ys → ⊥
no_more [] x ys none = absurd (cc (none))
no_more (y ∷ xs) x ys none = absurd (cc (none))

module _ (me : ℕ) (file config : List ℕ) (number : ℕ) (pending : List ℕ) (left : Option (List ℕ))
    (waits : WaitsBehind config number pending left (concat (recovered file))) where
  -- a journal that a configuration was read from has a line
  some_lines : recovered file ≢ []
  some_lines none =
      no_more waits.behind.blanks config (lines_of (pending ++ waits.rest))
      (ap (λ (ls : List (List ℕ)). lines_of (concat ls)) (sym none) ∙ waits.behind.whole)

  -- a site that was opened over a journal's own lines starts with it, and the journal isn't damaged
  pub starts_alone : (x : SeenAsked) (first sends : List ℕ) → OpensSite config me [] 0 file x first sends
      → StartsAlone me file × IsIntact file
  starts_alone x first sends opens = (
    record {
      start = x;
      starts = starts (record { all = true; me = me; bank = []; most = 0; input = own_input file })
          (record { file = file; output = [] }) number left config pending x first sends opens waits;
      lines_are = ⊎_elim (λ none. absurd (some_lines none.0)) (λ is. is) opens.journal;
    },
    ⊎_elim (λ new. absurd (some_lines new.0)) (λ at. at.1) opens.undamaged,
  )

module _ (file output c d : List ℕ) where
  -- nothing was changed of a file that isn't sealed
  pub unchanged_run : (IsSealed file → ⊥) → c ≡ file → d ≡ output → IsSealRun file output c d
  unchanged_run not same silent =
      let still = λ (f : List ℕ). IsSealRun file output f d in
      subst still (sym same)
      (inr (record { lines_are = λ i. recovered file; repaired = untouched file; intact = λ is. is; unsealed = not }), silent)
