use Rattle.std.proofs.Common.{◌≡◌, ◌∙◌, ℕ, List, [], ◌∷◌, ◌==◌, false, length, Some, None, sym, take}
use Rattle.std.proofs.lemmas.Bool.Decides.{Decides-eqb}
use Rattle.std.proofs.lemmas.Slice.Eq.{strip_prefix_is}
use Rattle.rb_run_site.proofs.Prefixes.{begins, others}
use Rattle.rb_run_site.proofs.entries.entries_in.Goals as goal

some : (l : List ℕ) → l ≡ [] → (length l == 0) ≡ false → ⊥
some [] e h = cc
some (b ∷ l) e h = cc

pub returns-in-Some : goal.returns-in-Some
returns-in-Some c =
    let lines = take c.args.end c.args.bytes.now in
    begins c.args.bytes.now c.args.first.now c.in-Some.entries.now c.requires.first.0 c.requires.first.1 c.requires.first.2
    (sym c.requires.end.1
    ∙ strip_prefix_is Decides-eqb lines c.args.first.now (Some c.in-Some.entries) c.in-Some.ensures.cases)

pub returns-in-None : goal.returns-in-None
returns-in-None c =
    let lines = take c.args.end c.args.bytes.now in
    let apart = strip_prefix_is Decides-eqb lines c.args.first.now None c.in-None.ensures.cases in
    others c.args.bytes.now c.args.first.now (λ rest e. apart rest (c.requires.end.1 ∙ e))
    (λ e. some lines (c.requires.end.1 ∙ e) (sym c.is_empty.ensures ∙ c.if-is_empty.false))
