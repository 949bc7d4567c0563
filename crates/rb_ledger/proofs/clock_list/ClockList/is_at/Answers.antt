use Rattle.rb_ledger.proofs.Words.{◌≡◌, ◌+◌, ◌-◌, ◌∷◌, [], List, Some, ℕ, ap, ◌∙◌, arith, get_or, length, take}
use Rattle.rb_ledger.proofs.Words.{slice_get, slice_set, get_or_from_slice_get, row_of}
use Rattle.rb_ledger.proofs.clock_list.ClockList.is_at.Goals as goal

-- a clock is the same but for an entry, if what is read of it is
same_at : (all : List (List ℕ)) (i w r n red : ℕ) (blue kept : List ℕ) → slice_get all i ≡ Some kept → length kept ≡ w + 1 →
    slice_set kept r n ≡ slice_set (red ∷ take (length kept - 1) blue) r n →
    slice_set (get_or all i []) r n ≡ slice_set (red ∷ take w blue) r n
same_at all i w r n red blue kept there long same =
    let sites : length kept - 1 ≡ w = omega (arith, long) in
    ap (λ ns. slice_set ns r n) (get_or_from_slice_get all i kept [] there)
    ∙ same
    ∙ ap (λ k. slice_set (red ∷ take k blue) r n) sites

pub returns-then-self-gt-FEW_SITES-clause-same : goal.returns-then-self-gt-FEW_SITES-clause-same
returns-then-self-gt-FEW_SITES-clause-same c = λ t n.
    same_at c.args.self.now.items c.args.index c.args.self.now.sites (row_of c.args.name) n c.args.deps.now.red c.args.deps.now.blue
    c.at-kept.result c.at-kept.ensures.counts c.at-kept.ensures.length (c.is_same.ensures.same t n)

pub returns-clause-same : goal.returns-clause-same
returns-clause-same c = λ t n.
    same_at c.args.self.now.items c.args.index c.args.self.now.sites (row_of c.args.name) n c.args.deps.now.red c.args.deps.now.blue
    c.at_of-kept.result c.at_of-kept.ensures.counts c.at_of-kept.ensures.length (c.is_same-2.ensures.same t n)
