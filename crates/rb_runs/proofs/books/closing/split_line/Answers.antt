-- The line and those after it.
use Rattle.rb_runs.proofs.Words.{◌≡◌, ◌+◌, ◌∷◌, sym, subst, take, take_rest, lines_of}
use Rattle.rb_runs.proofs.SplitLines.{split_there, split_all}
use Rattle.rb_runs.proofs.books.closing.split_line.Goals as goal

pub returns-in-Some-clause-split : goal.returns-in-Some-clause-split
returns-in-Some-clause-split c =
    let l = c.args.lines.now in
    let n = c.in-Some.n in
    subst (λ r. lines_of l ≡ take n l ∷ lines_of r) (sym (take_rest l (n + 1))) (split_there l n (sym c.in-Some.ensures))

pub returns-in-None-clause-split : goal.returns-in-None-clause-split
returns-in-None-clause-split c = split_all c.args.lines.now c.requires.some (sym c.in-None.ensures)
