use Rattle.rb_ledger.proofs.Words.{ap, arith, sym, ◌∙◌, ◌-◌, length, slice_set, number_of, row_of, clock_of_counts}
use Rattle.rb_ledger.proofs.OperationTables
use Rattle.rb_ledger.proofs.counts.clock.Goals as goal

pub returns-then-from-len : goal.returns-then-from-len
returns-then-from-len c =
    let ns = c.args.kept.now in
    let d = c.kept_clock-deps.result in
    let i = c.in-Blue.site in
    ap (λ j. record { blue = slice_set d.blue j c.saturating_sub.result; red = d.red }) c.from-then-from-len.ensures
    ∙ ap (λ e. record { blue = slice_set d.blue i e; red = d.red }) c.saturating_sub.ensures
    ∙ OperationTables.own_blue ns d i (c.in-Blue.n - 1) c.kept_clock-deps.ensures.clock (omega (arith, c.from.ensures, c.if-from-len.true))
    ∙ ap (λ x. clock_of_counts (length ns - 1) (slice_set ns (row_of x) (number_of x - 1))) (sym c.in-Blue.is)

pub returns-in-Red : goal.returns-in-Red
returns-in-Red c =
    let ns = c.args.kept.now in
    let d = c.kept_clock-deps.result in
    ap (λ e. record { blue = d.blue; red = e }) c.saturating_sub-in-Red.ensures
    ∙ OperationTables.own_red ns d (c.in-Red.n - 1) c.kept_clock-deps.ensures.clock c.kept_clock-deps.ensures.some
    ∙ ap (λ x. clock_of_counts (length ns - 1) (slice_set ns (row_of x) (number_of x - 1))) (sym c.in-Red.is)
