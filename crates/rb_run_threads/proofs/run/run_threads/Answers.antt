use Rattle.std.proofs.Common.{◌≡◌, inr, length, arith, sym, ◌∙◌}
use Rattle.rb_run_threads.proofs.Ran.{gathered, part_of_run, whole_run}
use Rattle.rb_run_threads.proofs.run.run_threads.Goals as goal

pub returns-in-Ok-write_text-clause-written : goal.returns-in-Ok-write_text-clause-written
returns-in-Ok-write_text-clause-written g c =
    let copy = c.in_ok-copy.copy in
    let reports = c.in-Ok.reports in
    let all : length reports.items ≡ copy.sites = omega (arith, reports.ok.0, c.in-Ok.ensures.all) in
    let are = gathered copy c.args.tellers c.args.seed reports.items all c.in-Ok.ensures.closed c.in-Ok.ensures.tellers in
    whole_run _ _ copy c.args.sites c.args.tellers c.args.seed _ (c.in_ok-copy.ensures.same ∙ c.in_ok-config.ensures) are
    (rw (sym c.in_ok-copy.ensures.same) at c.in-Ok-write_text.ensures.written)

pub returns-in-Err-Write-clause-written : goal.returns-in-Err-Write-clause-written
returns-in-Err-Write-clause-written g c =
    let copy = c.in_ok-copy.copy in
    let reports = c.in-Ok.reports in
    let all : length reports.items ≡ copy.sites = omega (arith, reports.ok.0, c.in-Ok.ensures.all) in
    let are = gathered copy c.args.tellers c.args.seed reports.items all c.in-Ok.ensures.closed c.in-Ok.ensures.tellers in
    part_of_run _ _ copy c.args.sites c.args.tellers c.args.seed _ (c.in_ok-copy.ensures.same ∙ c.in_ok-config.ensures) are
    (rw (sym c.in_ok-copy.ensures.same) at c.in-Err-Write.ensures.written)

pub returns-clause-written : goal.returns-clause-written
returns-clause-written g c =
    let copy = c.in_ok-copy.copy in
    let reports = c.in-Ok.reports in
    let all : length reports.items ≡ copy.sites = omega (arith, reports.ok.0, c.in-Ok.ensures.all) in
    let are = gathered copy c.args.tellers c.args.seed reports.items all c.in-Ok.ensures.closed c.in-Ok.ensures.tellers in
    let part =
    part_of_run _ _ copy c.args.sites c.args.tellers c.args.seed _ (c.in_ok-copy.ensures.same ∙ c.in_ok-config.ensures) are
    (rw (sym c.in_ok-copy.ensures.same) at c.in-Err-OutOfMemory-write_text.ensures.written) in
    (part.0, part.1, inr part.2)
