-- One journal more is taken.
use Rattle.rb_runs.proofs.Words.{◌≡◌, ◌∙◌, ◌+◌, [], Err, ap, arith, refl, rules, subst, sym, ClosesAs}
use Rattle.rb_runs.proofs.TakenFiles.{nothing-taken}
use Rattle.rb_runs.proofs.books.run.take_all.Goals as goal

pub loop-site-init : goal.loop-site-init
loop-site-init g c = record {
  taken = nothing-taken c.args.closing.now c.args.ask.now _ c.requires.none c.requires.empty c.requires.unread;
  at = c.requires.none;
  journals = c.requires.journals;
  same = refl;
}

pub take_next-requires-clause-more : goal.take_next-requires-clause-more
take_next-requires-clause-more g c =
    let before = c.loop-site.invariant in omega (arith, c.loop-site-test.true, before.at, before.journals)

pub take_next-requires-clause-site : goal.take_next-requires-clause-site
take_next-requires-clause-site g c = sym c.loop-site.invariant.at

pub take_next-requires-clause-taken : goal.take_next-requires-clause-taken
take_next-requires-clause-taken g c = c.loop-site.invariant.taken

pub returns-in_err-take_next-clause-taken : goal.returns-in_err-take_next-clause-taken
returns-in_err-take_next-clause-taken g c =
    let fault = c.in_err-take_next.field-0.0 in
    let passed : c.from_residual.result ≡ Err fault = search rules in
    rw passed (subst (λ n. ClosesAs c.args.ask.now n (g.F.JournalFiles.read c.take_next.new.files) (Err fault) [])
    c.loop-site.invariant.journals c.in_err-take_next.ensures.taken)

pub loop-site-preserved : goal.loop-site-preserved
loop-site-preserved g c = let took = c.in_ok-take_next.ensures.taken in let before = c.loop-site.invariant in record {
  taken = took.0;
  at = took.1 ∙ ap (λ n. n + 1) before.at;
  journals = took.2 ∙ before.journals;
  same = c.take_next.ensures.same ∙ before.same;
}

pub returns-clause-taken : goal.returns-clause-taken
returns-clause-taken g c = let done = c.loop-site.invariant in
    let all : c.loop-site.closing.taken ≡ c.args.journals = omega (arith, done.at, c.loop-site-test.false, c.loop-site.auto.site-end) in
    (done.taken, all, done.journals)
