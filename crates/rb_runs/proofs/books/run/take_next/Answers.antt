-- One journal was taken, or isn't read, or is at fault, or its bank can't have the accounts.
use Rattle.rb_runs.proofs.Words.{◌≡◌, ◌∙◌, ◌<◌, ◌++◌, ◌∷◌, [], Bor, None, ap, arith, subst, sym, option_map, IsAddedFault, added_fault}
use Rattle.rb_money.specs.declared.config.Config.{Config}
use Rattle.rb_runs.proofs.TakenFiles.{config-is, fault-of, not-added, one-more-taken, still-added, unread}
use Rattle.rb_runs.proofs.books.run.take_next.Goals as goal

pub returns-in_default-clause-taken : goal.returns-in_default-clause-taken
returns-in_default-clause-taken g c = unread c.args.closing.now c.args.ask.now _ _ c.args.site c.requires.taken c.in_default.ensures.bytes
    c.requires.site c.requires.more

pub returns-in-Err-clause-taken : goal.returns-in-Err-clause-taken
returns-in-Err-clause-taken g c =
    fault-of c.args.closing.now c.args.ask.now _ _ c.deref.result.now c.args.site c.in-Err.fault c.requires.taken
    (c.in-Some.ensures.bytes ∙ ap (λ bytes. g.F.JournalFiles.read c.args.files.now ++ bytes ∷ []) (sym c.deref.ensures.value))
    c.requires.site c.in-Err.ensures

pub returns-then-site-gt0-clause-taken : goal.returns-then-site-gt0-clause-taken
returns-then-site-gt0-clause-taken g c =
    let took = c.in_default-take.ensures in
    let more = c.in-Some.ensures.bytes ∙ ap (λ bytes. g.F.JournalFiles.read c.args.files.now ++ bytes ∷ []) (sym c.deref.ensures.value) in
    let some : 0 < c.args.closing.now.taken = omega (arith, c.if-site-gt0.true, c.requires.site) in (
      one-more-taken c.args.closing.now c.take.new.self c.args.ask.now _ _ c.deref.result.now more c.requires.taken took
          (still-added c.args.closing.now c.take.new.self c.args.ask.now _ c.deref.result.now c.requires.taken took some),
      took.taken,
      took.journals,
    )

pub returns-in-Ok-clause-taken : goal.returns-in-Ok-clause-taken
returns-in-Ok-clause-taken g c =
    let took = c.in_default-take.ensures in
    let more = c.in-Some.ensures.bytes ∙ ap (λ bytes. g.F.JournalFiles.read c.args.files.now ++ bytes ∷ []) (sym c.deref.ensures.value) in
    let known = config-is (λ (x : Bor Config). x.now) c.config.result c.take.new.self.auditor took.bank took.is c.config.ensures in
    let added = subst (λ l. added_fault (option_map (λ (x : Bor Config). x.now) c.config.result) l ≡ None)
    c.added.ensures c.in-Ok.ensures in (
      one-more-taken c.args.closing.now c.take.new.self c.args.ask.now _ _ c.deref.result.now more c.requires.taken took
          (subst (λ o. added_fault o c.args.ask.now.added ≡ None) known added),
      took.taken,
      took.journals,
    )

pub returns-clause-taken : goal.returns-clause-taken
returns-clause-taken g c =
    let took = c.in_default-take.ensures in
    let more = c.in-Some.ensures.bytes ∙ ap (λ bytes. g.F.JournalFiles.read c.args.files.now ++ bytes ∷ []) (sym c.deref.ensures.value) in
    let known = config-is (λ (x : Bor Config). x.now) c.config.result c.take.new.self.auditor took.bank took.is c.config.ensures in
    let why = c.in-Err-check_added.why in
    let fault = subst (λ l. IsAddedFault (option_map (λ (x : Bor Config). x.now) c.config.result) l why)
    c.added.ensures c.in-Err-check_added.ensures in
    let first : c.args.closing.now.taken ≡ 0 = omega (arith, c.if-site-gt0.false, c.requires.site) in
    not-added c.args.closing.now c.take.new.self c.args.ask.now _ _ c.deref.result.now why c.requires.taken more first took
    (subst (λ o. IsAddedFault o c.args.ask.now.added why) known fault)
