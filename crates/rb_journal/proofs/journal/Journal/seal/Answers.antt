-- The file is the journal's lines, and then the seal.
use Rattle.std.proofs.Common.{◌≡◌, ap, sym, ◌∙◌}
use Rattle.rb_journal.specs.Lines.{recovered, sealed}
use Rattle.rb_journal.proofs.Public.Seals.{sealed_at, sealed_is, torn_seal}
use Rattle.rb_journal.proofs.Quiet.{read_as}
use Rattle.rb_journal.proofs.journal.Journal.seal.Goals as goal

pub returns-in-Ok-clause-sealed : goal.returns-in-Ok-clause-sealed
returns-in-Ok-clause-sealed g c = sealed_at _ _ _ c.requires.settled.file c.requires.settled.end c.in-Ok.ensures.written

pub returns-in-Ok-clause-is_sealed : goal.returns-in-Ok-clause-is_sealed
returns-in-Ok-clause-is_sealed g c =
    let file = g.H.Host.content c.args.self.host in
    let now : g.H.Host.content c.write_synced.new.host ≡ sealed (recovered file) =
    sealed_at _ _ _ c.requires.settled.file c.requires.settled.end c.in-Ok.ensures.written in
    let same : recovered (g.H.Host.content c.write_synced.new.host) ≡ recovered file = ap recovered now ∙ sealed_is file in
    (λ none. c.requires.lines (sym same ∙ none), now ∙ ap sealed (sym same))

pub returns-in-Ok-clause-any_moment : goal.returns-in-Ok-clause-any_moment
returns-in-Ok-clause-any_moment g c =
    read_as c.write_synced.ensures.quiet
    (λ f from. torn_seal _ from.0 f _ c.requires.settled.file c.requires.settled.end (c.requires.settled.durable from.0 from.1) from.2)

pub returns-in-Err-clause-any_moment_err : goal.returns-in-Err-clause-any_moment_err
returns-in-Err-clause-any_moment_err g c =
    read_as c.write_synced.ensures.quiet
    (λ f from. torn_seal _ from.0 f _ c.requires.settled.file c.requires.settled.end (c.requires.settled.durable from.0 from.1) from.2)
