use Rattle.rb_ledger.proofs.Words.{ap, sym, ◌∙◌, ◌==◌, Place, Kind, other_of}
use Rattle.rb_ledger.proofs.LinkReads
use Rattle.rb_ledger.proofs.index.Index.is_on.Goals as goal

pub returns-then-eq : goal.returns-then-eq
returns-then-eq c = LinkReads.on_first _ c.args.entry.now c.args.place
    (ap (λ (a : Place). a.0 == c.args.place.0) (sym c.account.ensures) ∙ sym c.eq.ensures ∙ c.if-eq.true)

pub returns-in-Some : goal.returns-in-Some
returns-in-Some c = LinkReads.on_second _ c.args.entry.now c.args.place _ _
    (ap (λ (a : Place). a.0 == c.args.place.0) (sym c.account.ensures) ∙ sym c.eq.ensures
    ∙ c.if-eq.false) (c.in-Some.ensures ∙ ap (λ (k : Kind). other_of c.args.before.now k) c.kind.ensures) c.eq-in-Some.ensures

pub returns-in-None : goal.returns-in-None
returns-in-None c = LinkReads.on_none _ c.args.entry.now c.args.place
    (ap (λ (a : Place). a.0 == c.args.place.0) (sym c.account.ensures) ∙ sym c.eq.ensures ∙ c.if-eq.false)
    (c.in-None.ensures ∙ ap (λ (k : Kind). other_of c.args.before.now k) c.kind.ensures)
