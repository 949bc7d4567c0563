use Rattle.rb_ledger.proofs.Words.{◌-◌, None, cond, ap, sym, ◌∙◌, slice_get, Book}
use Rattle.rb_money.proofs.Public.Tests
use Rattle.rb_ledger.proofs.ledger.Ledger.entry.Goals as goal

pub returns : goal.returns
returns c =
    c.get.ensures ∙ ap (λ (b : Book). slice_get b.entries c.in_ok-index.index) c.self.view_is
    ∙ ap (slice_get c.args.self.now.entries) c.in_ok-index.ensures.1
    ∙ sym (ap (λ b. cond b None (slice_get c.args.self.now.entries (c.args.position - 1))) (Tests.positive c.args.position
    c.in_ok-index.ensures.0))
