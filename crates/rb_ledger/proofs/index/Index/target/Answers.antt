use Rattle.rb_ledger.proofs.Words.{ap, ◌∙◌, unwrap_or, position_of}
use Rattle.rb_ledger.proofs.Overdraws
use Rattle.rb_ledger.proofs.index.Index.target.Goals as goal

pub returns-in-Some : goal.returns-in-Some
returns-in-Some c = λ us index. c.unwrap_or.ensures ∙ ap (λ o. unwrap_or o 0) (c.find.ensures us index)
    ∙ Overdraws.position_or_none us c.in-Some.target ∙ ap (position_of us) c.in-Some.ensures
