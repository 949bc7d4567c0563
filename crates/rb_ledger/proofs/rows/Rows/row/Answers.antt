use Rattle.rb_ledger.proofs.Words.{ap, ◌∙◌, Table}
use Rattle.rb_ledger.proofs.RowTables
use Rattle.rb_ledger.proofs.rows.Rows.row.Goals as goal

pub returns-in-Some : goal.returns-in-Some
returns-in-Some c = c.deref-in-Some.ensures.value ∙ RowTables.row_read _ _ _ c.args.row c.in-Some.row.now
    (ap (λ (t : Table). t.rows) c.self.view_is) c.deref.ensures.value c.in-Some.ensures.lookup.3.0 c.in-Some.ensures.lookup.1

pub returns-in-None : goal.returns-in-None
returns-in-None c = RowTables.row_past _ _ _ c.args.row (ap (λ (t : Table). t.rows) c.self.view_is) c.deref.ensures.value
    c.in-None.ensures.lookup.3
