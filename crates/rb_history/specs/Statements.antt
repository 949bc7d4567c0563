-- The text that is written for a statement.
use Rattle.std.specs.Prelude.{codes}
use Rattle.serde_json.specs.Data.{Data, boolean, string, array, object, no_items, item, member, no_members}
use Rattle.rb_statements.specs.declared.account.Statement.{Statement}
use Rattle.rb_statements.specs.declared.row.Row.{Row}
use Rattle.rb_history.specs.KindWords.{word_of}
use Rattle.rb_history.specs.Values.{number_json, integer_json, name_json, list_json}

-- a row: its position, name and kind, what it moved, whether it is cancelled, and the balance after it
abbrev pub row_json : Row → Data
row_json r = array (item (number_json r.position) (item (name_json r.name)
    (item (string (word_of r.kind)) (item (integer_json r.moved) (item (boolean r.cancelled) (item (number_json r.balance) no_items))))))

-- a statement: its balance, its rows and its start
abbrev pub statement_json : Statement → Data
statement_json t = object (member (codes "balance") (number_json t.balance)
    (member (codes "rows") (list_json row_json t.rows) (member (codes "start") (number_json t.start) no_members)))
