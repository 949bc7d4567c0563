-- The verdict: the line that an audit, or closing the books, answers: a JSON object with no space, its keys in byte
-- order, and a line feed.
use Rattle.std.specs.Prelude.{ℕ, List, ◌++◌, codes}
use Rattle.serde_json.specs.Data.{Data, string, object, member, no_members}
use Rattle.serde_json.specs.Written.{compact_text}
use Rattle.rb_history.specs.Values.{list_json, name_json, number_json, one_json}
use Rattle.rb_shadow.specs.declared.op_name.OpName.{OpName}

-- the sites in the order in which their entries were taken
abbrev pub order_json : List ℕ → Data
order_json sites = one_json (codes "order") (list_json number_json sites)

-- the first entry that its site doesn't record: its position in the history, from 1, and its site
abbrev pub wrong_reply_json : ℕ → ℕ → Data
wrong_reply_json site event = object
    (member (codes "event") (number_json event)
    (member (codes "fault") (string (codes "reply")) (member (codes "site") (number_json site) no_members)))

-- each site's next entry, by its position from 1, if none of them can be taken
abbrev pub stuck_json : List ℕ → Data
stuck_json next = object (member (codes "fault") (string (codes "stuck")) (member (codes "next") (list_json number_json next) no_members))

-- of each site the operations that it lacks: of each home, and of the red ones, the first
abbrev pub open_json : List (List OpName) → Data
open_json lists = object
    (member (codes "fault") (string (codes "open")) (member (codes "lacks") (list_json (list_json name_json) lists) no_members))

-- the first account whose balance is above what an account may start with
abbrev pub limit_json : List ℕ → Data
limit_json name = object (member (codes "account") (string name) (member (codes "fault") (string (codes "limit")) no_members))

abbrev pub verdict_line : Data → List ℕ
verdict_line d = compact_text d ++ codes "\n"
