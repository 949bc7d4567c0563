-- Statements of accounts, and balances as of a position.
use Rattle.std.specs.Prelude.{ℕ, ◌+◌, if◌then◌else◌, not, nat_lt, List, [], ◌∷◌, ◌++◌, length, take, Result, Ok, Err, ◌+ℤ◌, neg_ℤ}
use Rattle.rb_money.specs.Amounts.{cents}
use Rattle.rb_money.specs.Settings.{Settings, is_account, start_of}
use Rattle.rb_money.specs.declared.place.Place.{Place}
use Rattle.rb_money.specs.declared.refusal.Refusal.{Refusal}
use Rattle.rb_money.specs.declared.refusal.Refusal.TheVariants.{UnknownAccount, PositionBeyond}
use Rattle.rb_shadow.specs.Labels.{label_of}
use Rattle.rb_shadow.specs.Operations.{is_cancelled, bal, is_on}
use Rattle.rb_shadow.specs.declared.shadow.Shadow.{Shadow}
use Rattle.rb_statements.specs.declared.row.Row.{Row}
use Rattle.rb_statements.specs.declared.account.Statement.{Statement}

-- the row of an operation, by the operations before it and the whole list
abbrev pub row_after : Settings → List Shadow → Place → List Shadow → Shadow → Row
row_after s all a before u =
    record {
      position = length before + 1;
      name = u.name;
      kind = label_of u.kind;
      moved = bal s (before ++ u ∷ []) a +ℤ neg_ℤ (bal s before a);
      cancelled = is_cancelled all u.name;
      balance = cents (bal s (before ++ u ∷ []) a);
    }

-- the rows of the operations after before, in the whole list: one for each that is on the account
abbrev pub rows_of : Settings → List Shadow → Place → List Shadow → List Shadow → List Row
rows_of s all a before [] = []
rows_of s all a before (u ∷ us) = (if is_on before u a then row_after s all a before u ∷ [] else [])
    ++ rows_of s all a (before ++ u ∷ []) us

-- the start, the rows and the balance of an account
unfoldable pub statement_of : Settings → List Shadow → Place → Statement
statement_of s us a = record { start = start_of s a; rows = rows_of s us a [] us; balance = cents (bal s us a) }

-- the balance of an account after the first n operations, or why there is none
abbrev pub balance_as_of : Settings → List Shadow → Place → ℕ → Result ℕ Refusal
balance_as_of s us a n =
    if not (is_account s a) then Err UnknownAccount
    else if nat_lt (length us) n then Err PositionBeyond
    else Ok (cents (bal s (take n us) a))
