-- Which reply an object is.
use Rattle.std.specs.Prelude.{ℕ, ℤ, ◌^◌, ◌==◌, Bool, false, List, [], ◌∷◌, Option, Some, None, bytes_eq, codes, unwrap_or, if◌then◌else◌}
use Rattle.std.specs.Prelude.{option_and_then, option_map}
use Rattle.serde_json.specs.Data.{Data, Items, no_items, item}
use Rattle.serde_json.specs.Find.{get, as_array, as_bool, as_i64, as_number, as_str}
use Rattle.rb_money.specs.Refusals.{number_of_refusal}
use Rattle.rb_money.specs.declared.refusal.Cause.{Cause}
use Rattle.rb_money.specs.declared.refusal.Cause.TheVariants.{Declined as CauseDeclined, Refused as CauseRefused}
use Rattle.rb_money.specs.declared.refusal.Refusal.{Refusal}
use Rattle.rb_money.specs.declared.refusal.Refusal.TheVariants.{UnknownAccount, BadAmount, BadRate, UnknownOperation, NotCancellable}
use Rattle.rb_money.specs.declared.refusal.Refusal.TheVariants.{AlreadyCancelled, NumbersExhausted, NeedToken, RedBehind, WouldOverdraw}
use Rattle.rb_money.specs.declared.refusal.Refusal.TheVariants.{DeltaTooLarge, BadBatch, BatchRefused, NotHeld, NotReady, InboxFull}
use Rattle.rb_money.specs.declared.refusal.Refusal.TheVariants.{BadMessage, Conflict, NoMessage, NoSite, NotYours, PositionBeyond}
use Rattle.rb_money.specs.declared.refusal.Refusal.TheVariants.{HistoryFull, SameAccount}
use Rattle.rb_shadow.specs.declared.op_name.OpName.{OpName}
use Rattle.rb_site.specs.declared.reply.Reply.{Reply}
use Rattle.rb_site.specs.declared.reply.Reply.TheVariants.{Made, Names, Held, Already, Taken, Stale, Applied, Passed, Balance, Statement}
use Rattle.rb_site.specs.declared.reply.Reply.TheVariants.{Refused}
use Rattle.rb_statements.specs.declared.row.Row.{Row}
use Rattle.rb_history.specs.Values.{either, name_at, number_below, size_of}
use Rattle.rb_history.specs.Fields.{field, label_at, six_of}

-- ---- refusals

-- the value is the word "declined"
abbrev pub is_word_declined : Data → Bool
is_word_declined d = unwrap_or (option_map (λ word. bytes_eq word (codes "declined")) (as_str d)) false

-- what stopped a batch: that word, or any number below 2^8
abbrev pub cause_at : Data → Option Cause
cause_at d = if is_word_declined d then Some CauseDeclined else option_map CauseRefused (number_below (2 ^ 8) d)

-- already cancelled, from an object of two members
abbrev pub cancelled_of : Data → Option Refusal
cancelled_of d = if size_of d == 2 then option_map AlreadyCancelled (field (codes "position") (number_below (2 ^ 32)) d) else None

-- too few red operations applied, from an object of three members
abbrev pub behind_of : Data → Option Refusal
behind_of d = if size_of d == 3 then option_and_then
    (λ seen. option_map (RedBehind seen) (field (codes "needed") (number_below (2 ^ 32)) d))
    (field (codes "seen") (number_below (2 ^ 32)) d) else None

-- a batch refused, from an object of three members
abbrev pub refused_batch_parsed : Data → Option Refusal
refused_batch_parsed d = if size_of d == 3 then option_and_then
    (λ index. option_map (BatchRefused index) (field (codes "cause") cause_at d)) (field (codes "index") (number_below (2 ^ 8)) d) else None

-- a bad message, from an object of two members
abbrev pub bad_message_parsed : Data → Option Refusal
bad_message_parsed d = if size_of d == 2 then option_map BadMessage (field (codes "why") (number_below (2 ^ 8)) d) else None

-- the refusals that are written as their numbers alone; running out of memory is written in no line
abbrev pub plain_refusals : List Refusal
plain_refusals = UnknownAccount ∷ BadAmount ∷ BadRate ∷ UnknownOperation ∷ NotCancellable ∷ NumbersExhausted ∷ NeedToken ∷ WouldOverdraw
    ∷ DeltaTooLarge ∷ BadBatch ∷ NotHeld ∷ NotReady ∷ InboxFull ∷ Conflict ∷ NoMessage ∷ NoSite ∷ NotYours ∷ PositionBeyond ∷ HistoryFull
    ∷ SameAccount ∷ []

-- the first refusal of a list that has the number
abbrev pub find_refusal : ℕ → List Refusal → Option Refusal
find_refusal n [] = None
find_refusal n (r ∷ rs) = if number_of_refusal r == n then Some r else find_refusal n rs

-- a refusal that is written as its number alone, from an object of one member
abbrev pub plain_of : Data → ℕ → Option Refusal
plain_of d n = if size_of d == 1 then find_refusal n plain_refusals else None

-- the refusal of this number that an object is read as
abbrev pub refusal_parsed : Data → ℕ → Option Refusal
refusal_parsed d n = if n == 6 then cancelled_of d
    else (if n == 9 then behind_of d
    else (if n == 13 then refused_batch_parsed d else (if n == 17 then bad_message_parsed d else plain_of d n)))

-- ---- the other replies

-- the names of a list, in its order
abbrev pub names_in : Items → Option (List OpName)
names_in no_items = Some []
names_in (item d ds) = option_and_then (λ x. option_map (λ later. x ∷ later) (names_in ds)) (name_at d)

abbrev pub names_at : Data → Option (List OpName)
names_at d = option_and_then names_in (as_array d)

-- the whole number, with a sign or none, that fits 64 bits
abbrev pub moved_parsed : Data → Option ℤ
moved_parsed d = option_and_then as_i64 (as_number d)

-- a row, from the list of its position, name and kind, what it moved, whether it is cancelled, and the balance after it
abbrev pub row_at : Data → Option Row
row_at d =
    option_and_then (λ p. option_and_then
    (λ position. option_and_then (λ name. option_and_then
    (λ kind. option_and_then (λ moved. option_and_then (λ cancelled. option_map (λ balance.
    record { position = position; name = name; kind = kind; moved = moved; cancelled = cancelled; balance = balance })
    (number_below (2 ^ 64) p.5))
    (as_bool p.4))
    (moved_parsed p.3))
    (label_at p.2))
    (name_at p.1))
    (number_below (2 ^ 32) p.0))
    (six_of d)

-- the rows of a list, in its order
abbrev pub rows_in : Items → Option (List Row)
rows_in no_items = Some []
rows_in (item d ds) = option_and_then (λ r. option_map (λ later. r ∷ later) (rows_in ds)) (row_at d)

abbrev pub rows_at : Data → Option (List Row)
rows_at d = option_and_then rows_in (as_array d)

-- the reply of one name or one number that an object is read as, by its key
abbrev pub simple_of : Data → Option Reply
simple_of d = either (get (codes "held") d) (λ x. option_map Held (name_at x))
    (either (get (codes "already") d) (λ x. option_map Already (name_at x))
    (either (get (codes "taken") d) (λ n. option_map Taken (number_below (2 ^ 32) n))
    (either (get (codes "stale") d) (λ n. option_map Stale (number_below (2 ^ 32) n))
    (either (get (codes "applied") d) (λ x. option_map Applied (name_at x))
    (either (get (codes "passed") d) (λ n. option_map Passed (number_below (2 ^ 32) n))
    (option_map Balance (field (codes "balance") (number_below (2 ^ 64)) d)))))))

-- the reply of an object of one member
abbrev pub short_of : Data → Option Reply
short_of d = either (get (codes "names") d) (λ list. option_map Names (names_at list)) (simple_of d)

-- an operation that was made, of two members
abbrev pub made_parsed : Data → Option Reply
made_parsed d = option_and_then (λ name. option_map (Made name) (field (codes "kind") label_at d)) (field (codes "name") name_at d)

-- a statement, of three members
abbrev pub statement_parsed : Data → Option Reply
statement_parsed d = option_and_then (λ start. option_and_then (λ balance. option_map (λ rows.
    Statement (record { start = start; rows = rows; balance = balance }))
    (field (codes "rows") rows_at d))
    (field (codes "balance") (number_below (2 ^ 64)) d))
    (field (codes "start") (number_below (2 ^ 64)) d)

-- the reply that is no refusal
abbrev pub answer_of : Data → Option Reply
answer_of d = if size_of d == 1 then short_of d
    else (if size_of d == 2 then made_parsed d else (if size_of d == 3 then statement_parsed d else None))

-- the reply that an object is
abbrev pub reply_parsed : Data → Option Reply
reply_parsed d = either (get (codes "refused") d) (λ n. option_map Refused (option_and_then (refusal_parsed d) (number_below (2 ^ 8) n)))
    (answer_of d)
