-- Refusals, and what comes if there is none.
use Rattle.std.specs.Prelude.{ℕ, Option, Some, None, Result, Ok, Err}
use Rattle.rb_money.specs.declared.refusal.Refusal.{Refusal}
use Rattle.rb_money.specs.declared.refusal.Refusal.TheVariants.{OutOfMemory, UnknownAccount, BadAmount, BadRate, UnknownOperation}
use Rattle.rb_money.specs.declared.refusal.Refusal.TheVariants.{NotCancellable, AlreadyCancelled, NumbersExhausted, NeedToken, RedBehind}
use Rattle.rb_money.specs.declared.refusal.Refusal.TheVariants.{WouldOverdraw, DeltaTooLarge, BadBatch, BatchRefused, NotHeld, NotReady}
use Rattle.rb_money.specs.declared.refusal.Refusal.TheVariants.{InboxFull, BadMessage, Conflict, NoMessage, NoSite, NotYours}
use Rattle.rb_money.specs.declared.refusal.Refusal.TheVariants.{PositionBeyond, HistoryFull, SameAccount}

-- what comes of a refusal, or of whatever else there may be, and if there is none what comes next
abbrev pub unless : {A E : Type 0} → (E → A) → Option E → A → A
unless refused (Some why) next = refused why
unless refused None next = next

-- what comes of a result: of its refusal, or else what comes next of it
abbrev pub and_then : {A B E : Type 0} → (E → B) → Result A E → (A → B) → B
and_then refused (Ok x) next = next x
and_then refused (Err why) next = refused why

-- a refusal's number
abbrev pub number_of_refusal : Refusal → ℕ
number_of_refusal OutOfMemory = 0
number_of_refusal UnknownAccount = 1
number_of_refusal BadAmount = 2
number_of_refusal BadRate = 3
number_of_refusal UnknownOperation = 4
number_of_refusal NotCancellable = 5
number_of_refusal (AlreadyCancelled position) = 6
number_of_refusal NumbersExhausted = 7
number_of_refusal NeedToken = 8
number_of_refusal (RedBehind seen needed) = 9
number_of_refusal WouldOverdraw = 10
number_of_refusal DeltaTooLarge = 11
number_of_refusal BadBatch = 12
number_of_refusal (BatchRefused index cause) = 13
number_of_refusal NotHeld = 14
number_of_refusal NotReady = 15
number_of_refusal InboxFull = 16
number_of_refusal (BadMessage why) = 17
number_of_refusal Conflict = 18
number_of_refusal NoMessage = 19
number_of_refusal NoSite = 20
number_of_refusal NotYours = 21
number_of_refusal PositionBeyond = 22
number_of_refusal HistoryFull = 23
number_of_refusal SameAccount = 24
