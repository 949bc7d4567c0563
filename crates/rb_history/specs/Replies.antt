-- The line of a reply: a JSON object with no space, its keys in byte order, and a line feed.
use Rattle.std.specs.Prelude.{ℕ, List, ◌++◌, codes, ⊤}
use Rattle.serde_json.specs.Data.{Data, string, object, member, no_members}
use Rattle.serde_json.specs.Written.{compact_text}
use Rattle.rb_money.specs.Refusals.{number_of_refusal}
use Rattle.rb_money.specs.declared.refusal.Cause.{Cause}
use Rattle.rb_money.specs.declared.refusal.Cause.TheVariants.{Declined as CauseDeclined, Refused as CauseRefused}
use Rattle.rb_money.specs.declared.refusal.Refusal.{Refusal}
use Rattle.rb_money.specs.declared.refusal.Refusal.TheVariants.{AlreadyCancelled, RedBehind, BatchRefused, BadMessage}
use Rattle.rb_shadow.specs.declared.op_name.OpName.{OpName}
use Rattle.rb_shadow.specs.declared.label.Label.{Label}
use Rattle.rb_site.specs.declared.reply.Reply.{Reply}
use Rattle.rb_site.specs.declared.reply.Reply.TheVariants.{Made, Names, Held, Already, Taken, Stale, Applied, Passed, Balance, Statement}
use Rattle.rb_site.specs.declared.reply.Reply.TheVariants.{Refused}
use Rattle.rb_history.specs.Statements.{statement_json}
use Rattle.rb_history.specs.KindWords.{word_of}
use Rattle.rb_history.specs.Values.{number_json, name_json, list_json, one_json}

-- an operation was made: its kind and its name
abbrev pub made_json : OpName → Label → Data
made_json name kind = object (member (codes "kind") (string (word_of kind)) (member (codes "name") (name_json name) no_members))

-- what stopped a batch: the word, or a refusal's number
abbrev pub cause_json : Cause → Data
cause_json CauseDeclined = string (codes "declined")
cause_json (CauseRefused n) = number_json n

-- already cancelled: the first cancellation's position
abbrev pub cancelled_json : ℕ → Data
cancelled_json position = object (member (codes "position") (number_json position) (member (codes "refused") (number_json 6) no_members))

-- too few red operations applied: how many are needed, and how many the site has seen
abbrev pub behind_json : ℕ → ℕ → Data
behind_json seen needed = object (member (codes "needed") (number_json needed)
    (member (codes "refused") (number_json 9) (member (codes "seen") (number_json seen) no_members)))

-- a batch refused: what stopped it, and at which request, from 0
abbrev pub batch_json : ℕ → Cause → Data
batch_json index cause = object (member (codes "cause") (cause_json cause)
    (member (codes "index") (number_json index) (member (codes "refused") (number_json 13) no_members)))

-- a bad message: what is wrong with it
abbrev pub message_json : ℕ → Data
message_json why = object (member (codes "refused") (number_json 17) (member (codes "why") (number_json why) no_members))

-- a refusal: its number, and what it holds besides
abbrev pub refusal_json : Refusal → Data
refusal_json (AlreadyCancelled position) = cancelled_json position
refusal_json (RedBehind seen needed) = behind_json seen needed
refusal_json (BatchRefused index cause) = batch_json index cause
refusal_json (BadMessage why) = message_json why
refusal_json r = one_json (codes "refused") (number_json (number_of_refusal r))

-- the JSON object of a reply
abbrev pub reply_json : Reply → Data
reply_json (Made name kind) = made_json name kind
reply_json (Names names) = one_json (codes "names") (list_json name_json names)
reply_json (Held name) = one_json (codes "held") (name_json name)
reply_json (Already name) = one_json (codes "already") (name_json name)
reply_json (Taken epoch) = one_json (codes "taken") (number_json epoch)
reply_json (Stale epoch) = one_json (codes "stale") (number_json epoch)
reply_json (Applied name) = one_json (codes "applied") (name_json name)
reply_json (Passed epoch) = one_json (codes "passed") (number_json epoch)
reply_json (Balance cents) = one_json (codes "balance") (number_json cents)
reply_json (Statement shown) = statement_json shown
reply_json (Refused why) = refusal_json why

-- the line of a reply
abbrev pub line : Reply → List ℕ
line r = compact_text (reply_json r) ++ codes "\n"

-- a reply whose line is short: neither names nor a statement
abbrev pub IsShortReply : Reply → Type 0
IsShortReply (Names _) = ⊥
IsShortReply (Statement _) = ⊥
IsShortReply _ = ⊤
