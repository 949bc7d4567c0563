-- One event of a site.
use Rattle.std.specs.Prelude.{ℕ, Bool, if◌then◌else◌, not, ◌&&◌, nat_le, nat_lt, ◌==◌, List, [], ◌∷◌, ◌++◌, length, map}
use Rattle.std.specs.Prelude.{take, true, false, Option, Some, None}
use Rattle.rb_scratch.specs.declared.request.TheConstants.{MOST_REQUESTS}
use Rattle.rb_money.specs.Amounts.{cents}
use Rattle.rb_money.specs.Refusals.{and_then, unless}
use Rattle.rb_money.specs.Settings.{Settings, is_account}
use Rattle.rb_money.specs.declared.place.Place.{Place}
use Rattle.rb_money.specs.declared.refusal.Refusal.{Refusal}
use Rattle.rb_money.specs.declared.refusal.Refusal.TheVariants.{UnknownAccount, BadBatch, NotHeld, NotReady, InboxFull}
use Rattle.rb_money.specs.declared.refusal.Refusal.TheVariants.{BadMessage, Conflict, PositionBeyond, HistoryFull}
use Rattle.rb_shadow.specs.Labels.{label_of}
use Rattle.rb_shadow.specs.Operations.{bal, red_count, find_in, same_shadow, is_eligible}
use Rattle.rb_shadow.specs.Sound.{fault_of}
use Rattle.rb_shadow.specs.declared.op_name.OpName.{OpName}
use Rattle.rb_shadow.specs.declared.shadow.Shadow.{Shadow}
use Rattle.rb_ledger.specs.Checks.{refusal_of_sound}
use Rattle.rb_inbox.specs.Held.{with_held, without}
use Rattle.rb_scratch.specs.Batches.{batch_of, names_of_all}
use Rattle.rb_scratch.specs.Requests.{made_of}
use Rattle.rb_site.specs.declared.event.Event.{Event}
use Rattle.rb_site.specs.declared.event.Event.TheVariants.{Submit, Batch, Receive, Apply, Pass, Balance, AsOf, Statement as AskStatement}
use Rattle.rb_site.specs.declared.message.Message.{Message}
use Rattle.rb_site.specs.declared.message.Message.TheVariants.{Shadow as ShadowMessage, Token as TokenOnItsWay}
use Rattle.rb_site.specs.declared.reply.Reply.{Reply}
use Rattle.rb_site.specs.declared.reply.Reply.TheVariants.{Made, Names as NamesMade, Held, Already, Taken, Stale}
use Rattle.rb_site.specs.declared.reply.Reply.TheVariants.{Applied, Passed, Balance as BalanceIs}
use Rattle.rb_site.specs.declared.reply.Reply.TheVariants.{Statement as StatementIs, Refused}
use Rattle.rb_statements.specs.Statements.{statement_of}
use Rattle.rb_token.specs.Token.{Token, first_token, taken_token, passed_token, pass_message, refusal_of_pass, refusal_of_token, is_stale}
use Rattle.rb_token.specs.declared.message.TokenMessage.{TokenMessage}

-- ---- what a site is

-- a site: its number, the operations that it applied, in their order, those that it holds, one for each name and in the
-- order of the names, what it knows of the token, and its events
pub record ModelSite : Type 0 where
  pub me : ℕ
  pub ops : List Shadow
  pub held : List Shadow
  pub token : Token
  pub history : List Event

-- ---- what an event comes to

-- what an event comes to
pub data Outcome : Type 0 where
  Refuses : (why : Refusal) → Outcome
  -- what is held under the name can't be applied, and is let go
  Drops : (name : OpName) → (why : Refusal) → Outcome
  Answers : (reply : Reply) → Outcome
  -- the account's statement is shown
  Shows : (a : Place) → Outcome
  -- an operation is made here and sent
  Makes : (made : Shadow) → Outcome
  -- the operations of a batch are made here and sent, one after another
  MakesAll : (made : List Shadow) → Outcome
  Holds : (v : Shadow) → Outcome
  Applies : (v : Shadow) → Outcome
  Takes : (m : TokenMessage) → Outcome
  Passes : (m : TokenMessage) → Outcome

-- ---- shadows that are received or applied

-- what comes of a shadow whose name is known, by the one known: it is answered if it is the same, and refused as a
-- conflict if it is another; if none is known, what comes next
abbrev pub unless_known : Shadow → Option Shadow → Outcome → Outcome
unless_known v None next = next
unless_known v (Some u) next = if same_shadow u v then Answers (Already v.name) else Refuses Conflict

-- what comes of a shadow that isn't applied here: it is held, unless it is known or too many are held
abbrev pub outcome_of_new : Settings → ModelSite → Shadow → Outcome
outcome_of_new s t v =
    unless_known v (find_in t.held v.name)
    (if nat_le s.limits.inbox (length t.held) && not (is_eligible t.ops v) then Refuses InboxFull
    else Holds v)

-- a held operation that may not be applied stays while it isn't ready, and else is let go
abbrev pub outcome_of_check : Shadow → Option Refusal → Outcome
outcome_of_check v None = Applies v
outcome_of_check v (Some NotReady) = Refuses NotReady
outcome_of_check v (Some why) = Drops v.name why

-- ---- one event

-- what an event comes to at a site
unfoldable pub outcome_of : Settings → ModelSite → Event → Outcome
outcome_of s t (Submit r) = and_then Refuses (made_of s t.me t.ops t.token r) Makes
outcome_of s t (Batch rs) =
    if not (nat_le 1 (length rs) && nat_le (length rs) MOST_REQUESTS) then Refuses BadBatch
    else and_then Refuses (batch_of s t.me t.ops t.token 0 rs) MakesAll
outcome_of s t (Receive (ShadowMessage v)) =
    unless (λ why. Refuses (BadMessage why)) (fault_of s v)
    (unless_known v (find_in t.ops v.name)
    (if v.home == t.me then Refuses Conflict
    else outcome_of_new s t v))
outcome_of s t (Receive (TokenOnItsWay m)) =
    unless Refuses (refusal_of_token s.limits t.me m)
    (if is_stale t.token m then Answers (Stale m.epoch) else Takes m)
outcome_of s t (Apply x) =
    unless (λ v. if not (is_eligible t.ops v) then Refuses NotReady else outcome_of_check v (refusal_of_sound s t.ops v)) (find_in t.held x)
    (Refuses NotHeld)
outcome_of s t (Pass to) =
    unless Refuses (refusal_of_pass s.sites s.limits t.me t.token to)
    (Passes (pass_message t.token to (red_count t.ops)))
outcome_of s t (Balance a) = if not (is_account s a) then Refuses UnknownAccount else Answers (BalanceIs (cents (bal s t.ops a)))
outcome_of s t (AsOf a n) =
    if not (is_account s a) then Refuses UnknownAccount
    else if nat_lt (length t.ops) n then Refuses PositionBeyond
    else Answers (BalanceIs (cents (bal s (take n t.ops) a)))
outcome_of s t (AskStatement a) = if not (is_account s a) then Refuses UnknownAccount else Shows a

-- the messages that an outcome sends
abbrev pub sent_by : Outcome → List Message
sent_by (Makes v) = ShadowMessage v ∷ []
sent_by (MakesAll vs) = map ShadowMessage vs
sent_by (Passes m) = TokenOnItsWay m ∷ []
sent_by _ = []

-- the site after an outcome, but for its history
abbrev pub changed : ModelSite → Outcome → ModelSite
changed t (Drops x why) = record t { held = without x t.held }
changed t (Makes v) = record t { ops = t.ops ++ v ∷ [] }
changed t (MakesAll vs) = record t { ops = t.ops ++ vs }
changed t (Holds v) = record t { held = with_held v t.held }
changed t (Applies v) = record t { ops = t.ops ++ v ∷ []; held = without v.name t.held }
changed t (Takes m) = record t { token = taken_token m }
changed t (Passes m) = record t { token = passed_token t.token m }
changed t _ = t

-- whether an outcome changes more than the history
abbrev pub changes : Outcome → Bool
changes (Refuses why) = false
changes (Answers reply) = false
changes (Shows a) = false
changes _ = true

-- an outcome at a site whose history is full, or isn't: what changes more than the history is refused if it is full
abbrev pub unless_full : Bool → Outcome → Outcome
unless_full full o = if full && changes o then Refuses HistoryFull else o

-- the history has as many entries as the limit allows
abbrev pub is_full : Settings → ModelSite → Bool
is_full s t = nat_le s.limits.history (length t.history)

-- the site after an event
abbrev pub after_event : Settings → ModelSite → Event → ModelSite
after_event s t e = if is_full s t then t else record (changed t (outcome_of s t e)) { history = t.history ++ e ∷ [] }

-- what an event sends
abbrev pub sent_at : Settings → ModelSite → Event → List Message
sent_at s t e = if is_full s t then [] else sent_by (outcome_of s t e)

-- a site before any event. Site 0 has the token
abbrev pub first_site : ℕ → ModelSite
first_site me = record { me = me; ops = []; held = []; token = first_token me; history = [] }

-- a site after a list of events
abbrev pub after_events : Settings → ModelSite → List Event → ModelSite
after_events s t [] = t
after_events s t (e ∷ es) = after_events s (after_event s t e) es

-- ---- replies

-- the reply to an outcome, at a site that applied the operations us
abbrev pub reply_of : Settings → List Shadow → Outcome → Reply
reply_of s us (Refuses why) = Refused why
reply_of s us (Drops x why) = Refused why
reply_of s us (Answers reply) = reply
reply_of s us (Shows a) = StatementIs (statement_of s us a)
reply_of s us (Makes v) = Made v.name (label_of v.kind)
reply_of s us (MakesAll vs) = NamesMade (names_of_all vs)
reply_of s us (Holds v) = Held v.name
reply_of s us (Applies v) = Applied v.name
reply_of s us (Takes m) = Taken m.epoch
reply_of s us (Passes m) = Passed m.epoch

-- the reply to an event
abbrev pub reply_to : Settings → ModelSite → Event → Reply
reply_to s t e = if is_full s t then Refused HistoryFull else reply_of s t.ops (outcome_of s t e)

-- the replies to a list of events
abbrev pub replies_to_events : Settings → ModelSite → List Event → List Reply
replies_to_events s t [] = []
replies_to_events s t (e ∷ es) = reply_to s t e ∷ replies_to_events s (after_event s t e) es
