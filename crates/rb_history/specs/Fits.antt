-- Entries that fit their lines: their numbers fit their types, and their places are known.
use Rattle.std.specs.Prelude.{◌≡◌, ◌⊎◌, ℕ, ℤ, pos, negsuc, ◌<◌, ◌^◌, List, [], ◌∷◌, length, drop, Some, ⊤}
use Rattle.serde_json.specs.Written.{compact_text}
use Rattle.rb_money.specs.Settings.{IsConfigured, Settings}
use Rattle.rb_money.specs.declared.limits.TheConstants.{MOST_SITES, MOST_SITES_OF_VERSION_1}
use Rattle.rb_money.specs.declared.place.Place.{Place}
use Rattle.rb_money.specs.declared.refusal.Cause.{Cause}
use Rattle.rb_money.specs.declared.refusal.Cause.TheVariants.{Declined as CauseDeclined, Refused as CauseRefused}
use Rattle.rb_money.specs.declared.refusal.Refusal.{Refusal}
use Rattle.rb_money.specs.declared.refusal.Refusal.TheVariants.{OutOfMemory, AlreadyCancelled, RedBehind, BatchRefused, BadMessage}
use Rattle.rb_scratch.specs.declared.request.Request.{Request}
use Rattle.rb_scratch.specs.declared.request.Request.TheVariants.{Deposit, Withdraw, Interest, Cancel, Transfer}
use Rattle.rb_shadow.specs.NameText.{IsName}
use Rattle.rb_shadow.specs.declared.kind.Kind.{Kind}
use Rattle.rb_shadow.specs.declared.kind.Kind.TheVariants.{Cancel as CancelKind, Transfer as TransferKind}
use Rattle.rb_shadow.specs.declared.shadow.Shadow.{Shadow}
use Rattle.rb_site.specs.declared.event.Event.{Event}
use Rattle.rb_site.specs.declared.event.Event.TheVariants.{Submit, Batch, Receive, Apply, Pass, Balance, AsOf, Statement}
use Rattle.rb_site.specs.declared.message.Message.TheVariants.{Shadow as ShadowMessage, Token as TokenOnItsWay}
use Rattle.rb_site.specs.declared.reply.Reply.{Reply}
use Rattle.rb_site.specs.declared.reply.Reply.TheVariants.{Made, Names, Held, Already, Taken, Stale, Applied, Passed, Balance as BalanceIs}
use Rattle.rb_site.specs.declared.reply.Reply.TheVariants.{Statement as StatementIs, Refused}
use Rattle.rb_statements.specs.declared.row.Row.{Row}
use Rattle.rb_history.specs.Entries.{asked_entry_json, asked_entry_of_line, asked_event_of_line, event_json}
use Rattle.rb_history.specs.Ids.{AskedEntry, IsAsked}
use Rattle.rb_money.specs.declared.place.TheConstants.Place.{NOWHERE}

-- the place of one of the configuration's accounts, or the one that no configuration has
abbrev pub IsKnown : Settings → Place → Type 0
IsKnown s a = (a.0 < length s.names) ⊎ (a ≡ NOWHERE)

-- each item of the list has the property
abbrev pub Each : {A : Type 0} → (A → Type 0) → List A → Type 0
Each P [] = ⊤
Each P (x ∷ xs) = P x × Each P xs

abbrev pub IsRequest : Settings → Request → Type 0
IsRequest s (Deposit a amount) = IsKnown s a × (amount < 2 ^ 64)
IsRequest s (Withdraw a amount) = IsKnown s a × (amount < 2 ^ 64)
IsRequest s (Interest a rate) = IsKnown s a × (rate < 2 ^ 32)
IsRequest s (Cancel x) = IsName x
IsRequest s (Transfer from to amount) = IsKnown s from × IsKnown s to × (amount < 2 ^ 64)

abbrev pub IsKind : Settings → Kind → Type 0
IsKind s (CancelKind x) = IsName x
IsKind s (TransferKind to) = IsKnown s to
IsKind s _ = ⊤

pub record IsShadow (s : Settings) (v : Shadow) : Type 0 where
  pub name : IsName v.name
  pub home : v.home < 2 ^ 8
  pub sites : length v.deps.blue ≡ MOST_SITES
  pub blue : Each (λ n. n < 2 ^ 32) v.deps.blue
  -- version 1 has no counts of further sites
  pub further : s.version ≡ 1 → Each (λ n. n ≡ 0) (drop MOST_SITES_OF_VERSION_1 v.deps.blue)
  pub red : v.deps.red < 2 ^ 32
  pub account : IsKnown s v.account
  pub amount : v.amount < 2 ^ 64
  pub kind : IsKind s v.kind

abbrev pub IsEvent : Settings → Event → Type 0
IsEvent s (Submit r) = IsRequest s r
IsEvent s (Batch rs) = Each (IsRequest s) rs
IsEvent s (Receive (ShadowMessage v)) = IsShadow s v
IsEvent s (Receive (TokenOnItsWay m)) = (m.epoch < 2 ^ 32) × (m.to < 2 ^ 8) × (m.red < 2 ^ 32)
IsEvent s (Apply x) = IsName x
IsEvent s (Pass to) = to < 2 ^ 8
IsEvent s (Balance a) = IsKnown s a
IsEvent s (AsOf a n) = IsKnown s a × (n < 2 ^ 32)
IsEvent s (Statement a) = IsKnown s a

-- the number fits an i64
abbrev pub IsMoved : ℤ → Type 0
IsMoved (pos n) = n < 2 ^ 63
IsMoved (negsuc n) = n < 2 ^ 63

abbrev pub IsStatementRow : Row → Type 0
IsStatementRow r = (r.position < 2 ^ 32) × IsName r.name × IsMoved r.moved × (r.balance < 2 ^ 64)

abbrev pub IsCause : Cause → Type 0
IsCause CauseDeclined = ⊤
IsCause (CauseRefused n) = n < 2 ^ 8

-- a refusal that a line may have: any but running out of memory, with numbers that fit their types
abbrev pub IsRefusal : Refusal → Type 0
IsRefusal OutOfMemory = ⊥
IsRefusal (AlreadyCancelled position) = position < 2 ^ 32
IsRefusal (RedBehind seen needed) = (seen < 2 ^ 32) × (needed < 2 ^ 32)
IsRefusal (BatchRefused index cause) = (index < 2 ^ 8) × IsCause cause
IsRefusal (BadMessage why) = why < 2 ^ 8
IsRefusal r = ⊤

abbrev pub IsReply : Reply → Type 0
IsReply (Made x kind) = IsName x
IsReply (Names xs) = Each IsName xs
IsReply (Held x) = IsName x
IsReply (Already x) = IsName x
IsReply (Taken n) = n < 2 ^ 32
IsReply (Stale n) = n < 2 ^ 32
IsReply (Applied x) = IsName x
IsReply (Passed n) = n < 2 ^ 32
IsReply (BalanceIs n) = n < 2 ^ 64
IsReply (StatementIs t) = (t.start < 2 ^ 64) × Each IsStatementRow t.rows × (t.balance < 2 ^ 64)
IsReply (Refused why) = IsRefusal why

-- the line of each entry of a site of the configuration is read as the entry with its id, if that fits
abbrev pub EntriesAreRead : Type 0
EntriesAreRead = (s : Settings) → IsConfigured s → (site : ℕ) (x : AskedEntry) → site < s.sites → IsEvent s x.entry.event
    → IsReply x.entry.reply → IsAsked x → asked_entry_of_line s (compact_text (asked_entry_json s site x)) ≡ Some (site, x)

-- the line of each event by itself is read as the event, if that fits
abbrev pub EventsAreRead : Type 0
EventsAreRead = (s : Settings) → IsConfigured s → (e : Event) → IsEvent s e
    → asked_event_of_line s (compact_text (event_json s e)) ≡ Some (record { id = []; event = e })

-- what is read from any line is an entry of a site of the configuration, and fits, and so does its id
abbrev pub ReadEntriesFit : Type 0
ReadEntriesFit = (s : Settings) (line : List ℕ) (site : ℕ) (x : AskedEntry) → asked_entry_of_line s line ≡ Some (site, x)
    → (site < s.sites) × IsEvent s x.entry.event × IsReply x.entry.reply × IsAsked x
