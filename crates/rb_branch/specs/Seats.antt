-- The effect of a call on a desk and on a seat.
use Rattle.std.specs.Prelude.{◌≡◌, ◌≢◌, ◌⊎◌, ℕ, ◌+◌, ◌≤◌, ◌<◌, ◌^◌, Bool, true, false, Option, Some, None, zero, suc}
use Rattle.std.specs.Prelude.{slice_get, drop, List, [], ◌∷◌, ◌++◌, length, All}
use Rattle.rb_money.specs.Settings.{Settings}
use Rattle.rb_money.specs.declared.limits.TheConstants.{MOST_SITES}
use Rattle.rb_branch.specs.declared.limits.TheConstants.{MOST_RECEIPTS, MOST_SEATS, RECEIPT_PARTS}
use Rattle.rb_branch.specs.declared.receipt.Receipt.{Receipt}
use Rattle.rb_shadow.specs.declared.op_name.OpName.{OpName}
use Rattle.rb_shadow.specs.declared.shadow.Shadow.{Shadow}
use Rattle.rb_site.specs.declared.event.Event.{Event}
use Rattle.rb_site.specs.declared.event.Event.TheVariants.{Receive, Apply}
use Rattle.rb_site.specs.declared.message.Message.{Message}
use Rattle.rb_money.specs.declared.refusal.Refusal.TheVariants.{InboxFull}
use Rattle.rb_site.specs.declared.reply.Reply.{Reply}
use Rattle.rb_site.specs.declared.reply.Reply.TheVariants.{Refused}
use Rattle.rb_site.specs.Events.{first_site, is_full, reply_to, sent_at}
use Rattle.rb_site.specs.Ready.{IsNextName}
use Rattle.rb_site.specs.Seen.{SeenSite, Replays, state_of, stepped}

-- ---- what is behind the locks

-- a seat, as clients see it: its site's number and its receipts
pub record SeenSeat : Type 0 where
  pub site : ℕ
  pub receipts : List Receipt

-- a desk's site is one of the branch's configuration, its history replays, is within its limit and has a length of 32
-- bits; its share of the entries is one part, whose amount is their number
pub record IsDesk (s : Settings) (site : SeenSite) (parts amount : ℕ) : Type 0 where
  pub settings : site.settings ≡ s
  pub within : site.me < s.sites
  pub replays : Replays s (first_site site.me) site.entries
  pub room : length site.entries ≤ s.limits.history
  pub few : length site.entries < 2 ^ 32
  pub one_part : parts ≡ 1
  pub counted : amount ≡ length site.entries

-- the reply of a receipt is what a site of this number answers to its event: one of the configuration, whose history
-- replays and is one shorter than the receipt's number
pub record IsSiteReply (s : Settings) (site : ℕ) (r : Receipt) : Type 0 where
  pub before : SeenSite
  pub settings : before.settings ≡ s
  pub me : before.me ≡ site
  pub replays : Replays s (first_site site) before.entries
  pub number : r.number ≡ length before.entries + 1
  pub reply : r.reply ≡ reply_to s (state_of before) r.event

-- a seat's site is one of the configuration's; its share of the receipts is one part, whose amount is their number; the
-- reply of each is what such a site answers
pub record IsSeat (s : Settings) (site : ℕ) (receipts : List Receipt) (parts amount : ℕ) : Type 0 where
  pub within : site < s.sites
  pub one_part : parts ≡ 1
  pub counted : amount ≡ length receipts
  pub few : length receipts ≤ MOST_RECEIPTS
  pub answered : All (IsSiteReply s site) receipts

-- there are as many entries as receipts; of the parts of the receipts each seat that was given has one, and the rest
-- counts nothing
pub record AreBooks (all seats entries receipts parts amount : ℕ) : Type 0 where
  pub same : entries ≡ receipts
  pub all_parts : all ≡ RECEIPT_PARTS
  pub rest : parts + seats ≡ all
  pub few : seats ≤ MOST_SEATS
  pub none : amount ≡ 0

-- a branch has a lock for each site of its configuration, and the entries a part for each
pub record IsBranch (s : Settings) (parts count : ℕ) : Type 0 where
  pub all : count ≡ s.sites
  pub all_parts : parts ≡ s.sites
  pub few : count ≤ MOST_SITES

-- ---- receipts

abbrev pub receipt : ℕ → Event → Reply → ℕ → Receipt
receipt n e r unsent = record { number = n; event = e; reply = r; unsent = unsent }

-- the receipt of a number, from 1
abbrev pub receipt_at : List Receipt → ℕ → Option Receipt
receipt_at rs zero = None
receipt_at rs (suc k) = slice_get rs k

-- one event at the desk, the given one. The seat has its receipt at the end: the new entry's number, the event and the
-- reply
pub record Records (old new : SeenSite) (event : Event) (before now : SeenSeat) (number : ℕ) (posted : List Message) : Type 0 where
  pub here : before.site ≡ old.me
  pub run : new ≡ stepped old event
  pub seat : now ≡ record before {
    receipts = before.receipts
        ++ receipt (length new.entries) event (reply_to old.settings (state_of old) event) 0 ∷ [];
  }
  pub number_is : number ≡ length now.receipts
  pub posted_is : posted ≡ sent_at old.settings (state_of old) event

-- why nothing is recorded, but for running out of memory: the seat is of another site, the history is full, or the seat
-- is
abbrev pub CannotRecord : SeenSite → SeenSeat → Type 0
CannotRecord desk seat = (seat.site ≢ desk.me) ⊎ ((is_full desk.settings (state_of desk) ≡ true) ⊎ (MOST_RECEIPTS ≤ length seat.receipts))

-- it holds of a site of the configuration, whose history replays and is within its limit
pub record AtDesk (s : Settings) (P : SeenSite → Type 0) : Type 0 where
  pub desk : SeenSite
  pub settings : desk.settings ≡ s
  pub within : desk.me < s.sites
  pub replays : Replays s (first_site desk.me) desk.entries
  pub room : length desk.entries ≤ s.limits.history
  pub holds : P desk

-- the event was recorded at a site of the configuration, whose history replays: the seat has its receipt, at this
-- number, and the messages are those that this site sends
abbrev pub IsCall : Settings → Event → SeenSeat → SeenSeat → ℕ → List Message → Type 0
IsCall s event before now number messages =
    AtDesk s (λ desk. Records desk (stepped desk event) event before now number messages)

-- some item of the list has the property
abbrev pub Any : {X : Type 0} → (X → Type 0) → List X → Type 0
Any P [] = ⊥
Any P (x ∷ xs) = P x ⊎ Any P xs

-- the message is one of these
abbrev pub IsOneOf : Message → List Message → Type 0
IsOneOf m kept = Any (λ k. m ≡ k) kept

-- a site of the configuration, whose history replays, sends the message with some event
abbrev pub IsSiteMessage : Settings → Message → Type 0
IsSiteMessage s m = AtDesk s (λ desk. (event : Event) × IsOneOf m (sent_at s (state_of desk) event))

-- a site of the configuration, whose history replays, can't record for the seat
abbrev pub CannotCall : Settings → SeenSeat → Type 0
CannotCall s seat = AtDesk s (λ desk. CannotRecord desk seat)

-- the seat has one receipt more, at its end, of such an event; the number is its position, from 1
pub record HasOneMore (old new : SeenSeat) (P : Event → Type 0) (number : ℕ) : Type 0 where
  pub last : Receipt
  pub seat : new ≡ record old { receipts = old.receipts ++ last ∷ [] }
  pub event_is : P last.event
  pub number_is : number ≡ length new.receipts

-- the next held operation that is ready at the site was applied there: the seat has its receipt, at this number
pub record AppliesNext (old new : SeenSite) (before now : SeenSeat) (number : ℕ) : Type 0 where
  pub name : OpName
  pub messages : List Message
  pub next : IsNextName (state_of old) name
  pub records : Records old new (Apply name) before now number messages

-- a held operation is to be applied
abbrev pub IsApply : Event → Type 0
IsApply (Apply x) = Unit {0}
IsApply _ = ⊥

-- an event that serves a site: a message comes, or a held operation is to be applied
abbrev pub IsServed : Event → Type 0
IsServed (Receive m) = Unit {0}
IsServed (Apply x) = Unit {0}
IsServed _ = ⊥

-- ---- messages that are kept

-- whether the reply is that the inbox is full
abbrev pub is_full_inbox : Reply → Bool
is_full_inbox (Refused InboxFull) = true
is_full_inbox _ = false

-- one of these receipts says that the message came and was refused, as the inbox was full
abbrev pub WasRefused : Message → List Receipt → Type 0
WasRefused m receipts = Any (λ r. (r.event ≡ Receive m) × (is_full_inbox r.reply ≡ true)) receipts

-- one of these receipts says that the message came, with another reply
abbrev pub WasReceived : Message → List Receipt → Type 0
WasReceived m receipts = Any (λ r. (r.event ≡ Receive m) × (is_full_inbox r.reply ≡ false)) receipts

-- each of the first n messages was refused, as the inbox was full, by one of these receipts
abbrev pub AreRefused : ℕ → List Message → List Receipt → Type 0
AreRefused n kept receipts = (i : ℕ) (m : Message) → i < n → slice_get kept i ≡ Some m → WasRefused m receipts

-- the receipts that a seat has more than it had
abbrev pub receipts_since : SeenSeat → SeenSeat → List Receipt
receipts_since old new = drop (length old.receipts) new.receipts

-- among all receipts from any one on: if those that the seat had before refused the first n messages that were kept
-- then, those that it has now refused the first m that are kept now
abbrev pub RefusesOn : ℕ → List Message → SeenSeat → ℕ → List Message → SeenSeat → Type 0
RefusesOn n before old m now new =
    (from : ℕ) → from ≤ length old.receipts → AreRefused n before (drop from old.receipts) → AreRefused m now (drop from new.receipts)

-- no message is lost: each that was kept, or was refused by one of these receipts as the inbox was full, is kept, or
-- was received by one of them with another reply
pub record NoneLost (old new : List Message) (receipts : List Receipt) : Type 0 where
  pub kept : (m : Message) → IsOneOf m old → IsOneOf m new ⊎ WasReceived m receipts
  pub refused : (m : Message) → WasRefused m receipts → IsOneOf m new ⊎ WasReceived m receipts

-- a message that came, if the receipt is of one, is what a site of the configuration sends
abbrev pub IsOfSiteMessage : Settings → Receipt → Type 0
IsOfSiteMessage s r = (m : Message) → r.event ≡ Receive m → IsSiteMessage s m

-- the seat has this number of receipts more, at its end, all of events that serve its site, by messages that sites
-- send; and no message is lost between these receipts and what the inlet kept before and keeps now
pub record HasServed (s : Settings) (old new : SeenSeat) (before now : List Message) (count : ℕ) : Type 0 where
  pub more : List Receipt
  pub seat : new ≡ record old { receipts = old.receipts ++ more }
  pub served : All (λ (r : Receipt). IsServed r.event) more
  pub sent : All (IsOfSiteMessage s) more
  pub count_is : count ≡ length more
  pub none_lost : NoneLost before now more

-- the last receipt says how many times a link refused one of its messages, and all else is as before
abbrev pub SetsUnsent : SeenSeat → SeenSeat → ℕ → Type 0
SetsUnsent old new count = (xs : List Receipt) (r : Receipt) → old.receipts ≡ xs ++ r ∷ []
    → new ≡ record old { receipts = xs ++ record r { unsent = count } ∷ [] }
