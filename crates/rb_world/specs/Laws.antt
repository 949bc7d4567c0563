-- Laws over every run.
use Rattle.std.specs.Prelude.{◌≡◌, ℕ, zero, suc, ◌+◌, if◌then◌else◌, ◌≤◌, Bool, true, false, List, [], ◌∷◌, ◌++◌, length, Some}
use Rattle.std.specs.Prelude.{slice_get, ◌⊎◌, ◌&&◌, pos, ◌≤ℤ◌, ◌-◌, take}
use Rattle.rb_money.specs.Settings.{Settings}
use Rattle.rb_money.specs.declared.limits.TheConstants.{MOST_SITES}
use Rattle.rb_money.specs.declared.place.Place.{Place}
use Rattle.rb_money.specs.declared.refusal.Refusal.TheVariants.{BadMessage, Conflict}
use Rattle.rb_shadow.specs.declared.shadow.Shadow.{Shadow}
use Rattle.rb_shadow.specs.Operations.{Agree, Among, AreSame, IsLawful, IsSerialization, IsUnique, IsWithin, bal}
use Rattle.rb_shadow.specs.Operations.{clock_of, names, names_of_clock, past}
use Rattle.rb_shadow.specs.Laws.{IsClosed, IsFunded, IsPart}
use Rattle.rb_ledger.specs.Records.{records_of}
use Rattle.rb_ledger.specs.Valid.{IsValid, parts_of}
use Rattle.rb_site.specs.declared.event.Event.{Event}
use Rattle.rb_site.specs.declared.event.Event.TheVariants.{Receive, Apply}
use Rattle.rb_site.specs.declared.message.Message.{Message}
use Rattle.rb_site.specs.declared.message.Message.TheVariants.{Shadow as ShadowMessage, Token as TokenOnItsWay}
use Rattle.rb_site.specs.declared.reply.Reply.{Reply}
use Rattle.rb_site.specs.declared.reply.Reply.TheVariants.{Held, Already, Applied, Refused}
use Rattle.rb_site.specs.declared.world_event.WorldEvent.{WorldEvent}
use Rattle.rb_site.specs.declared.world_event.WorldEvent.TheVariants.{At, Deliver}
use Rattle.rb_site.specs.Events.{ModelSite, after_event, after_events, first_site, is_full, replies_to_events, reply_to}
use Rattle.rb_site.specs.Worlds.{AreOwn, World, first_world, is_recorded, made_in, message_at, reply_in, world_after}
use Rattle.rb_site.specs.Worlds.{world_after_all, world_of_run}

-- what holds of each site of a world
abbrev pub EachSite : World → (ℕ → ModelSite → Type 0) → Type 0
EachSite w P = (i : ℕ) (t : ModelSite) → slice_get w.sites i ≡ Some t → P i t

-- the law holds of every world that a bank's own events lead to, in any configuration of 1 to MOST_SITES sites
abbrev pub Always : (Settings → World → Type 0) → Type 0
Always P = (s : Settings) (es : List WorldEvent) → 1 ≤ s.sites → s.sites ≤ MOST_SITES → AreOwn es
    → P s (world_after_all s (first_world s) es)

-- the last operation of us is undone, which leaves vs: it is the last of the list, and its record the last of the log
-- (`Ledger::undo`: `entries`; the log of a site has the records of its list, `Site::log`: `records`)
pub record IsUndone (s : Settings) (us vs : List Shadow) : Type 0 where
  pub last : Shadow
  pub list : us ≡ vs ++ last ∷ []
  pub log : records_of s us ≡ records_of s vs ++ parts_of s vs last ∷ []

-- that many operations are undone, each the last of what those before it left, which leaves vs
abbrev pub AreUndone : Settings → List Shadow → ℕ → List Shadow → Type 0
AreUndone s us zero vs = us ≡ vs
AreUndone s us (suc k) vs = (between : List Shadow) × AreUndone s us k between × IsUndone s between vs

-- at each site undoing an operation that was just applied, whatever it is, leaves the exact operations and records of
-- before, and so does undoing all after any position
pub record ExactReversal (s : Settings) (w : World) : Type 0 where
  pub there_and_back : EachSite w (λ i t. (v : Shadow) → IsUndone s (t.ops ++ v ∷ []) t.ops)
  pub tail : EachSite w (λ i t. (n : ℕ) → n ≤ length t.ops → AreUndone s t.ops (length t.ops - n) (take n t.ops))

-- at most one site has the token
abbrev pub OneToken : Settings → World → Type 0
OneToken s w = EachSite w (λ i t. t.token.held ≡ true → EachSite w (λ j u. u.token.held ≡ true → i ≡ j))

-- the operations made are a RedBlue order; each site's list is a causal serialization of some of them there, and has
-- all that were made there
pub record RedBlue (s : Settings) (w : World) : Type 0 where
  pub lawful : IsLawful (made_in w)
  pub serial : EachSite w (λ i t. IsSerialization i t.ops)
  pub made : EachSite w (λ i t. (v : Shadow) → Among v t.ops → Among v (made_in w))
  pub own : EachSite w (λ i t. (v : Shadow) → Among v (made_in w) → v.home ≡ i → Among v t.ops)

-- the names that a site applied are those of a clock
abbrev pub Clocks : Settings → World → Type 0
Clocks s w = EachSite w (λ i t. AreSame (names t.ops) (names_of_clock (clock_of t.ops)))

-- sites that applied the same operations agree
abbrev pub Agreement : Settings → World → Type 0
Agreement s w = EachSite w (λ i t. EachSite w (λ j u. AreSame (names t.ops) (names u.ops) → Agree s t.ops u.ops))

-- each balance has its source, in every part of the operations made that has the past of each of its own
abbrev pub Funds : Settings → World → Type 0
Funds s w = (vs : List Shadow) → IsPart vs (made_in w) → IsUnique vs → IsClosed vs → (a : Place) → IsFunded s (made_in w) vs a

-- each site's list is valid, so that a ledger may hold it
abbrev pub ValidLists : Settings → World → Type 0
ValidLists s w = EachSite w (λ i t. IsValid s t.ops)

-- no balance is negative
abbrev pub NeverNegative : Settings → World → Type 0
NeverNegative s w = EachSite w (λ i t. (a : Place) → pos 0 ≤ℤ bal s t.ops a)

-- no site is stuck: while its history isn't full, an operation that was made and whose past is there is held or known
-- when it is delivered, and applied when it is held
pub record NeverStuck (s : Settings) (w : World) : Type 0 where
  pub delivered : EachSite w (λ i t. is_full s t ≡ false → (v : Shadow) (k : ℕ) → message_at w.messages k ≡ Some (ShadowMessage v)
      → IsWithin (past v) (names t.ops)
      → (reply_in s w (Deliver i k) ≡ Held v.name) ⊎ (reply_in s w (Deliver i k) ≡ Already v.name))
  pub applied : EachSite w (λ i t. is_full s t ≡ false → (v : Shadow) → Among v t.held → IsWithin (past v) (names t.ops)
      → reply_in s w (At i (Apply v.name)) ≡ Applied v.name)

-- no delivery is refused as a bad message or as a conflict
abbrev pub TrustsItsOwn : Settings → World → Type 0
TrustsItsOwn s w = (i k : ℕ)
    → (reply_in s w (Deliver i k) ≡ Refused Conflict → ⊥) × ((why : ℕ) → reply_in s w (Deliver i k) ≡ Refused (BadMessage why) → ⊥)

-- what brings a site all that was sent: each operation that it lacks is delivered, in the order of the messages, and
-- applied
abbrev pub catching_up : ℕ → List Shadow → ℕ → List Message → List WorldEvent
catching_up i us k [] = []
catching_up i us k (ShadowMessage v ∷ ms) =
    if names us v.name then catching_up i us (k + 1) ms else Deliver i k ∷ At i (Apply v.name) ∷ catching_up i us (k + 1) ms
catching_up i us k (TokenOnItsWay m ∷ ms) = catching_up i us (k + 1) ms

-- while its history may have that many entries more, two events for each operation that a site lacks bring it all that
-- was made
abbrev pub CanCatchUp : Settings → World → Type 0
CanCatchUp s w = EachSite w (λ i t. length t.history + length (catching_up i t.ops 1 w.messages) ≤ s.limits.history
    → (u : ModelSite) → slice_get (world_after_all s w (catching_up i t.ops 1 w.messages)).sites i ≡ Some u
    → IsWithin (names (made_in w)) (names u.ops))

-- ---- forged messages, at one site

-- the reply is a refusal
abbrev pub is_refused : Reply → Bool
is_refused (Refused why) = true
is_refused _ = false

-- the event is the receipt of a message
abbrev pub is_receive : Event → Bool
is_receive (Receive m) = true
is_receive _ = false

-- the event is a receipt that the site refuses
abbrev pub is_refused_receive : Settings → ModelSite → Event → Bool
is_refused_receive s t e = is_receive e && is_refused (reply_to s t e)

-- a list of events without the receipts that the site refuses
abbrev pub without_refused : Settings → ModelSite → List Event → List Event
without_refused s t [] = []
without_refused s t (e ∷ es) =
    if is_refused_receive s t e then without_refused s (after_event s t e) es else e ∷ without_refused s (after_event s t e) es

-- the replies to a list of events, without those that refuse receipts
abbrev pub other_replies : Settings → ModelSite → List Event → List Reply
other_replies s t [] = []
other_replies s t (e ∷ es) =
    if is_refused_receive s t e then other_replies s (after_event s t e) es else reply_to s t e ∷ other_replies s (after_event s t e) es

-- two sites differ in their histories at most
pub record AreAlike (t u : ModelSite) : Type 0 where
  pub me : t.me ≡ u.me
  pub ops : t.ops ≡ u.ops
  pub held : t.held ≡ u.held
  pub token : t.token ≡ u.token

-- refused messages leave no trace but in the history
abbrev pub RefusedReceive : Type 0
RefusedReceive = (s : Settings) (me : ℕ) (es : List Event) → length es ≤ s.limits.history
    → AreAlike (after_events s (first_site me) (without_refused s (first_site me) es)) (after_events s (first_site me) es)
    × (replies_to_events s (first_site me) (without_refused s (first_site me) es) ≡ other_replies s (first_site me) es)

-- ---- all of them

-- what the headline says of every world that a bank's own events lead to
pub record Headline (s : Settings) (w : World) : Type 0 where
  pub exact_reversal : ExactReversal s w
  pub red_blue : RedBlue s w
  pub agreement : Agreement s w
  pub never_negative : NeverNegative s w

-- what else holds of it
pub record OtherLaws (s : Settings) (w : World) : Type 0 where
  pub one_token : OneToken s w
  pub clocks : Clocks s w
  pub funds : Funds s w
  pub valid_lists : ValidLists s w
  pub never_stuck : NeverStuck s w
  pub trusts_its_own : TrustsItsOwn s w
  pub can_catch_up : CanCatchUp s w

-- ---- a world as clients see it

-- its configuration, the model world, and the events that the sites recorded
pub record SeenWorld : Type 0 where
  pub settings : Settings
  pub world : World
  pub events : List WorldEvent

-- a world before any event
abbrev pub opened : Settings → SeenWorld
opened s = record { settings = s; world = first_world s; events = [] }

-- the world after one event. It lists the event if a site recorded it
abbrev pub next_world : SeenWorld → WorldEvent → SeenWorld
next_world w e =
    record {
      settings = w.settings;
      world = world_after w.settings w.world e;
      events = if is_recorded w.settings w.world e then w.events ++ e ∷ [] else w.events;
    }

-- the reply to one event
abbrev pub next_reply : SeenWorld → WorldEvent → Reply
next_reply w e = reply_in w.settings w.world e

-- the world after a list of events
abbrev pub next_worlds : SeenWorld → List WorldEvent → SeenWorld
next_worlds w [] = w
next_worlds w (e ∷ es) = next_worlds (next_world w e) es

-- the replies to a list of events
abbrev pub next_replies : SeenWorld → List WorldEvent → List Reply
next_replies w [] = []
next_replies w (e ∷ es) = next_reply w e ∷ next_replies (next_world w e) es

-- the world is the run of its own events
pub record IsRunOf (x : SeenWorld) : Type 0 where
  pub some_sites : 2 ≤ x.settings.sites
  pub few_sites : x.settings.sites ≤ MOST_SITES
  pub own : AreOwn x.events
  pub is : x.world ≡ world_of_run x.settings x.events
