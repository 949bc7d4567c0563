-- Sites that share nothing but messages.
use Rattle.std.specs.Prelude.{ℕ, zero, suc, Bool, false, List, [], ◌∷◌, ◌++◌, map, Option, Some, None, option_map}
use Rattle.std.specs.Prelude.{slice_get, slice_set, not, ◌&&◌, is_some}
use Rattle.std.specs.List.{range_with_len}
use Rattle.rb_money.specs.Settings.{Settings}
use Rattle.rb_money.specs.declared.refusal.Refusal.TheVariants.{NoMessage, NoSite}
use Rattle.rb_shadow.specs.declared.shadow.Shadow.{Shadow}
use Rattle.rb_token.specs.declared.message.TokenMessage.{TokenMessage}
use Rattle.rb_site.specs.declared.message.Message.{Message}
use Rattle.rb_site.specs.declared.message.Message.TheVariants.{Shadow as ShadowMessage, Token as TokenOnItsWay}
use Rattle.rb_site.specs.declared.event.Event.{Event}
use Rattle.rb_site.specs.declared.event.Event.TheVariants.{Receive}
use Rattle.rb_site.specs.declared.reply.Reply.{Reply}
use Rattle.rb_site.specs.declared.reply.Reply.TheVariants.{Refused}
use Rattle.rb_site.specs.declared.world_event.WorldEvent.{WorldEvent}
use Rattle.rb_site.specs.declared.world_event.WorldEvent.TheVariants.{At, Deliver}
use Rattle.rb_site.specs.Events.{ModelSite, reply_to, after_event, sent_at, first_site, is_full}

-- one site for each site number, and every message that was ever sent, in their order
pub record World : Type 0 where
  pub sites : List ModelSite
  pub messages : List Message

-- the operations in a list of messages: these were made
abbrev pub shadows_in : List Message → List Shadow
shadows_in [] = []
shadows_in (ShadowMessage v ∷ ms) = v ∷ shadows_in ms
shadows_in (TokenOnItsWay m ∷ ms) = shadows_in ms

-- the operations made so far
abbrev pub made_in : World → List Shadow
made_in w = shadows_in w.messages

-- the token messages
abbrev pub tokens_in : List Message → List TokenMessage
tokens_in [] = []
tokens_in (ShadowMessage v ∷ ms) = tokens_in ms
tokens_in (TokenOnItsWay m ∷ ms) = m ∷ tokens_in ms

-- the m-th message that was ever sent, from 1
abbrev pub message_at : List Message → ℕ → Option Message
message_at ms zero = None
message_at ms (suc k) = slice_get ms k

-- the world after an event that is brought to a site; if there is no such event, or no such site, nothing happens
abbrev pub world_at : Settings → World → ℕ → Option Event → Option ModelSite → World
world_at s w i None t = w
world_at s w i (Some e) None = w
world_at s w i (Some e) (Some t) = record { sites = slice_set w.sites i (after_event s t e); messages = w.messages ++ sent_at s t e }

-- the reply to an event that is brought to a site
abbrev pub reply_at : Settings → Option ModelSite → Option Event → Reply
reply_at s None e = Refused NoSite
reply_at s (Some t) None = Refused NoMessage
reply_at s (Some t) (Some e) = reply_to s t e

-- one event of the world: an event at a site, or a delivery, which brings it the receipt of a message that was sent
abbrev pub world_after : Settings → World → WorldEvent → World
world_after s w (At i e) = world_at s w i (Some e) (slice_get w.sites i)
world_after s w (Deliver i k) = world_at s w i (option_map Receive (message_at w.messages k)) (slice_get w.sites i)

-- the reply to an event of the world
abbrev pub reply_in : Settings → World → WorldEvent → Reply
reply_in s w (At i e) = reply_at s (slice_get w.sites i) (Some e)
reply_in s w (Deliver i k) = reply_at s (slice_get w.sites i) (option_map Receive (message_at w.messages k))

-- the world before any event
abbrev pub first_world : Settings → World
first_world s = record { sites = map first_site (range_with_len 0 s.sites); messages = [] }

-- the world after a list of events
abbrev pub world_after_all : Settings → World → List WorldEvent → World
world_after_all s w [] = w
world_after_all s w (e ∷ es) = world_after_all s (world_after s w e) es

-- the world after a list of events from the start
abbrev pub world_of_run : Settings → List WorldEvent → World
world_of_run s es = world_after_all s (first_world s) es

-- messages come by deliveries alone: no event at a site is a Receive
abbrev pub IsOwn : Event → Type 0
IsOwn (Receive m) = ⊥
IsOwn _ = Unit {0}

-- in a list of events, messages come by deliveries alone
abbrev pub AreOwn : List WorldEvent → Type 0
AreOwn [] = Unit {0}
AreOwn (At i e ∷ es) = IsOwn e × AreOwn es
AreOwn (Deliver i k ∷ es) = AreOwn es

-- an event that a world takes from outside: an event of a site's own, or a delivery
abbrev pub IsCommand : WorldEvent → Type 0
IsCommand (At i e) = IsOwn e
IsCommand (Deliver i k) = Unit {0}

-- what an event of the world brings to its site: an event of its own, or the receipt of the message
abbrev pub arrival : List Message → WorldEvent → Option Event
arrival ms (At i e) = Some e
arrival ms (Deliver i k) = option_map Receive (message_at ms k)

-- whether an event that is brought to a site is recorded there: there is such a site, and its history isn't full
abbrev pub is_recorded_at : Settings → Option ModelSite → Bool
is_recorded_at s None = false
is_recorded_at s (Some t) = not (is_full s t)

-- whether an event of the world is recorded: its site is there, its history isn't full, and a message that it delivers
-- was sent
abbrev pub is_recorded : Settings → World → WorldEvent → Bool
is_recorded s w (At i e) = is_recorded_at s (slice_get w.sites i)
is_recorded s w (Deliver i k) = is_recorded_at s (slice_get w.sites i) && is_some (message_at w.messages k)
