-- The place that is kept of a message.
use Rattle.std.specs.Prelude.{◌≡◌, List}
use Rattle.rb_shadow.specs.declared.shadow.Shadow.{Shadow}
use Rattle.rb_site.specs.declared.message.Message.{Message}
use Rattle.rb_site.specs.declared.message.Message.TheVariants.{Shadow as ShadowMessage, Token as TokenOnItsWay}
use Rattle.rb_site.specs.Events.{ModelSite}
use Rattle.rb_world.specs.declared.keeps_message.MessagePlace.{MessagePlace}
use Rattle.rb_world.specs.declared.keeps_message.MessagePlace.TheVariants.{Operation, Token}
use Rattle.rb_world.specs.Sent.{AreLonger, IsOperationAt}

-- the message can be had there: it has the operation at the place, or the token that is kept
abbrev pub IsAtPlace : List ModelSite → MessagePlace → Message → Type 0
IsAtPlace ts (Operation i n) m = (v : Shadow) × (m ≡ ShadowMessage v) × IsOperationAt ts i n v
IsAtPlace ts (Token k) m = m ≡ TokenOnItsWay k

-- what can be had at a place can be had there later
pub stays_at_place : (old new : List ModelSite) → AreLonger old new → (p : MessagePlace) (m : Message) → IsAtPlace old p m →
    IsAtPlace new p m
stays_at_place old new longer (Operation i n) m (v, is, at) = (v, is, longer i n v at)
stays_at_place old new longer (Token k) m is = is
