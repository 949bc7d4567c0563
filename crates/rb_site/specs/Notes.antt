-- A reply that is noted, so that it is both given and kept in the history; and whether a reply shows a change.
use Rattle.std.specs.Prelude.{◌≡◌, Bool, true, false, not, ◌&&◌, Option, Some, None}
use Rattle.rb_site.specs.declared.reply.Reply.{Reply}
use Rattle.rb_site.specs.declared.reply.Reply.TheVariants.{Already, Balance, Names, Refused, Stale, Statement}

-- the reply holds no memory: only names and a statement are lists
abbrev pub is_plain : Reply → Bool
is_plain (Names xs) = false
is_plain (Statement a) = false
is_plain _ = true

-- what is noted of a reply is that reply; or nothing, if it holds no memory or the history keeps no replies
abbrev pub IsNoted : Bool → Reply → Option Reply → Type 0
IsNoted keeps reply (Some noted) = noted ≡ reply
IsNoted keeps reply None = (not (is_plain reply) && keeps) ≡ false

-- whether the reply shows that the site has changed. A refusal does only if fewer are held than before: then one
-- that can't be applied was let go
abbrev pub shows_change : Bool → Reply → Bool
shows_change fewer (Already x) = false
shows_change fewer (Stale epoch) = false
shows_change fewer (Balance cents) = false
shows_change fewer (Statement rows) = false
shows_change fewer (Refused why) = fewer
shows_change fewer _ = true
