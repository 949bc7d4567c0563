-- The index by which a site finds the messages of its entries.
use Rattle.std.specs.Prelude.{ℕ, suc, ◌-◌, List, [], ◌∷◌, ◌++◌, length, map, take, drop}
use Rattle.std.specs.List.{flat_map}
use Rattle.rb_money.specs.Settings.{Settings}
use Rattle.rb_shadow.specs.declared.shadow.Shadow.{Shadow}
use Rattle.rb_site.specs.declared.event.Event.{Event}
use Rattle.rb_site.specs.declared.message.Message.{Message}
use Rattle.rb_site.specs.declared.message.Message.TheVariants.{Shadow as ShadowMessage, Token as TokenOnItsWay}
use Rattle.rb_site.specs.Events.{ModelSite, after_event, first_site, sent_at}
use Rattle.rb_site.specs.Histories.{events_of}
use Rattle.rb_site.specs.Seen.{SeenSite}
use Rattle.rb_node.specs.Answers.{sent_line}
use Rattle.rb_node.specs.declared.sent_entry.Sending.{Sending}
use Rattle.rb_node.specs.declared.sent_entry.Sending.TheVariants.{Operations, Token}
use Rattle.rb_node.specs.declared.sent_entry.SentEntry.{SentEntry}

-- the messages of an entry: the operations from one number of them to another, or the token
abbrev pub messages_of : List Shadow → Sending → List Message
messages_of us (Operations first end) = map ShadowMessage (take (end - first) (drop first us))
messages_of us (Token m) = TokenOnItsWay m ∷ []

-- the note of an entry that has this number before it, and sent these messages while the site's operations grew from
-- one number of them to another: none if it sent none
abbrev pub noted_of : ℕ → ℕ → ℕ → List Message → List SentEntry
noted_of before first end [] = []
noted_of before first end (ShadowMessage v ∷ ms) = record { before = before; sent = Operations first end } ∷ []
noted_of before first end (TokenOnItsWay m ∷ ms) = record { before = before; sent = Token m } ∷ []

-- the index of the entries of these events, which have this number before them
abbrev pub index_from : Settings → ModelSite → ℕ → List Event → List SentEntry
index_from s t before [] = []
index_from s t before (e ∷ es) = noted_of before (length t.ops) (length (after_event s t e).ops) (sent_at s t e)
    ++ index_from s (after_event s t e) (suc before) es

-- the index of a site's history
abbrev pub index_of : SeenSite → List SentEntry
index_of x = index_from x.settings (first_site x.me) 0 (events_of x.entries)

-- the lines of the messages of entries, once more
abbrev pub lines_again : Settings → List ℕ → List Shadow → List SentEntry → List ℕ
lines_again s bank us xs = flat_map (λ x. sent_line s bank (messages_of us x.sent)) xs
