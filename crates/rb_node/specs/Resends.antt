-- The messages of entries, once more.
use Rattle.std.specs.Prelude.{ℕ, zero, suc, ◌-◌, List, [], ◌∷◌, ◌++◌, length}
use Rattle.rb_money.specs.Settings.{Settings}
use Rattle.rb_site.specs.declared.entry.Entry.{Entry}
use Rattle.rb_site.specs.declared.message.Message.{Message}
use Rattle.rb_site.specs.Events.{ModelSite, after_event, first_site, sent_at}
use Rattle.rb_site.specs.Seen.{SeenSite}
use Rattle.rb_node.specs.Answers.{sent_line}

-- the messages of entries, but for a number of the first: a line for each entry that sent any
abbrev pub resent : Settings → List ℕ → ModelSite → ℕ → List Entry → List ℕ
resent s bank t k [] = []
resent s bank t zero (x ∷ xs) = sent_line s bank (sent_at s t x.event) ++ resent s bank (after_event s t x.event) zero xs
resent s bank t (suc k) (x ∷ xs) = resent s bank (after_event s t x.event) k xs

-- the messages, if there are any
abbrev pub some_of : List Message → List (List Message)
some_of [] = []
some_of (m ∷ ms) = (m ∷ ms) ∷ []

-- the messages of each entry that sent any, but for a number of the first entries
abbrev pub senders : Settings → ModelSite → ℕ → List Entry → List (List Message)
senders s t k [] = []
senders s t zero (x ∷ xs) = some_of (sent_at s t x.event) ++ senders s (after_event s t x.event) zero xs
senders s t (suc k) (x ∷ xs) = senders s (after_event s t x.event) k xs

-- the messages of up to this number of a site's last entries
abbrev pub sent_again : List ℕ → ℕ → SeenSite → List ℕ
sent_again bank most x = resent x.settings bank (first_site x.me) (length x.entries - most) x.entries

-- how many of these entries sent any
abbrev pub count_again : ℕ → SeenSite → ℕ
count_again most x = length (senders x.settings (first_site x.me) (length x.entries - most) x.entries)
