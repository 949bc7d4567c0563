-- Sites after replays, and entries that they record.
use Rattle.std.specs.Prelude.{◌≡◌, ℕ, ◌+◌, false, List, [], ◌∷◌, ◌++◌}
use Rattle.rb_money.specs.Settings.{Settings}
use Rattle.rb_site.specs.declared.entry.Entry.{Entry}
use Rattle.rb_site.specs.declared.message.Message.{Message}
use Rattle.rb_site.specs.Events.{is_full, sent_at}
use Rattle.rb_site.specs.Seen.{IsReplayed, SeenSite, state_of}

-- the site of these entries
abbrev pub seen_at : Settings → ℕ → List Entry → SeenSite
seen_at s i h = record { settings = s; me = i; entries = h }

-- the sites of these histories, from this site on
abbrev pub ended_sites : Settings → ℕ → List (List Entry) → List SeenSite
ended_sites s i [] = []
ended_sites s i (h ∷ hs) = seen_at s i h ∷ ended_sites s (i + 1) hs

-- the site records the entry, and what it sends comes after the messages before
pub record RecordsEntry (old new : SeenSite) (x : Entry) (before after : List Message) : Type 0 where
  pub free : is_full old.settings (state_of old) ≡ false
  pub is : new ≡ record old { entries = old.entries ++ x ∷ [] }
  pub replays : IsReplayed new
  pub sends : after ≡ before ++ sent_at old.settings (state_of old) x.event
