-- An order, followed through histories by the sites that record them.
use Rattle.std.specs.Prelude.{◌≡◌, ℕ, ◌+◌, ◌<◌, ◌≤◌, List, ◌++◌, length, map, take, Some, slice_get}
use Rattle.rb_money.specs.Settings.{Settings}
use Rattle.rb_site.specs.declared.entry.Entry.{Entry}
use Rattle.rb_site.specs.declared.message.Message.{Message}
use Rattle.rb_site.specs.Events.{sent_at}
use Rattle.rb_site.specs.Histories.{IsFrom}
use Rattle.rb_site.specs.Seen.{SeenSite, state_of}
use Rattle.rb_auditor.specs.Findings.{IsReplay}
use Rattle.rb_auditor.specs.Progress.{Progress}
use Rattle.rb_auditor.specs.Replays.{seen_at}

-- each history is one that its site records
abbrev pub AreReplays : Settings → List (List Entry) → Type 0
AreReplays s hs = (i : ℕ) (h : List Entry) → slice_get hs i ≡ Some h → IsReplay s i h

-- a site that recorded a prefix of the history
abbrev pub IsAlong : SeenSite → List Entry → Type 0
IsAlong x h = x.entries ≡ take (length x.entries) h

-- the site's next entry is taken: it may come, and what it sends comes after the messages before
pub record TakesNext (old new : SeenSite) (h : List Entry) (before after : List Message) : Type 0 where
  pub entry : Entry
  pub next : slice_get h (length old.entries) ≡ Some entry
  pub source : IsFrom before entry.event
  pub is : new ≡ seen_at old.settings old.me (take (length old.entries + 1) h)
  pub sends : after ≡ before ++ sent_at old.settings (state_of old) entry.event

-- there is a site for each history, and it recorded a prefix of that
pub record AreAlong (s : Settings) (hs : List (List Entry)) (xs : List SeenSite) : Type 0 where
  pub sites : length xs ≡ length hs
  pub each : (i : ℕ) (h : List Entry) (x : SeenSite) → slice_get hs i ≡ Some h → slice_get xs i ≡ Some x
      → x ≡ seen_at s i (take (length x.entries) h)

-- what these sites took in this order, and the messages that this sent
abbrev pub progress_of : Settings → List (List Entry) → List ℕ → List SeenSite → List Message → Progress
progress_of s hs order xs ms =
    record { settings = s; histories = hs; order = order; taken = map (λ (x : SeenSite). length x.entries) xs; messages = ms }

-- each site recorded its whole history
abbrev pub AreAtEnd : List (List Entry) → List SeenSite → Type 0
AreAtEnd hs xs = (i : ℕ) (h : List Entry) (x : SeenSite) → slice_get hs i ≡ Some h → slice_get xs i ≡ Some x
    → length h ≤ length x.entries

-- a site has an entry left
pub record IsBeforeEnd (hs : List (List Entry)) (xs : List SeenSite) : Type 0 where
  pub site : ℕ
  pub history : List Entry
  pub seen : SeenSite
  pub there : slice_get hs site ≡ Some history
  pub at : slice_get xs site ≡ Some seen
  pub less : length seen.entries < length history
