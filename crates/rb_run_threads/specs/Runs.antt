-- The outcome of a run of tellers, and the text that was written by its end.
use Rattle.std.specs.Prelude.{◌≡◌, ◌⊎◌, ℕ, List, [], length, Some, slice_get, Result, Ok, Err}
use Rattle.rb_money.specs.Settings.{Settings}
use Rattle.rb_site.specs.declared.entry.Entry.{Entry}
use Rattle.rb_site.specs.Seen.{IsReplayed}
use Rattle.rb_run_threads.specs.Tellers.{TellersAt}
use Rattle.rb_lines.specs.Writes.{IsFront}
use Rattle.rb_lines.specs.declared.fault.ScriptFault.{ScriptFault}
use Rattle.rb_lines.specs.declared.fault.ScriptFault.TheVariants.{Write, OutOfMemory, Gather}
use Rattle.rb_run_threads.specs.Bank.{bank_of}
use Rattle.rb_runs.specs.Texts.{text_of}

-- the histories of a run with this number of tellers, one for each site: it is its own replay, and but for what was
-- received and applied it is what the site's tellers did, interleaved
pub record AreTellers (s : Settings) (tellers seed : ℕ) (hs : List (List Entry)) : Type 0 where
  pub each_site : length hs ≡ s.sites
  pub replays : (k : ℕ) (h : List Entry) → slice_get hs k ≡ Some h → IsReplayed (record { settings = s; me = k; entries = h })
  pub tellers_at : (k : ℕ) (h : List Entry) → slice_get hs k ≡ Some h → TellersAt seed tellers s.sites k h

-- the text is the lines of a configuration and of the histories of a run of tellers
pub record IsRun (sites tellers seed : ℕ) (text : List ℕ) : Type 0 where
  pub histories : List (List Entry)
  pub are_tellers : AreTellers (bank_of sites) tellers seed histories
  pub text_is : text ≡ text_of (bank_of sites) histories

-- the text is a prefix of the lines of a run of tellers
abbrev pub BeginsRun : ℕ → ℕ → ℕ → List ℕ → Type 0
BeginsRun sites tellers seed text = (whole : List ℕ) × IsRun sites tellers seed whole × IsFront text whole

-- the result of a run of tellers at sites, by the numbers of both, which wrote this text; it reads nothing, so it has
-- no other fault
abbrev pub ThreadsEndAs : Result Unit ScriptFault → ℕ → ℕ → ℕ → List ℕ → Type 0
ThreadsEndAs (Ok u) sites tellers seed text = IsRun sites tellers seed text
ThreadsEndAs (Err Write) sites tellers seed text = BeginsRun sites tellers seed text
ThreadsEndAs (Err OutOfMemory) sites tellers seed text = (text ≡ []) ⊎ BeginsRun sites tellers seed text
ThreadsEndAs (Err Gather) sites tellers seed text = text ≡ []
ThreadsEndAs (Err _) sites tellers seed text = ⊥
