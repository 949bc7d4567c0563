-- An entry of a site, replayed.
use Rattle.std.specs.Prelude.{◌≡◌, ◌≢◌, ◌⊎◌, ℕ, true, false, [], ◌∷◌, Some, None}
use Rattle.serde_json.specs.Written.{compact_text}
use Rattle.rb_money.specs.Settings.{Settings}
use Rattle.rb_site.specs.Events.{is_full, reply_to, sent_at}
use Rattle.rb_history.specs.Entries.{asked_entry_json, asked_entry_on}
use Rattle.rb_history.specs.Fits.{Each}
use Rattle.rb_history.specs.Ids.{AskedEntry}
use Rattle.rb_node.specs.Answers.{SeenNode}
use Rattle.rb_node.specs.Asked.{SeenAsked, asked_state, known_of, with_more}

-- the history wasn't full, the entry's id wasn't known, the site gives the entry's reply to its event, and it is the
-- site with this entry more, and the messages that it sent
pub record IsReplayedAs (old : SeenAsked) (new : SeenNode) (x : AskedEntry) : Type 0 where
  pub free : is_full old.settings (asked_state old) ≡ false
  pub unknown : known_of old x.id ≡ None
  pub reply : x.entry.reply ≡ reply_to old.settings (asked_state old) x.entry.event
  pub site : new.site ≡ with_more old (x ∷ [])
  pub sent : new.sent ≡ sent_at old.settings (asked_state old) x.entry.event

-- the entry isn't the site's next: its history is full, or it gives another reply
abbrev pub IsNotNext : SeenAsked → AskedEntry → Type 0
IsNotNext x e = (is_full x.settings (asked_state x) ≡ true)
    ⊎ (e.entry.reply ≢ reply_to x.settings (asked_state x) e.entry.event)

-- the line of a site's entry is read as that entry
abbrev pub IsReadBack : Settings → ℕ → AskedEntry → Type 0
IsReadBack s me x = asked_entry_on s (compact_text (asked_entry_json s me x)) ≡ Some (me, x)

-- the line of each entry of the site is read as that entry
abbrev pub IsReadWhole : SeenAsked → Type 0
IsReadWhole x = Each (IsReadBack x.settings x.me) x.asked
