-- Events of a site that records only those that change it.
use Rattle.std.specs.Prelude.{◌≡◌, ◌≤◌, ℕ, Bool, true, if◌then◌else◌, List, [], ◌∷◌, length}
use Rattle.rb_money.specs.Settings.{Settings}
use Rattle.rb_site.specs.declared.event.Event.{Event}
use Rattle.rb_site.specs.declared.reply.Reply.{Reply}
use Rattle.rb_site.specs.Events.{ModelSite, after_event, after_events, changes, first_site, is_full, outcome_of}
use Rattle.rb_site.specs.Events.{replies_to_events, reply_of, reply_to, unless_full}
use Rattle.rb_site.specs.Histories.{sends_of}
use Rattle.rb_site.specs.Seen.{SeenSite, next_site, state_of}
use Rattle.rb_site.specs.States.{without_history}

-- whether an event changes more of a site than its history
abbrev pub changes_site : Settings → ModelSite → Event → Bool
changes_site s t e = changes (outcome_of s t e)

-- the reply to an event at a site that doesn't record what changes nothing: only what changes the site is refused if
-- the history is full
abbrev pub reply_if_changes : Settings → ModelSite → Event → Reply
reply_if_changes s t e = reply_of s t.ops (unless_full (is_full s t) (outcome_of s t e))

-- the same at a site whose history is full
abbrev pub reply_at_full : Settings → ModelSite → Event → Reply
reply_at_full s t e = reply_of s t.ops (unless_full true (outcome_of s t e))

-- the site after it: with one event more, if the event changes it and its history isn't full
abbrev pub next_if_changes : SeenSite → Event → SeenSite
next_if_changes x e = if changes_site x.settings (state_of x) e then next_site x e else x

-- ---- the law

-- the events that change the site, each at its turn
abbrev pub changing_events : Settings → ModelSite → List Event → List Event
changing_events s t [] = []
changing_events s t (e ∷ es) =
    if changes_site s t e then e ∷ changing_events s (after_event s t e) es else changing_events s (after_event s t e) es

-- the replies to these
abbrev pub replies_to_changing : Settings → ModelSite → List Event → List Reply
replies_to_changing s t [] = []
replies_to_changing s t (e ∷ es) =
    if changes_site s t e then reply_to s t e ∷ replies_to_changing s (after_event s t e) es
    else replies_to_changing s (after_event s t e) es

-- a history without the events that left the site as it was: it gives the same replies to the others, the same
-- operations, inbox and token, and sends the same messages
abbrev pub UnchangingEventsLeftOut : Type 0
UnchangingEventsLeftOut = (s : Settings) (me : ℕ) (es : List Event) → length es ≤ s.limits.history
    → (without_history (after_events s (first_site me) (changing_events s (first_site me) es))
    ≡ without_history (after_events s (first_site me) es))
    × (replies_to_events s (first_site me) (changing_events s (first_site me) es) ≡ replies_to_changing s (first_site me) es)
    × (sends_of s (first_site me) (changing_events s (first_site me) es) ≡ sends_of s (first_site me) es)
