-- The state of a site between two events.
use Rattle.std.specs.Prelude.{◌≡◌, ◌<◌, Bool, List, [], ◌++◌, Option, None}
use Rattle.rb_money.specs.Settings.{IsConfigured, Settings}
use Rattle.rb_inbox.specs.Held.{Holding}
use Rattle.rb_shadow.specs.declared.shadow.Shadow.{Shadow}
use Rattle.rb_shadow.specs.Operations.{Among}
use Rattle.rb_shadow.specs.Sound.{IsSound}
use Rattle.rb_token.specs.Seen.{SeenToken}
use Rattle.rb_site.specs.declared.noted_reply.NotedReply.{NotedReply}
use Rattle.rb_site.specs.declared.message.Message.{Message}
use Rattle.rb_site.specs.declared.reply.Reply.{Reply}
use Rattle.rb_site.specs.Notes.{IsNoted}
use Rattle.rb_site.specs.Events.{ModelSite, Outcome, changed, reply_of, sent_by}
use Rattle.rb_site.specs.Seen.{SeenSite, IsReplayed, state_of}

-- a site without its history, and its configuration
pub record SiteState : Type 0 where
  pub settings : Settings
  pub site : ModelSite

-- a ledger: the configuration's settings, and the operations that were applied
pub record SeenLedger : Type 0 where
  pub settings : Settings
  pub ops : List Shadow

-- the site, its history left out
abbrev pub without_history : ModelSite → ModelSite
without_history t = record t { history = [] }

-- the inbox and the token are of the configuration, and all that is held is sound
pub record IsTied (s : Settings) (inbox : Holding) (token : SeenToken) : Type 0 where
  pub me : token.me < s.sites
  pub sites : token.sites ≡ s.sites
  pub limits : token.limits ≡ s.limits
  pub limit : inbox.limit ≡ s.limits.inbox
  pub sound : (v : Shadow) → Among v inbox.held → IsSound s v

-- the answer of a reply and of what is noted of it
abbrev pub noting : Reply → Option Reply → NotedReply
noting reply noted = record { reply = reply; noted = noted }

-- the answer of a reply of which nothing is noted
abbrev pub plain : Reply → NotedReply
plain reply = noting reply None

-- the answer has this reply, and what is noted of it for a history that keeps replies or doesn't
abbrev pub Says : Bool → NotedReply → Reply → Type 0
Says keeps answer reply = (answer.reply ≡ reply) × IsNoted keeps reply answer.noted

-- the new state, the answer, and the messages sent before and after are what the event came to
abbrev pub Follows : Bool → SiteState → SiteState → List Message → List Message → Outcome → NotedReply → Type 0
Follows keeps old new before after o answer =
    (new ≡ record old { site = changed old.site o })
    × Says keeps answer (reply_of old.settings old.site.ops o)
    × (after ≡ before ++ sent_by o)

-- a configured site's history replays, and its state is what the run of that leads to
pub record IsStanding (x : SeenSite) (now : SiteState) : Type 0 where
  pub configured : IsConfigured x.settings
  pub kept : IsReplayed x
  pub settings : now.settings ≡ x.settings
  pub site : now.site ≡ without_history (state_of x)
