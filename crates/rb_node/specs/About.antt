-- The answer to a question about a site.
use Rattle.std.specs.Prelude.{codes, length}
use Rattle.serde_json.specs.Data.{Data, boolean, object, member, no_members}
use Rattle.rb_shadow.specs.Operations.{clock_of}
use Rattle.rb_site.specs.Seen.{SeenSite, state_of}
use Rattle.rb_history.specs.Entries.{deps_json}
use Rattle.rb_history.specs.Values.{number_json}

-- how much it applied, as the clock that a shadow has; how many entries its history has; the greatest epoch that it has
-- seen; how many operations it holds; its number; and whether it has the token
abbrev pub about_json : SeenSite → Data
about_json x = object
    (member (codes "applied") (deps_json x.settings.version (clock_of (state_of x).ops))
    (member (codes "entries") (number_json (length x.entries))
    (member (codes "epoch") (number_json (state_of x).token.epoch)
    (member (codes "held") (number_json (length (state_of x).held))
    (member (codes "site") (number_json x.me)
    (member (codes "token") (boolean (state_of x).token.held) no_members))))))
