-- The entries that a migration writes are read as those that it read.
use Rattle.rb_runs.proofs.Words.{ℕ, List, [], ◌∷◌, refl, inr, arith, IsConfigured, IsVersion, Settings, in_version_2, Request, Deposit}
use Rattle.rb_runs.proofs.Words.{CancelKind, Shadow, Event, Submit, Batch, Receive, ShadowMessage, ReadConfigsAreConfigured, Each}
use Rattle.rb_runs.proofs.Words.{EntriesAreRead, IsEvent, IsKind, IsRequest, IsShadow, ReadEntriesFit, MigratedEntriesAreRead}
use Rattle.rb_shadow.specs.declared.kind.Kind.{Kind}

-- what is configured is so in another version that its lines may have
pub in_version : (s : Settings) (version : ℕ) → IsConfigured s → IsVersion version s.sites → IsConfigured (record s { version = version })
in_version s version c may = record {
  some_sites = c.some_sites;
  few_sites = c.few_sites;
  some_accounts = c.some_accounts;
  few_accounts = c.few_accounts;
  starts_of_all = c.starts_of_all;
  names = c.names;
  unique = c.unique;
  starts = c.starts;
  blue = c.blue;
  red = c.red;
  inbox = c.inbox;
  history = c.history;
  epoch = c.epoch;
  version = may;
}

-- what is configured is so in version 2
pub configured : (s : Settings) → IsConfigured s → IsConfigured (in_version_2 s)
configured s c = in_version s 2 c (inr refl)

request : (s : Settings) (r : Request) → IsRequest s r → IsRequest (in_version_2 s) r
request s (Deposit a n) h = h
request s _ h = h

requests : (s : Settings) (rs : List Request) → Each (IsRequest s) rs → Each (IsRequest (in_version_2 s)) rs
requests s [] h = h
requests s (r ∷ rs) h = (request s r h.0, requests s rs h.1)

kind : (s : Settings) (k : Kind) → IsKind s k → IsKind (in_version_2 s) k
kind s (CancelKind x) h = h
kind s _ h = h

shadow : (s : Settings) (v : Shadow) → IsShadow s v → IsShadow (in_version_2 s) v
shadow s v h = record {
  name = h.name;
  home = h.home;
  sites = h.sites;
  blue = h.blue;
  further = λ one. absurd (omega (arith, one));
  red = h.red;
  account = h.account;
  amount = h.amount;
  kind = kind s v.kind h.kind;
}

-- an event of a configuration is one of it in version 2
pub event : (s : Settings) (e : Event) → IsEvent s e → IsEvent (in_version_2 s) e
event s (Submit r) h = request s r h
event s (Batch rs) h = requests s rs h
event s (Receive (ShadowMessage v)) h = shadow s v h
event s _ h = h

-- what a migration writes for an entry is read as that entry
pub entries : ReadConfigsAreConfigured → EntriesAreRead → ReadEntriesFit → MigratedEntriesAreRead
entries made back fits first s read line site x is =
    let fit = fits s line site x is in
    back (in_version_2 s) (configured s (made first s read)) site x fit.0 (event s x.entry.event fit.1) fit.2 fit.3
