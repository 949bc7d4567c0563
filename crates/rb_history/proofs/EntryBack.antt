-- The text that is written for an event or a line's entry is read as it.
use Rattle.rb_history.proofs.Words.{asked_entry_json, asked_entry_of_object, entry_in, event_json, request_json, shadow_json, Each, IsEvent}
use Rattle.rb_history.proofs.Words.{IsKind, IsReply, IsRequest, IsShadow, AskedEntry, IsAsked, event_at, kind_at, shadow_at, request_alone}
use Rattle.rb_history.proofs.Words.{requests_in, below, IsConfigured, Settings, Request, Cancel, Deposit, Interest, Transfer, Withdraw}
use Rattle.rb_history.proofs.Words.{Kind, CancelKind, TransferKind, Shadow, Event, Apply, AsOf, Balance, Batch, Pass, Receive, Statement}
use Rattle.rb_history.proofs.Words.{Submit, ShadowMessage, TokenOnItsWay, items_of, List, Some, [], ap, inl, inr, refl, ℕ, ◌<◌, ◌^◌, ◌∷◌}
use Rattle.rb_history.proofs.Words.{◌≡◌, map, option_map}
use Rattle.rb_history.proofs.Reading.{back}
use Rattle.rb_history.proofs.SiteCounts.{blue_back}
use Rattle.rb_history.proofs.Public.IdText.{id_read}
use Rattle.rb_history.proofs.KnownPlaces.{known_place}
use Rattle.rb_history.proofs.ReplyBack.{reply_back}

request_back : (s : Settings) → IsConfigured s → (r : Request) → IsRequest s r → request_alone s (request_json s r) ≡ Some r
request_back s c (Deposit a amount) (known, fits) = rw (below amount (2 ^ 64) fits)
    (ap (λ p. Some (Deposit p amount)) (known_place s a c known))
request_back s c (Withdraw a amount) (known, fits) = rw (below amount (2 ^ 64) fits)
    (ap (λ p. Some (Withdraw p amount)) (known_place s a c known))
request_back s c (Interest a rate) (known, fits) = rw (below rate (2 ^ 32) fits)
    (ap (λ p. Some (Interest p rate)) (known_place s a c known))
request_back s c (Cancel x) h = rw (back x h) refl
request_back s c (Transfer from to amount) (leaves, arrives, fits) = rw (below amount (2 ^ 64) fits)
    (λ j. Some (Transfer (known_place s from c leaves j) (known_place s to c arrives j) amount))

requests_back : (s : Settings) → IsConfigured s → (rs : List Request) → Each (IsRequest s) rs
    → requests_in s (items_of (map (request_json s) rs)) ≡ Some rs
requests_back s c [] h = refl
requests_back s c (r ∷ rs) h = rw (request_back s c r h.0, requests_back s c rs h.1) refl

kind_back : (s : Settings) → IsConfigured s → (v : Shadow) (kind : Kind) → IsKind s kind
    → kind_at s (shadow_json s (record v { kind = kind })) ≡ Some kind
kind_back s c v (CancelKind x) h = rw (back x h) refl
kind_back s c v (TransferKind to) h = ap (λ p. Some (TransferKind p)) (known_place s to c h)
kind_back s c v _ h = refl

shadow_back : (s : Settings) → IsConfigured s → (v : Shadow) → IsShadow s v → shadow_at s (shadow_json s v) ≡ Some v
shadow_back s c v h =
    rw (
      below v.amount (2 ^ 64) h.amount,
      blue_back s.version s.sites v.deps.blue c.version h.sites h.blue h.further,
      below v.deps.red (2 ^ 32) h.red,
      below v.home (2 ^ 8) h.home,
      kind_back s c v v.kind h.kind,
      back v.name h.name,
    )
    (ap (λ p. Some (record v { account = p })) (known_place s v.account c h.account))

submit_back : (s : Settings) (r : Request) → request_alone s (request_json s r) ≡ Some r → event_at s (request_json s r) ≡ Some (Submit r)
submit_back s (Deposit a amount) e = ap (option_map Submit) e
submit_back s _ e = ap (option_map Submit) e

-- the object of an event is read as the event
pub event_back : (s : Settings) → IsConfigured s → (e : Event) → IsEvent s e → event_at s (event_json s e) ≡ Some e
event_back s c (Submit r) h = submit_back s r (request_back s c r h)
event_back s c (Batch rs) h = rw (requests_back s c rs h) refl
event_back s c (Receive (ShadowMessage v)) h = rw (shadow_back s c v h) refl
event_back s c (Receive (TokenOnItsWay m)) (epoch, to, red) =
    rw (below m.epoch (2 ^ 32) epoch, below m.to (2 ^ 8) to, below m.red (2 ^ 32) red) refl
event_back s c (Apply x) h = rw (back x h) refl
event_back s c (Pass to) h = rw (below to (2 ^ 8) h) refl
event_back s c (Balance a) known = ap (λ p. Some (Balance p)) (known_place s a c known)
event_back s c (AsOf a n) (known, fits) = rw (below n (2 ^ 32) fits) (ap (λ p. Some (AsOf p n)) (known_place s a c known))
event_back s c (Statement a) known = ap (λ p. Some (Statement p)) (known_place s a c known)

-- the members of an entry are read as it, with an id or without
members_back : (s : Settings) → IsConfigured s → (site : ℕ) (x : AskedEntry) → site < s.sites
    → IsEvent s x.entry.event → IsReply x.entry.reply → entry_in s (asked_entry_json s site x) ≡ Some (site, x.entry)
members_back s c site x h e r = elim x.id as (λ id.
    entry_in s (asked_entry_json s site (record { id = id; entry = x.entry })) ≡ Some (site, x.entry)) [
      | [] ↦ rw (below site s.sites h, event_back s c x.entry.event e, reply_back x.entry.reply r) refl
      | b ∷ bs ↦ rw (below site s.sites h, event_back s c x.entry.event e, reply_back x.entry.reply r) refl
    ]

-- the object of an entry with its id, or none, is read as them
pub entry_back : (s : Settings) → IsConfigured s → (site : ℕ) (x : AskedEntry) → site < s.sites
    → IsEvent s x.entry.event → IsReply x.entry.reply → IsAsked x → asked_entry_of_object s (asked_entry_json s site x) ≡ Some (site, x)
entry_back s c site x h e r asked = at x.id asked (members_back s c site x h e r)
  where
    at : (id : List ℕ) → IsAsked (record { id = id; entry = x.entry })
        → entry_in s (asked_entry_json s site (record { id = id; entry = x.entry })) ≡ Some (site, x.entry)
        → asked_entry_of_object s (asked_entry_json s site (record { id = id; entry = x.entry }))
        ≡ Some (site, record { id = id; entry = x.entry })
    at [] asked members = rw members refl
    at (b ∷ bs) (inl none) members = absurd (cc)
    at (b ∷ bs) (inr (is, may)) members = rw (id_read (b ∷ bs) is, members, may) refl
