-- Ids of requests: the line of an event may have one, and the line of the event's entry.
use Rattle.std.specs.Prelude.{◌≡◌, ◌⊎◌, ℕ, ◌==◌, Bool, true, false, not, ◌&&◌, ◌||◌, nat_le, if◌then◌else◌, List, []}
use Rattle.std.specs.Prelude.{◌∷◌, ◌++◌, length, codes}
use Rattle.std.specs.Prelude.{Option, Some, None, option_and_then}
use Rattle.std.specs.List.{list_all}
use Rattle.serde_json.specs.Data.{Data, Members, member, string}
use Rattle.serde_json.specs.Find.{as_str}
use Rattle.rb_site.specs.declared.entry.Entry.{Entry}
use Rattle.rb_site.specs.declared.event.Event.{Event}
use Rattle.rb_site.specs.declared.event.Event.TheVariants.{Submit, Batch}
use Rattle.rb_site.specs.declared.reply.Reply.{Reply}
use Rattle.rb_site.specs.declared.reply.Reply.TheVariants.{Refused}
use Rattle.rb_history.specs.declared.id.TheConstants.{MOST_ID_BYTES}

-- ---- what an id is

-- a letter of A to Z (65 to 90) or a to z (97 to 122), a digit (48 to 57), or one of . _ : - (46, 95, 58, 45)
abbrev pub is_id_byte : ℕ → Bool
is_id_byte b = (nat_le 65 b && nat_le b 90) || ((nat_le 97 b && nat_le b 122) || ((nat_le 48 b && nat_le b 57)
    || ((b == 46) || ((b == 95) || ((b == 58) || (b == 45))))))

-- an id: 1 to MOST_ID_BYTES such bytes
abbrev pub is_id : List ℕ → Bool
is_id t = nat_le 1 (length t) && (nat_le (length t) MOST_ID_BYTES && list_all is_id_byte t)

-- an id, or no bytes if there is none
abbrev pub IsIdOrNone : List ℕ → Type 0
IsIdOrNone t = (t ≡ []) ⊎ (is_id t ≡ true)

-- ---- what may have one

-- an event that may have an id: a request, or a batch of them
abbrev pub may_have_id : Event → Bool
may_have_id (Submit r) = true
may_have_id (Batch rs) = true
may_have_id _ = false

-- the reply is a refusal
abbrev pub is_refusal : Reply → Bool
is_refusal (Refused why) = true
is_refusal _ = false

-- an entry that may have an id: its event may, and wasn't refused
abbrev pub may_be_asked : Entry → Bool
may_be_asked x = may_have_id x.event && not (is_refusal x.reply)

-- an event with its id, which is no bytes if it has none
pub record AskedEvent : Type 0 where
  pub id : List ℕ
  pub event : Event

-- an entry with its id, which is no bytes if it has none
pub record AskedEntry : Type 0 where
  pub id : List ℕ
  pub entry : Entry

-- the id of an entry is one, on an entry that may have it; or it is none
abbrev pub IsAsked : AskedEntry → Type 0
IsAsked x = (x.id ≡ []) ⊎ ((is_id x.id ≡ true) × (may_be_asked x.entry ≡ true))

-- ---- as a member of an object

-- before these members of an object, the one of the id, if there is one
abbrev pub id_member : List ℕ → Members → Members
id_member [] others = others
id_member (b ∷ bs) others = member (codes "id") (string (b ∷ bs)) others

-- an id between two texts, or nothing if there is none
abbrev pub between_if_any : List ℕ → List ℕ → List ℕ → List ℕ
between_if_any front [] back = []
between_if_any front (b ∷ bs) back = front ++ ((b ∷ bs) ++ back)

-- the id that a value is
abbrev pub id_at : Data → Option (List ℕ)
id_at d = option_and_then (λ t. if is_id t then Some t else None) (as_str d)
