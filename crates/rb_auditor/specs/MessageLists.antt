-- Lists of messages.
use Rattle.std.specs.Prelude.{◌≡◌, false, ℕ, ◌+◌, List, Option, Some, map, option_map, slice_get}
use Rattle.std.specs.List.{filter_map}
use Rattle.rb_shadow.specs.declared.shadow.Shadow.{Shadow}
use Rattle.rb_shadow.specs.Operations.{entry_of, number_of}
use Rattle.rb_shadow.specs.Sound.{is_foreign}
use Rattle.rb_ledger.specs.OperationLists.{IsOfSites}
use Rattle.rb_site.specs.declared.message.Message.{Message}
use Rattle.rb_site.specs.declared.message.Message.TheVariants.{Shadow as ShadowMessage}
use Rattle.rb_auditor.specs.declared.kept_at.KeptAt.{KeptAt}
use Rattle.rb_auditor.specs.declared.kept_at.KeptAt.TheVariants.{Compact, Other}

-- messages, how many of them are operations that are kept in little memory, of how many sites the entries of the clock
-- of such a one are kept, and for how many messages there is memory
pub record MessageTable : Type 0 where
  pub items : List Message
  pub compact : ℕ
  pub sites : ℕ
  pub limit : ℕ

-- all messages, and in their order those that were sent
pub record SentTable : Type 0 where
  pub all : List Message
  pub items : List Message

-- the operation's clock has entries for these sites alone, its own entry counts all before it, and a blue name is its
-- home's
pub record HasCompactForm (sites : ℕ) (v : Shadow) : Type 0 where
  pub entries : IsOfSites sites v.deps
  pub home : is_foreign v.name v.home ≡ false
  pub own : entry_of v.deps v.name + 1 ≡ number_of v.name

-- the message that is kept at a place, among these operations or among these others
abbrev pub message_kept_at : List Shadow → List Message → KeptAt → Option Message
message_kept_at us os (Compact k) = option_map (λ u. ShadowMessage u) (slice_get us k)
message_kept_at us os (Other k) = slice_get os k

-- there is something at each of these
abbrev pub AreThere : {A B : Type 0} → (A → Option B) → List A → Type 0
AreThere f ps = map f ps ≡ map (λ x. Some x) (filter_map f ps)
