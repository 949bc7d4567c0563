-- The requests of a batch that are tried on a ledger, one by one.
use Rattle.std.specs.Prelude.{◌≡◌, ◌≤◌, ◌<◌, ℕ, List, [], ◌∷◌, ◌++◌, length, ◌⊎◌, Result, Ok, Err, OnOk, OnErr}
use Rattle.std.specs.Borrow.{Fml, GName, RattleType, MutBor, follows_so}
use mathlib.Core.Option as maybe
use Rattle.rb_money.specs.declared.refusal.Refusal.TheVariants.{OutOfMemory, BadBatch}
use Rattle.rb_shadow.specs.declared.shadow.Shadow.{Shadow}
use Rattle.rb_undo.specs.declared.parts.UndoParts.{UndoParts}
use Rattle.rb_ledger.specs.Book.{Book}
use Rattle.rb_ledger.specs.Records.{logged}
use Rattle.rb_ledger.specs.Valid.{parts_of}
use Rattle.rb_token.specs.Token.{Token}
use Rattle.rb_scratch.specs.Batches.{made_in_batch}
use Rattle.rb_scratch.specs.declared.request.Request.{Request}
use Rattle.rb_scratch.specs.declared.run_fault.RunFault.{RunFault}
use Rattle.rb_scratch.specs.declared.run_fault.RunFault.TheVariants.{Refused as RefusedFault}
use Rattle.rb_scratch.specs.declared.request.TheConstants.{MOST_REQUESTS}

-- the list goes on with the operations that were made, and the records are theirs
pub record IsTried (base made : List Shadow) (book : Book) (parts : List UndoParts) : Type 0 where
  pub entries : book.entries ≡ base ++ made
  pub records : parts ≡ logged book.settings base made

-- what was made are the last operations, and the records are theirs
abbrev pub IsOfTheLast : Book → List Shadow → List UndoParts → Type 0
IsOfTheLast book made parts = (base : List Shadow) × IsTried base made book parts

-- one operation more, with its record
pub record IsAdded (was now : Book) (vs longer : List Shadow) (parts more : List UndoParts) (v : Shadow) : Type 0 where
  pub settings : now.settings ≡ was.settings
  pub entries : now.entries ≡ was.entries ++ v ∷ []
  pub made : longer ≡ vs ++ v ∷ []
  pub records : more ≡ parts ++ parts_of was.settings was.entries v ∷ []
  -- so what was made are still the last operations
  pub tried : (base : List Shadow) → IsTried base vs was parts → IsTried base longer now more

-- why a request of a batch is not made: there are the most already, or it makes nothing, or there is no memory, and
-- then the ledger has no spare capacity, or the list of what was made has none
pub record IsFault (book : Book) (spare : ℕ) (parts : List UndoParts) (me : ℕ) (known : Token) (r : Request) (fault : RunFault)
    : Type 0 where
  pub many : MOST_REQUESTS ≤ length parts → fault ≡ RefusedFault BadBatch
  pub few : length parts < MOST_REQUESTS → (made_in_batch book.settings me book.entries known r ≡ Err fault)
      ⊎ ((v : Shadow) × (made_in_batch book.settings me book.entries known r ≡ Ok v) × (fault ≡ RefusedFault OutOfMemory)
      × ((book.room ≡ 0) ⊎ (spare ≡ 0)))

-- a name at an error
abbrev pub name_if_err : {A E : Type 0} → (E → GName) → Result A E → maybe.Option GName
name_if_err name (Ok x) = maybe.none
name_if_err name (Err e) = maybe.some (name e)

-- what was lent ends as P says, unless an error hands the loan back
module _ (R : RattleType) (s : MutBor R.Denot) {E : Type 0} (name : E → GName) where
  abbrev pub RestsIfOk : {A : Type 0} → Result A E → (R.Denot → Type 0) → Fml
  RestsIfOk r P = follows_so R R s.ghost_name (name_if_err name r) (λ x n. OnErr r (n ≡ x)) (λ n. OnOk r (P n))
