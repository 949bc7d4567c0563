-- The calls of tellers, each by its own numbers and by what it was answered.
use Rattle.std.specs.Prelude.{◌≡◌, ℕ, ◌+◌, ◌*◌, ◌/◌, ◌%◌, ◌^◌, List, [], ◌∷◌, ◌++◌, slice_get, ◌==◌, nat_lt}
use Rattle.std.specs.Prelude.{if◌then◌else◌, Option, Some, None, map, length, All, Bool, true, false}
use Rattle.rb_branch.specs.declared.receipt.Receipt.{Receipt}
use Rattle.rb_branch.specs.Gathered.{IsInterleaving}
use Rattle.rb_branch.specs.Seats.{IsServed, SeenSeat}
use Rattle.rb_run_threads.specs.declared.teller.TheConstants.{CALLS, INCREMENT, MULTIPLIER}
use Rattle.rb_money.specs.declared.place.Place.{Place}
use Rattle.rb_scratch.specs.declared.request.Request.{Request}
use Rattle.rb_scratch.specs.declared.request.Request.TheVariants.{Cancel, Deposit, Interest, Withdraw}
use Rattle.rb_shadow.specs.declared.op_name.OpName.{OpName}
use Rattle.rb_site.specs.declared.entry.Entry.{Entry}
use Rattle.rb_site.specs.declared.event.Event.{Event}
use Rattle.rb_site.specs.declared.event.Event.TheVariants.{Submit, Receive, Apply, Pass}
use Rattle.rb_site.specs.declared.reply.Reply.{Reply}
use Rattle.rb_site.specs.declared.reply.Reply.TheVariants.{Made}
use Rattle.rb_site.specs.Seen.{entry}

-- ---- one call

-- a teller's next number: one step of a linear congruential generator of 64 bits
unfoldable pub next_number : ℕ → ℕ
next_number x = (x * MULTIPLIER + INCREMENT) % 2 ^ 64

-- a cancellation of the last operation that a teller made, by its name, or a deposit of 1 cent if there is none
abbrev pub cancel_or : Place → Option OpName → Request
cancel_or a None = Deposit a 1
cancel_or a (Some x) = Cancel x

-- the call at a number, by a teller of this site, of a bank of this number of sites, who last made the operation of
-- this name. With r the number divided by 2 ^ 33 and q = r / 8, the account is that of place r / 8192 modulo 4, and r
-- modulo 8 says what is asked for
unfoldable pub call_of : ℕ → Option OpName → ℕ → ℕ → Event
call_of x last site sites =
    let r = x / 8589934592 in let q = r / 8 in let kind = r % 8 in let a : Place = record { 0 = r / 8192 % 4 } in
    if nat_lt kind 4 then Submit (Deposit a (1 + q % 1000))
    else if kind == 4 then Submit (Withdraw a (1 + q % 500))
    else if kind == 5 then Submit (Interest a (q % 200))
    else if kind == 6 then Submit (cancel_or a last)
    else Pass ((site + 1) % sites)

-- the name of the last operation that a teller made, after a reply
abbrev pub last_after : Option OpName → Reply → Option OpName
last_after last (Made name kind) = Some name
last_after last reply = last

-- ---- one teller

-- each entry is the call at the next number after x, by a teller who last made the operation of this name; so a call
-- may depend on the replies before it
abbrev pub FollowsCalls : ℕ → ℕ → ℕ → Option OpName → List Entry → Type 0
FollowsCalls site sites x last [] = Unit {0}
FollowsCalls site sites x last (e ∷ es) =
    (e.event ≡ call_of (next_number x) last site sites) × FollowsCalls site sites (next_number x) (last_after last e.reply) es

-- the entries that receipts are of
abbrev pub entries_of : List Receipt → List Entry
entries_of receipts = map (λ r. entry r.event r.reply) receipts

-- the seat of a teller after all its calls
pub record IsTeller (first site sites : ℕ) (seat : SeenSeat) : Type 0 where
  pub site_is : seat.site ≡ site
  pub count : length seat.receipts ≡ CALLS
  pub follows : FollowsCalls site sites first None (entries_of seat.receipts)

-- the seat of a serving thread: it received and applied alone
pub record IsServer (site : ℕ) (seat : SeenSeat) : Type 0 where
  pub site_is : seat.site ≡ site
  pub served : All (λ (r : Receipt). IsServed r.event) seat.receipts

-- ---- a run

-- the seats of a run: first those of the tellers, the t-th at site t % sites with first number seed + t, and then that
-- of a serving thread at each site, in order
pub record IsCrew (seed tellers sites : ℕ) (seats : List SeenSeat) : Type 0 where
  pub hired : List SeenSeat
  pub serving : List SeenSeat
  pub seats_are : seats ≡ hired ++ serving
  pub count : length hired ≡ tellers
  pub each : (t : ℕ) (seat : SeenSeat) → slice_get hired t ≡ Some seat → IsTeller (seed + t) (t % sites) sites seat
  pub served : length serving ≡ sites
  pub servers : (k : ℕ) (seat : SeenSeat) → slice_get serving k ≡ Some seat → IsServer k seat

-- whether a teller makes the event: all but receiving and applying
abbrev pub is_call : Event → Bool
is_call (Receive m) = false
is_call (Apply x) = false
is_call _ = true

-- the entries of a history that are neither received nor applied
abbrev pub calls_in : List Entry → List Entry
calls_in [] = []
calls_in (e ∷ es) = if is_call e.event then e ∷ calls_in es else calls_in es

-- what the t-th teller did at a site: all its calls at its own, and nothing elsewhere
abbrev pub IsTellerList : ℕ → ℕ → ℕ → ℕ → List Entry → Type 0
IsTellerList seed sites site t es =
    (t % sites ≡ site → (length es ≡ CALLS) × FollowsCalls site sites (seed + t) None es) × ((t % sites ≡ site → ⊥) → es ≡ [])

-- but for what was received and applied, a site's history is the tellers' lists, interleaved
pub record TellersAt (seed tellers sites site : ℕ) (history : List Entry) : Type 0 where
  pub lists : List (List Entry)
  pub count : length lists ≡ tellers
  pub each : (t : ℕ) (es : List Entry) → slice_get lists t ≡ Some es → IsTellerList seed sites site t es
  pub all : IsInterleaving lists (calls_in history)
