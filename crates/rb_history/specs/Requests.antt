-- Which request a value is, alone or in a list.
use Rattle.std.specs.Prelude.{◌≡◌, ℕ, ◌<◌, ◌^◌, ◌==◌, List, [], ◌∷◌, Option, Some, None, codes, unwrap_or, if◌then◌else◌, option_and_then}
use Rattle.std.specs.Prelude.{option_map}
use Rattle.serde_json.specs.Data.{Data, string, Items, no_items, item}
use Rattle.serde_json.specs.Find.{get, as_array, as_str}
use Rattle.rb_money.specs.Settings.{Settings, place_in}
use Rattle.rb_money.specs.declared.place.Place.{Place}
use Rattle.rb_money.specs.declared.place.TheConstants.Place.{NOWHERE}
use Rattle.rb_shadow.specs.declared.op_name.OpName.{OpName}
use Rattle.rb_shadow.specs.NameText.{IsName}
use Rattle.rb_scratch.specs.declared.request.Request.{Request}
use Rattle.rb_scratch.specs.declared.request.Request.TheVariants.{Deposit, Withdraw, Interest, Cancel, Transfer}
use Rattle.rb_history.specs.Values.{number_json, name_json, pair_json, three_json, one_json, number_below, name_at, pair_of, three_of}
use Rattle.rb_history.specs.Values.{size_of, either}

-- the place of an account's name: nowhere if no account has it
abbrev pub account_place : Settings → List ℕ → Place
account_place s name = unwrap_or (place_in s.names name) NOWHERE

-- the place of the account that a value names
abbrev pub place_at : Settings → Data → Option Place
place_at s d = option_map (account_place s) (as_str d)

-- what is asked of an account and a number, from the list of both
abbrev pub asked_of : {A : Type 0} → Settings → ℕ → (Place → ℕ → A) → Data → Option A
asked_of s bound ask d = option_and_then (λ p. option_and_then (λ account. option_map (ask account) (number_below bound p.1))
    (place_at s p.0)) (pair_of d)

-- the transfer of an amount from an account to another, from the list of the three
abbrev pub transfer_at : Settings → Data → Option Request
transfer_at s d = option_and_then (λ p. option_and_then (λ from. option_and_then
    (λ to. option_map (Transfer from to) (number_below (2 ^ 64) p.2)) (place_at s p.1)) (place_at s p.0)) (three_of d)

-- the request that an object is read as, by its key
abbrev pub request_of : Settings → Data → Option Request
request_of s d = either (get (codes "deposit") d) (asked_of s (2 ^ 64) Deposit)
    (either (get (codes "withdraw") d) (asked_of s (2 ^ 64) Withdraw)
    (either (get (codes "interest") d) (asked_of s (2 ^ 32) Interest)
    (either (get (codes "cancel") d) (λ x. option_map Cancel (name_at x))
    (option_and_then (transfer_at s) (get (codes "transfer") d)))))

-- the request of a batch that a value is: an object of one member
abbrev pub request_alone : Settings → Data → Option Request
request_alone s d = if size_of d == 1 then request_of s d else None

-- the requests of a list, in its order
abbrev pub requests_in : Settings → Items → Option (List Request)
requests_in s no_items = Some []
requests_in s (item d ds) = option_and_then (λ r. option_map (λ later. r ∷ later) (requests_in s ds)) (request_alone s d)

abbrev pub requests_at : Settings → Data → Option (List Request)
requests_at s d = option_and_then (requests_in s) (as_array d)

-- each request of a batch is read from the object that it is written as
pub record ReadsRequests (s : Settings) : Type 0 where
  pub deposit : (amount : ℕ) (name : List ℕ) → amount < 2 ^ 64 → request_alone s
      (one_json (codes "deposit") (pair_json (string name) (number_json amount))) ≡ Some (Deposit (account_place s name) amount)
  pub withdraw : (amount : ℕ) (name : List ℕ) → amount < 2 ^ 64 → request_alone s
      (one_json (codes "withdraw") (pair_json (string name) (number_json amount))) ≡ Some (Withdraw (account_place s name) amount)
  pub interest : (rate : ℕ) (name : List ℕ) → rate < 2 ^ 32 → request_alone s
      (one_json (codes "interest") (pair_json (string name) (number_json rate))) ≡ Some (Interest (account_place s name) rate)
  pub cancel : (x : OpName) → IsName x → request_alone s (one_json (codes "cancel") (name_json x)) ≡ Some (Cancel x)
  pub transfer : (amount : ℕ) (from to : List ℕ) → amount < 2 ^ 64 → request_alone s
      (one_json (codes "transfer") (three_json (string from) (string to) (number_json amount)))
      ≡ Some (Transfer (account_place s from) (account_place s to) amount)
