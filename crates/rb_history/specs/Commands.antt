-- Which command a line is.
use Rattle.std.specs.Prelude.{◌≡◌, ℕ, ◌<◌, ◌^◌, ◌==◌, List, map, Option, Some, None, codes, if◌then◌else◌, option_and_then, option_map}
use Rattle.serde_json.specs.Data.{Data, string, array, object, put, member, no_members}
use Rattle.serde_json.specs.Find.{get}
use Rattle.serde_json.specs.Read.{read}
use Rattle.serde_json.specs.View.{items_of}
use Rattle.rb_money.specs.Settings.{Settings}
use Rattle.rb_shadow.specs.declared.op_name.OpName.{OpName}
use Rattle.rb_scratch.specs.declared.request.Request.{Request}
use Rattle.rb_scratch.specs.declared.request.Request.TheVariants.{Deposit, Withdraw, Interest, Cancel, Transfer}
use Rattle.rb_site.specs.declared.event.Event.{Event}
use Rattle.rb_site.specs.declared.event.Event.TheVariants.{Submit, Batch, Apply, Pass, Balance, AsOf, Statement}
use Rattle.rb_site.specs.declared.world_event.WorldEvent.{WorldEvent}
use Rattle.rb_site.specs.declared.world_event.WorldEvent.TheVariants.{At, Deliver}
use Rattle.rb_shadow.specs.NameText.{IsName}
use Rattle.rb_history.specs.Requests.{ReadsRequests, account_place, place_at, asked_of, request_alone, request_of, requests_at}
use Rattle.rb_history.specs.Values.{number_json, name_json, pair_json, three_json, number_below, name_at, size_of, either}

-- what a teller asks of an account, or the request, that an object is read as, by its key
abbrev pub teller_event_of : Settings → Data → Option Event
teller_event_of s d = either (get (codes "balance") d) (λ account. option_map Balance (place_at s account))
    (either (get (codes "asof") d) (asked_of s (2 ^ 32) AsOf)
    (either (get (codes "statement") d) (λ account. option_map Statement (place_at s account))
    (option_map Submit (request_of s d))))

-- the event of a site that an object is read as, by its key
abbrev pub event_of : Settings → Data → Option Event
event_of s d = either (get (codes "batch") d) (λ list. option_map Batch (requests_at s list))
    (either (get (codes "apply") d) (λ x. option_map Apply (name_at x))
    (either (get (codes "pass") d) (λ to. option_map Pass (number_below (2 ^ 8) to))
    (teller_event_of s d)))

-- the command for a site that an object is read as, by its key
abbrev pub command_for : Settings → Data → ℕ → Option WorldEvent
command_for s d site = either (get (codes "deliver") d) (λ m. option_map (Deliver site) (number_below (2 ^ 32) m))
    (option_map (At site) (event_of s d))

-- a command is an object of two members, one of which is its site
abbrev pub command_of : Settings → Data → Option WorldEvent
command_of s d = if size_of d == 2 then option_and_then (command_for s d) (option_and_then (number_below (2 ^ 8)) (get (codes "site") d))
    else None

-- the command that a line is
abbrev pub command_at : Settings → List ℕ → Option WorldEvent
command_at s line = option_and_then (command_of s) (read line)

-- an object of a key and a site, the keys in byte order
abbrev pub sited_json : List ℕ → Data → ℕ → Data
sited_json key value site = object (put key value (member (codes "site") (number_json site) no_members))

-- each command is read from the object that it is written as
pub record ReadsCommands (s : Settings) : Type 0 where
  pub deposit : (site amount : ℕ) (name : List ℕ) → site < 2 ^ 8 → amount < 2 ^ 64 →
      command_of s (sited_json (codes "deposit") (pair_json (string name) (number_json amount)) site)
      ≡ Some (At site (Submit (Deposit (account_place s name) amount)))
  pub withdraw : (site amount : ℕ) (name : List ℕ) → site < 2 ^ 8 → amount < 2 ^ 64 →
      command_of s (sited_json (codes "withdraw") (pair_json (string name) (number_json amount)) site)
      ≡ Some (At site (Submit (Withdraw (account_place s name) amount)))
  pub interest : (site rate : ℕ) (name : List ℕ) → site < 2 ^ 8 → rate < 2 ^ 32 →
      command_of s (sited_json (codes "interest") (pair_json (string name) (number_json rate)) site)
      ≡ Some (At site (Submit (Interest (account_place s name) rate)))
  pub cancel : (site : ℕ) (x : OpName) → site < 2 ^ 8 → IsName x → command_of s (sited_json (codes "cancel") (name_json x) site)
      ≡ Some (At site (Submit (Cancel x)))
  pub transfer : (site amount : ℕ) (from to : List ℕ) → site < 2 ^ 8 → amount < 2 ^ 64 →
      command_of s (sited_json (codes "transfer") (three_json (string from) (string to) (number_json amount)) site)
      ≡ Some (At site (Submit (Transfer (account_place s from) (account_place s to) amount)))
  pub alone : ReadsRequests s
  pub batch : (site : ℕ) (list : List Data) (rs : List Request) → site < 2 ^ 8 → map (request_alone s) list ≡ map Some rs →
      command_of s (sited_json (codes "batch") (array (items_of list)) site) ≡ Some (At site (Batch rs))
  pub apply : (site : ℕ) (x : OpName) → site < 2 ^ 8 → IsName x → command_of s (sited_json (codes "apply") (name_json x) site)
      ≡ Some (At site (Apply x))
  pub pass : (site to : ℕ) → site < 2 ^ 8 → to < 2 ^ 8 → command_of s (sited_json (codes "pass") (number_json to) site)
      ≡ Some (At site (Pass to))
  pub balance : (site : ℕ) (name : List ℕ) → site < 2 ^ 8 → command_of s (sited_json (codes "balance") (string name) site)
      ≡ Some (At site (Balance (account_place s name)))
  pub asof : (site n : ℕ) (name : List ℕ) → site < 2 ^ 8 → n < 2 ^ 32 →
      command_of s (sited_json (codes "asof") (pair_json (string name) (number_json n)) site)
      ≡ Some (At site (AsOf (account_place s name) n))
  pub statement : (site : ℕ) (name : List ℕ) → site < 2 ^ 8 → command_of s (sited_json (codes "statement") (string name) site)
      ≡ Some (At site (Statement (account_place s name)))
  pub deliver : (site m : ℕ) → site < 2 ^ 8 → m < 2 ^ 32 → command_of s (sited_json (codes "deliver") (number_json m) site)
      ≡ Some (Deliver site m)

-- in every configuration each command is read from the object that it is written as
abbrev pub CommandsAreRead : Type 0
CommandsAreRead = (s : Settings) → ReadsCommands s
