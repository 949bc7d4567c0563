-- The messages of an answer, one by one.
use Rattle.std.specs.Prelude.{◌≡◌, ◌≤◌, ◌^◌, ℕ, false, List, [], ◌∷◌, length, string_bytes, codes, if◌then◌else◌}
use Rattle.std.specs.Prelude.{Option, Some, None, option_and_then, option_map, unwrap_or}
use Rattle.std.specs.List.{flat_map, slice_get}
use Rattle.std.specs.Str.{is_utf8}
use Rattle.serde_json.specs.Data.{Data, Items, item, no_items}
use Rattle.serde_json.specs.Find.{as_array, at, get}
use Rattle.serde_json.specs.Read.{read}
use Rattle.serde_json.specs.Written.{compact_text, has_float}
use Rattle.rb_lines.specs.Lines.{lines_of}
use Rattle.rb_history.specs.Values.{number_below}
use Rattle.rb_capi.specs.Copies.{Copies}
use Rattle.rb_capi.specs.declared.sent.OnLine.{OnLine}
use Rattle.rb_capi.specs.declared.sent.OnLine.TheVariants.{Behind, Found}
use Rattle.rb_capi.specs.declared.sent.Sent.{Sent}

-- ---- the messages of a text

-- the value on a line, which has to be UTF-8
abbrev pub json_on : List ℕ → Option Data
json_on l = if is_utf8 l then read l else None

abbrev pub list_of : Items → List Data
list_of no_items = []
list_of (item d ds) = d ∷ list_of ds

-- the messages of an answer: its list "sends"
unfoldable pub messages_in : Data → List Data
messages_in d = unwrap_or (option_map list_of (option_and_then as_array (get (codes "sends") d))) []

-- the messages on a line
abbrev pub messages_on : List ℕ → List Data
messages_on l = unwrap_or (option_map messages_in (json_on l)) []

-- the messages on all lines of a text, in their order
unfoldable pub kept_messages : List ℕ → List Data
kept_messages text = flat_map messages_on (lines_of text)

-- ---- a message

-- the site that a message is for: the token's, {"token":[epoch,site,before]}; else 255, which is each other site
unfoldable pub addressee_of : Data → ℕ
addressee_of m = unwrap_or (option_and_then (number_below (2 ^ 8)) (option_and_then (at 1) (get (codes "token") m))) 255

-- a message as C is given it: its line, which is that of the event of a receiver, and the receiver. No message has a float
pub record IsSentAs (m : Data) (s : Sent) : Type 0 where
  pub text : has_float m ≡ false → string_bytes s.text ≡ compact_text m
  pub to : s.to ≡ addressee_of m

-- the message of this index, if there is one
abbrev pub IsMessage : List Data → ℕ → Option Sent → Type 0
IsMessage ms i None = slice_get ms i ≡ None
IsMessage ms i (Some s) = (m : Data) × (slice_get ms i ≡ Some m) × IsSentAs m s

-- a line has the message of this index; or this number of messages, none of which it is
abbrev pub IsOnLine : List Data → ℕ → OnLine → Type 0
IsOnLine ms i (Found s) = (m : Data) × (slice_get ms i ≡ Some m) × IsSentAs m s
IsOnLine ms i (Behind n) = (n ≡ length ms) × (n ≤ i)

-- C finds the message at the beginning of the buffer, as much of it as there is capacity for, how many bytes it has, and
-- which site it is for
pub record IsHandedMessage (m : Data) (before after : List ℕ) (n to : ℕ) : Type 0 where
  pub text : List ℕ
  pub text_is : has_float m ≡ false → text ≡ compact_text m
  pub copied : Copies text before after n
  pub to_is : to ≡ addressee_of m
