-- The lines of entries and of configurations are UTF-8, and no byte of them is a line feed.
use Rattle.rb_history.proofs.Words.{escape_byte_plain, IsUtf8-are_ascii, escape, quoted, escape_byte, accounts_of, config_json, start_json}
use Rattle.rb_history.proofs.Words.{numbered_from, numbered_json, blue_json, account_json, asked_entry_json, deps_json, event_json}
use Rattle.rb_history.proofs.Words.{last_members, request_json, shadow_json, AskedEntry, IsIdOrNone, list_json, number_json, IsConfigured}
use Rattle.rb_history.proofs.Words.{Settings, is_account_name, is_name_byte, MOST_SITES_OF_VERSION_1, Place, Request, Cancel, Deposit}
use Rattle.rb_history.proofs.Words.{Interest, Transfer, Withdraw, label_of, Kind, CancelKind, TransferKind, Shadow, Event, Apply, AsOf}
use Rattle.rb_history.proofs.Words.{Balance, Batch, Pass, Receive, Statement, Submit, ShadowMessage, TokenOnItsWay, Data, Items, Members}
use Rattle.rb_history.proofs.Words.{Num, array, float, item, member, negative, no_items, no_members, null, number, object, string, unsigned}
use Rattle.rb_history.proofs.Words.{items_of, comma_if, compact_text, items_text, members_text, number_text, Bool, IsUtf8, List, None, Some}
use Rattle.rb_history.proofs.Words.{[], ap, ap₂, arith, codes, decimal, false, inl, inr, negsuc, not, pos, refl, rules, suc, take, true}
use Rattle.rb_history.proofs.Words.{zero, ℕ, ◌&&◌, ◌++◌, ◌+◌, ◌<◌, ◌==◌, ◌∙◌, ◌∷◌, ◌≡◌, ◌≤◌, and_parts, cases_eq, cases_lt, ne_eqb}
use Rattle.rb_history.proofs.Words.{nat_tests, is_utf8-from_IsUtf8, digit_glyph, list_all, if◌then◌else◌, map, nat_lt, slice_get, unwrap_or}
use Rattle.rb_history.proofs.Utf8.{HasTexts, ItemsHaveTexts, MembersHaveTexts, label_utf8, list_texts, name_utf8, reply_texts, text_utf8}
use Rattle.rb_history.proofs.Utf8.{ascii_all, decimal_all}
use Rattle.rb_history.proofs.Public.IdText.{id_utf8}
use Rattle.std.proofs.lemmas.List.Folds.{list_all-append}
use Rattle.serde_json.specs.Data.{boolean}
use Rattle.rb_history.specs.OneLine.{ConfigsAreLines, EntriesAreLines}

-- an account's name is ASCII
byte_ascii : (b : ℕ) → is_name_byte b ≡ true → nat_lt b 128 ≡ true
byte_ascii b h = grind (arith, nat_tests)

name_text : (name : List ℕ) → is_account_name name ≡ true → IsUtf8 name
name_text name h = IsUtf8-are_ascii name (ascii_all is_name_byte byte_ascii name (and_parts _ (list_all is_name_byte name) h).1)

account_texts : (s : Settings) → IsConfigured s → (a : Place) → HasTexts (account_json s a)
account_texts s c a = (elim (slice_get s.names a.0) as (λ o. slice_get s.names a.0 ≡ o → IsUtf8 (unwrap_or o (codes "?"))) [
  | None ↦ λ e. IsUtf8-are_ascii _ refl
  | Some name ↦ λ e. name_text name (c.names a.0 name e)
]) refl

request_texts : (s : Settings) → IsConfigured s → (r : Request) → HasTexts (request_json s r)
request_texts s c (Deposit a n) = (refl, (account_texts s c a, (tt, tt)), tt)
request_texts s c (Withdraw a n) = (refl, (account_texts s c a, (tt, tt)), tt)
request_texts s c (Interest a n) = (refl, (account_texts s c a, (tt, tt)), tt)
request_texts s c (Cancel x) = (refl, name_utf8 x, tt)
request_texts s c (Transfer from to n) = (refl, (account_texts s c from, (account_texts s c to, (tt, tt))), tt)

last_texts : (s : Settings) → IsConfigured s → (k : Kind) → MembersHaveTexts (last_members s k)
last_texts s c (CancelKind x) = (refl, name_utf8 x, tt)
last_texts s c (TransferKind to) = (refl, account_texts s c to, tt)
last_texts s c _ = tt

blue_texts : (version : ℕ) (blue : List ℕ) → HasTexts (blue_json version blue)
unfolding blue_json
blue_texts version blue = at (version == 1)
  where
    at : (b : Bool) → HasTexts (if b then list_json number_json (take MOST_SITES_OF_VERSION_1 blue)
        else list_json numbered_json (numbered_from 0 blue))
    at true = list_texts number_json (λ n. tt) (take MOST_SITES_OF_VERSION_1 blue)
    at false = list_texts numbered_json (λ p. (tt, (tt, tt))) (numbered_from 0 blue)

shadow_texts : (s : Settings) → IsConfigured s → (v : Shadow) → HasTexts (shadow_json s v)
shadow_texts s c v =
    let deps : HasTexts (deps_json s.version v.deps) = (blue_texts s.version v.deps.blue, (tt, tt)) in (
      refl,
      account_texts s c v.account,
      (refl, tt, (refl, deps, (refl, tt, (refl, label_utf8 (label_of v.kind), (refl, name_utf8 v.name, last_texts s c v.kind))))),
    )

event_texts : (s : Settings) → IsConfigured s → (e : Event) → HasTexts (event_json s e)
event_texts s c (Submit r) = request_texts s c r
event_texts s c (Batch rs) = (refl, list_texts (request_json s) (request_texts s c) rs, tt)
event_texts s c (Receive (ShadowMessage v)) = (refl, shadow_texts s c v, tt)
event_texts s c (Receive (TokenOnItsWay m)) = (refl, (tt, (tt, (tt, tt))), tt)
event_texts s c (Apply x) = (refl, name_utf8 x, tt)
event_texts s c (Pass to) = (refl, tt, tt)
event_texts s c (Balance a) = (refl, account_texts s c a, tt)
event_texts s c (AsOf a n) = (refl, (account_texts s c a, (tt, tt)), tt)
event_texts s c (Statement a) = (refl, account_texts s c a, tt)

-- the line of an entry is UTF-8, with an id or without
pub entry_utf8 : (s : Settings) (site : ℕ) (x : AskedEntry) → IsConfigured s → IsIdOrNone x.id
    → IsUtf8 (compact_text (asked_entry_json s site x))
entry_utf8 s site x c = at x.id
  where
    at : (id : List ℕ) → IsIdOrNone id
        → IsUtf8 (compact_text (asked_entry_json s site (record { id = id; entry = x.entry })))
    at [] none = text_utf8 (asked_entry_json s site (record { id = []; entry = x.entry }))
        (refl, event_texts s c x.entry.event, (refl, reply_texts x.entry.reply, (refl, tt, tt)))
    at (b ∷ bs) (inl none) = absurd (cc)
    at (b ∷ bs) (inr is) = text_utf8 (asked_entry_json s site (record { id = b ∷ bs; entry = x.entry })) (
      refl,
      event_texts s c x.entry.event,
      (refl, id_utf8 (b ∷ bs) is, (refl, reply_texts x.entry.reply, (refl, tt, tt))),
    )

starts_texts : (names : List (List ℕ)) (starts : List ℕ)
    → ((i : ℕ) (name : List ℕ) → slice_get names i ≡ Some name → is_account_name name ≡ true)
    → ItemsHaveTexts (items_of (map start_json (accounts_of names starts)))
starts_texts [] starts h = tt
starts_texts (name ∷ names) [] h = tt
starts_texts (name ∷ names) (start ∷ starts) h = ((name_text name (h 0 name refl), (tt, tt)), starts_texts names starts (λ i. h (suc i)))

-- the line of a configuration is UTF-8
pub config_utf8 : (s : Settings) → IsConfigured s → IsUtf8 (compact_text (config_json s))
config_utf8 s c = text_utf8 (config_json s)
    (refl, starts_texts s.names s.starts c.names, (refl, tt, (refl, tt, (refl, tt, (refl, tt, (refl, tt, (refl, tt, (refl, tt, tt))))))))

-- ---- no byte of a written value is a line feed

abbrev single : List ℕ → Bool
single l = list_all (λ b. not (b == 10)) l

-- two texts, one after the other
both : (xs ys : List ℕ) → single xs ≡ true → single ys ≡ true → single (xs ++ ys) ≡ true
both xs ys h k = list_all-append (λ b. not (b == 10)) xs ys ∙ ap₂ (λ a b. a && b) h k

-- ---- a string

-- the escapes of the bytes below n have no line feed
abbrev escapes_below : ℕ → Bool
escapes_below zero = true
escapes_below (suc n) = single (escape_byte n) && escapes_below n

escape_below : (n : ℕ) → escapes_below n ≡ true → (x : ℕ) → x < n → single (escape_byte x) ≡ true
escape_below zero e x h = absurd (omega arith)
escape_below (suc n) e x h =
    let p = and_parts _ _ e in
    elim (cases_eq x n) [ inl same ↦ rw same p.0 | inr other ↦ escape_below n p.1 x (omega arith) ]

all_below : escapes_below 128 ≡ true
unfolding escape_byte
all_below = refl

high_byte : (x : ℕ) → 128 ≤ x → not (x == 10) ≡ true
high_byte x h = ap not (ne_eqb x 10 (λ e. omega arith))

escape_one : (x : ℕ) → single (escape_byte x) ≡ true
escape_one x = elim (cases_lt x 128) [
  | inl small ↦ escape_below 128 all_below x small
  | inr big ↦ ap single (escape_byte_plain x (λ e. omega arith) (λ e. omega arith) (omega arith)) ∙ ap (λ b. b && true) (high_byte x big)
]

escape_single : (s : List ℕ) → single (escape s) ≡ true
escape_single [] = refl
escape_single (x ∷ xs) = both (escape_byte x) (escape xs) (escape_one x) (escape_single xs)

quoted_single : (s : List ℕ) → single (quoted s) ≡ true
quoted_single s = both (34 ∷ []) (escape s ++ 34 ∷ []) refl (both (escape s) (34 ∷ []) (escape_single s) refl)

-- ---- a number

glyph_single : (d : ℕ) → d < 10 → not (digit_glyph false d == 10) ≡ true
glyph_single d h = let low : nat_lt d 10 ≡ true = search rules in rw low (ap not (ne_eqb (48 + d) 10 (λ e. omega arith)))

decimal_single : (n : ℕ) → single (decimal n) ≡ true
decimal_single n = decimal_all (λ b. not (b == 10)) glyph_single n

number_single : (n : Num) → single (number_text n) ≡ true
number_single (unsigned n) = decimal_single n
number_single (negative (pos n)) = decimal_single n
number_single (negative (negsuc n)) = both (codes "-") (decimal (suc n)) refl (decimal_single (suc n))
number_single (float x) = refl

-- ---- a value

comma_single : (later : Bool) → single (comma_if later) ≡ true
comma_single true = refl
comma_single false = refl

mutual
  value_single : (d : Data) → single (compact_text d) ≡ true
  value_single null = refl
  value_single (boolean true) = refl
  value_single (boolean false) = refl
  value_single (number n) = number_single n
  value_single (string s) = quoted_single s
  value_single (array ds) = both (codes "[") (items_text false ds) refl (items_single false ds)
  value_single (object ms) = both (codes "{") (members_text false ms) refl (members_single false ms)

  items_single : (later : Bool) (ds : Items) → single (items_text later ds) ≡ true
  items_single later no_items = refl
  items_single later (item d ds) = both (comma_if later) (compact_text d ++ items_text true ds) (comma_single later)
      (both (compact_text d) (items_text true ds) (value_single d) (items_single true ds))

  members_single : (later : Bool) (ms : Members) → single (members_text later ms) ≡ true
  members_single later no_members = refl
  members_single later (member k d ms) =
      let rest = compact_text d ++ members_text true ms in
      let value = both (compact_text d) (members_text true ms) (value_single d) (members_single true ms) in
      both (comma_if later) (quoted k ++ 58 ∷ rest) (comma_single later)
      (both (quoted k) (58 ∷ rest) (quoted_single k) (both (codes ":") rest refl value))

-- what is written for a configuration is one line
pub configs_lines : ConfigsAreLines
configs_lines s c =
    record { utf8 = is_utf8-from_IsUtf8 (compact_text (config_json s)) (config_utf8 s c); no_feed = value_single (config_json s) }

-- what is written for an entry is one line, with an id or without
pub entries_lines : EntriesAreLines
entries_lines s c site x id = record {
  utf8 = is_utf8-from_IsUtf8 (compact_text (asked_entry_json s site x)) (entry_utf8 s site x c id);
  no_feed = value_single (asked_entry_json s site x);
}
