-- The line of a reply is UTF-8.
use Rattle.rb_history.proofs.Words.{◌≡◌, ◌/◌, ◌%◌, ◌<◌, ◌==◌, ℕ, pos, negsuc, zero, suc, List, [], ◌∷◌, ◌++◌, Bool, true, false, cond}
use Rattle.rb_history.proofs.Words.{codes, decimal, IsUtf8, refl, arith, rules, ⊤, map, nat_lt, digits, digits_onto, digit_glyph}
use Rattle.rb_history.proofs.Words.{IsUtf8-append, IsUtf8-nil, are_ascii, IsUtf8-are_ascii, IsUtf8-quoted, IsUtf8-boolean, quoted, Num}
use Rattle.rb_history.proofs.Words.{unsigned, negative, float, Data, null, number, string, array, object, Items, no_items, item, Members}
use Rattle.rb_history.proofs.Words.{no_members, member, items_of, comma_if, number_text, compact_text, items_text, members_text}
use Rattle.rb_history.proofs.Words.{CauseDeclined, CauseRefused, Refusal, AlreadyCancelled, RedBehind, BatchRefused, BadMessage, name_text}
use Rattle.rb_history.proofs.Words.{OpName, Blue, Red, Label, Reply, Made, Names, Held, Already, Applied, Refused}
use Rattle.rb_history.proofs.Words.{Row, line, reply_json, refusal_json, row_json, word_of, name_json, ◌&&◌, ap₂, and_parts, list_all}
use Rattle.serde_json.specs.Data.{boolean}
use Rattle.rb_shadow.specs.declared.label.Label.TheVariants.{Deposit}
use Rattle.rb_site.specs.declared.reply.Reply.TheVariants.{Statement}

either_all : (p : ℕ → Bool) (b : Bool) (xs ys : List ℕ) → list_all p xs ≡ true → list_all p ys ≡ true → list_all p (cond b xs ys) ≡ true
either_all p true xs ys h k = h
either_all p false xs ys h k = k

-- what holds of each digit holds of a number's
digits_all : (p : ℕ → Bool) → ((d : ℕ) → d < 10 → p (digit_glyph false d) ≡ true) → (k n : ℕ) (acc : List ℕ) → list_all p acc ≡ true
    → list_all p (digits_onto k 10 false n acc) ≡ true
digits_all p each zero n acc h = h
digits_all p each (suc k) n acc h =
    let d = digit_glyph false (n % 10) in
    let more : list_all p (d ∷ acc) ≡ true = ap₂ (λ a b. a && b) (each (n % 10) (omega arith)) h in
    either_all p (n / 10 == 0) (d ∷ acc) (digits_onto k 10 false (n / 10) (d ∷ acc)) more (digits_all p each k (n / 10) (d ∷ acc) more)

-- and so of all of them
pub decimal_all : (p : ℕ → Bool) → ((d : ℕ) → d < 10 → p (digit_glyph false d) ≡ true) → (n : ℕ) → list_all p (decimal n) ≡ true
unfolding digits
decimal_all p each n = digits_all p each 64 n [] refl

-- bytes of a kind that is ASCII are ASCII
pub ascii_all : (p : ℕ → Bool) → ((b : ℕ) → p b ≡ true → nat_lt b 128 ≡ true) → (bs : List ℕ) → list_all p bs ≡ true
    → are_ascii bs ≡ true
ascii_all p each [] h = refl
ascii_all p each (b ∷ bs) h = let q = and_parts (p b) (list_all p bs) h in rw (each b q.0, ascii_all p each bs q.1) refl

glyph_ascii : (d : ℕ) → d < 10 → nat_lt (digit_glyph false d) 128 ≡ true
glyph_ascii d h = let low : nat_lt d 10 ≡ true = search rules in rw low (search rules)

-- digits are UTF-8
pub decimal_utf8 : (n : ℕ) → IsUtf8 (decimal n)
decimal_utf8 n = IsUtf8-are_ascii (decimal n) (ascii_all (λ b. nat_lt b 128) (λ b e. e) (decimal n)
    (decimal_all (λ b. nat_lt b 128) glyph_ascii n))

number_utf8 : (n : Num) → IsUtf8 (number_text n)
number_utf8 (unsigned n) = decimal_utf8 n
number_utf8 (negative (pos n)) = decimal_utf8 n
number_utf8 (negative (negsuc n)) = IsUtf8-append (codes "-") (decimal (suc n)) (IsUtf8-are_ascii _ refl) (decimal_utf8 (suc n))
number_utf8 (float x) = IsUtf8-nil

-- an operation's name is UTF-8
pub name_utf8 : (x : OpName) → IsUtf8 (name_text x)
name_utf8 (Blue site n) = IsUtf8-append ((codes "B" ++ decimal site) ++
    codes ".") (decimal n) (IsUtf8-append (codes "B" ++ decimal site) (codes ".")
    (IsUtf8-append (codes "B") (decimal site) (IsUtf8-are_ascii _ refl) (decimal_utf8 site)) (IsUtf8-are_ascii _ refl)) (decimal_utf8 n)
name_utf8 (Red n) = IsUtf8-append (codes "R") (decimal n) (IsUtf8-are_ascii _ refl) (decimal_utf8 n)

-- a kind's word is UTF-8
pub label_utf8 : (k : Label) → IsUtf8 (word_of k)
label_utf8 Deposit = IsUtf8-are_ascii _ refl
label_utf8 _ = IsUtf8-are_ascii _ refl

-- each string in a value is UTF-8, and each key ASCII
abbrev mutual
  pub HasTexts : Data → Type 0
  HasTexts null = ⊤
  HasTexts (boolean b) = ⊤
  HasTexts (number n) = ⊤
  HasTexts (string s) = IsUtf8 s
  HasTexts (array ds) = ItemsHaveTexts ds
  HasTexts (object ms) = MembersHaveTexts ms

  pub ItemsHaveTexts : Items → Type 0
  ItemsHaveTexts no_items = ⊤
  ItemsHaveTexts (item d ds) = HasTexts d × ItemsHaveTexts ds

  pub MembersHaveTexts : Members → Type 0
  MembersHaveTexts no_members = ⊤
  MembersHaveTexts (member k d ms) = (are_ascii k ≡ true) × HasTexts d × MembersHaveTexts ms

comma_utf8 : (later : Bool) → IsUtf8 (comma_if later)
comma_utf8 true = IsUtf8-are_ascii _ refl
comma_utf8 false = IsUtf8-nil

mutual
  -- a value is written as UTF-8 if its strings are UTF-8 and its keys ASCII
  pub text_utf8 : (d : Data) → HasTexts d → IsUtf8 (compact_text d)
  text_utf8 null h = IsUtf8-are_ascii _ refl
  text_utf8 (boolean b) h = IsUtf8-boolean b
  text_utf8 (number n) h = number_utf8 n
  text_utf8 (string s) h = IsUtf8-quoted s h
  text_utf8 (array ds) h = IsUtf8-append (codes "[") (items_text false ds) (IsUtf8-are_ascii _ refl) (items_utf8 false ds h)
  text_utf8 (object ms) h = IsUtf8-append (codes "{") (members_text false ms) (IsUtf8-are_ascii _ refl) (members_utf8 false ms h)

  items_utf8 : (later : Bool) (ds : Items) → ItemsHaveTexts ds → IsUtf8 (items_text later ds)
  items_utf8 later no_items h = IsUtf8-are_ascii _ refl
  items_utf8 later (item d ds) h = IsUtf8-append (comma_if later) _ (comma_utf8 later)
      (IsUtf8-append (compact_text d) (items_text true ds) (text_utf8 d h.0) (items_utf8 true ds h.1))

  members_utf8 : (later : Bool) (ms : Members) → MembersHaveTexts ms → IsUtf8 (members_text later ms)
  members_utf8 later no_members h = IsUtf8-are_ascii _ refl
  members_utf8 later (member k d ms) h =
      let value = IsUtf8-append (compact_text d) (members_text true ms) (text_utf8 d h.1) (members_utf8 true ms h.2) in
      let key = IsUtf8-quoted k (IsUtf8-are_ascii k h.0) in
      IsUtf8-append (comma_if later) _ (comma_utf8 later) (IsUtf8-append (quoted k) _ key
      (IsUtf8-append (codes ":") _ (IsUtf8-are_ascii _ refl) value))

-- each string in a list of written things is UTF-8 if those in each thing are
pub list_texts : {A : Type 0} (written : A → Data) → ((x : A) → HasTexts (written x)) → (xs : List A) →
    ItemsHaveTexts (items_of (map written xs))
list_texts written h [] = tt
list_texts written h (x ∷ xs) = (h x, list_texts written h xs)

row_texts : (r : Row) → HasTexts (row_json r)
row_texts r = (tt, (name_utf8 r.name, (label_utf8 r.kind, (tt, (tt, (tt, tt))))))

refusal_texts : (r : Refusal) → HasTexts (refusal_json r)
refusal_texts (AlreadyCancelled position) = (refl, tt, (refl, tt, tt))
refusal_texts (RedBehind seen needed) = (refl, tt, (refl, tt, (refl, tt, tt)))
refusal_texts (BatchRefused index CauseDeclined) = (refl, IsUtf8-are_ascii _ refl, (refl, tt, (refl, tt, tt)))
refusal_texts (BatchRefused index (CauseRefused n)) = (refl, tt, (refl, tt, (refl, tt, tt)))
refusal_texts (BadMessage why) = (refl, tt, (refl, tt, tt))
refusal_texts r = (refl, tt, tt)

-- each string in a reply's object is UTF-8
pub reply_texts : (r : Reply) → HasTexts (reply_json r)
reply_texts (Made name kind) = (refl, label_utf8 kind, (refl, name_utf8 name, tt))
reply_texts (Names names) = (refl, list_texts name_json name_utf8 names, tt)
reply_texts (Held name) = (refl, name_utf8 name, tt)
reply_texts (Already name) = (refl, name_utf8 name, tt)
reply_texts (Applied name) = (refl, name_utf8 name, tt)
reply_texts (Statement shown) = (refl, tt, (refl, list_texts row_json row_texts shown.rows, (refl, tt, tt)))
reply_texts (Refused why) = refusal_texts why
reply_texts _ = (refl, tt, tt)

-- a reply's line is UTF-8
pub line_utf8 : (r : Reply) → IsUtf8 (line r)
line_utf8 r = IsUtf8-append (compact_text (reply_json r)) (codes "\n") (text_utf8 (reply_json r) (reply_texts r)) (IsUtf8-are_ascii _ refl)
