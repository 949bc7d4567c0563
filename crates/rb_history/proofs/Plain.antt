-- Bytes that are written in a string as they are, and parts of a text.
use Rattle.rb_history.proofs.Words.{escape_byte_plain, escape, quoted, escape_byte, BeginsWithMember, IsBetween, behind_quote, word_of}
use Rattle.rb_history.proofs.Words.{one_json, is_account_name, is_name_byte, IsName, name_text, Label, OpName, Blue, Red, Data, of_integer}
use Rattle.rb_history.proofs.Words.{compact_text, number_text, Bool, List, [], ap, append_assoc, arith, codes, decimal, get_or, length}
use Rattle.rb_history.proofs.Words.{negsuc, pos, refl, suc, sym, true, ℕ, ℤ, ◌&&◌, ◌++◌, ◌<◌, ◌^◌, ◌∙◌, ◌∷◌, ◌≡◌, ◌≤◌, and_parts, nat_tests}
use Rattle.rb_history.proofs.Words.{digits_decimal, signed_decimal, digits, list_all, nat_le, ⊤}
use Rattle.std.proofs.lemmas.Str.Parse.{digit_at}
use Rattle.rb_money.specs.declared.accounts.TheConstants.{LONGEST_NAME}
use Rattle.rb_shadow.specs.declared.label.Label.TheVariants.{Deposit}
use Rattle.rb_shadow.proofs.Public.Digits.{in_digits}

-- no byte of the list needs an escape
abbrev pub ArePlain : List ℕ → Type 0
ArePlain [] = ⊤
ArePlain (x ∷ xs) = (escape_byte x ≡ x ∷ []) × ArePlain xs

-- bytes that need no escape are written as they are
pub escape_plain : (xs : List ℕ) → ArePlain xs → escape xs ≡ xs
escape_plain [] h = refl
escape_plain (x ∷ xs) h = rw (h.0, escape_plain xs h.1) refl

-- so are two texts that need none
pub plain-append : (xs ys : List ℕ) → ArePlain xs → ArePlain ys → ArePlain (xs ++ ys)
plain-append [] ys h k = k
plain-append (x ∷ xs) ys h k = (h.0, plain-append xs ys h.1 k)

plain_by : (xs : List ℕ) → ((i : ℕ) → i < length xs → (48 ≤ get_or xs i 0) × (get_or xs i 0 ≤ 57)) → ArePlain xs
plain_by [] h = tt
plain_by (x ∷ xs) h =
    let first = h 0 (omega arith) in
    (escape_byte_plain x (λ e. omega arith) (λ e. omega arith) (omega arith), plain_by xs (λ i k. h (suc i) (omega arith)))

-- digits need no escape
pub plain_decimal : (n : ℕ) → n < 2 ^ 64 → ArePlain (decimal n)
plain_decimal n h = plain_by (decimal n) (λ i k. let d = digit_at (decimal n) i (digits_decimal in_digits n h) k in
    (omega arith, omega arith))

-- nor does an operation's name
pub plain_name : (x : OpName) → IsName x → ArePlain (name_text x)
unfolding escape_byte
plain_name (Blue s n) h = plain-append ((codes "B" ++ decimal s) ++ codes ".") (decimal n) (plain-append (codes "B"
    ++ decimal s) (codes ".") (plain-append (codes "B") (decimal s) (refl, tt) (plain_decimal s (omega arith))) (
      refl,
      tt,
    )) (plain_decimal n (omega arith))
plain_name (Red n) h = plain-append (codes "R") (decimal n) (refl, tt) (plain_decimal n (omega arith))

-- bytes that need no escape are written between the quotes as they are
pub quoted_plain : (xs : List ℕ) → ArePlain xs → quoted xs ≡ 34 ∷ (xs ++ 34 ∷ [])
quoted_plain xs h = rw (escape_plain xs h) refl

-- a kind's word has no escape
pub label_plain : (k : Label) → escape (word_of k) ≡ word_of k
unfolding escape_byte
label_plain Deposit = refl
label_plain _ = refl

-- a kind's word in quotes
pub quoted_label : (k : Label) → quoted (word_of k) ≡ 34 ∷ (word_of k ++ 34 ∷ [])
unfolding escape_byte
quoted_label Deposit = refl
quoted_label _ = refl

-- a blue operation's name in quotes, piece by piece
pub quoted_blue : (s n : ℕ) → s < 2 ^ 8 → n < 2 ^ 32 → quoted (name_text (Blue s n)) ≡ codes "\"B"
    ++ (decimal s ++ (codes "." ++ (decimal n ++ codes "\"")))
quoted_blue s n h k = quoted_plain (name_text (Blue s n)) (plain_name (Blue s n) (h, k)) ∙ simp append_assoc

-- a red operation's name in quotes, piece by piece
pub quoted_red : (n : ℕ) → n < 2 ^ 32 → quoted (name_text (Red n)) ≡ codes "\"R" ++ (decimal n ++ codes "\"")
quoted_red n h = quoted_plain (name_text (Red n)) (plain_name (Red n) h) ∙ simp append_assoc

-- a byte of an account's name
byte_plain : (b : ℕ) → is_name_byte b ≡ true → escape_byte b ≡ b ∷ []
byte_plain b h = escape_byte_plain b (λ e. let f : is_name_byte 34 ≡ true = (λ j. is_name_byte (sym e j)) ∙ h in
    cc) (λ e. let f : is_name_byte 92 ≡ true = (λ j. is_name_byte (sym e j)) ∙ h in cc) (grind (arith, nat_tests))

-- bytes of a kind that needs no escape need none
pub plain_all : (p : ℕ → Bool) → ((b : ℕ) → p b ≡ true → escape_byte b ≡ b ∷ []) → (bs : List ℕ) → list_all p bs ≡ true → ArePlain bs
plain_all p each [] h = tt
plain_all p each (b ∷ bs) h = let q = and_parts (p b) (list_all p bs) h in (each b q.0, plain_all p each bs q.1)

-- an account's name is written in quotes as it is
pub account_plain : (name : List ℕ) → is_account_name name ≡ true → escape name ≡ name
account_plain name h = escape_plain name (plain_all is_name_byte byte_plain name (and_parts (nat_le 1 (length name) && nat_le (length name)
    LONGEST_NAME) _ h).1)

-- ---- numbers in digits, among them those that refusals hold

-- an integer as JSON is written with its sign if it is negative
pub integer_text : (z : ℤ) → number_text (of_integer z) ≡ signed_decimal z
integer_text (pos n) = refl
integer_text (negsuc n) = refl

-- the numbers of a second cancellation, a red operation that is after, a batch refused and a bad message in digits
pub numerals : (decimal 6 ≡ codes "6") × (decimal 9 ≡ codes "9") × (decimal 13 ≡ codes "13") × (decimal 17 ≡ codes "17")
unfolding digits
numerals = (refl, refl, refl, refl)

-- ---- parts that are read one after another are the text that is written

-- a text between two others, each read after the one before it
pub between : (text front behind middle more back rest : List ℕ) → text ≡ front ++ behind → behind ≡ middle ++ more → more ≡ back ++ rest
    → IsBetween middle text front back rest
between text front behind middle more back rest e f g = rw (e, f, g) (simp append_assoc)

-- a part after another
pub two_written : (text a front b back more rest : List ℕ) → text ≡ (front ++ (a ++ back)) ++ more → more ≡ b ++ rest
    → text ≡ (front ++ (a ++ (back ++ b))) ++ rest
two_written text a front b back more rest e f = rw (e, f) (simp append_assoc)

-- a string with no escape
pub string_written : (name text rest : List ℕ) → escape name ≡ name → text ≡ name ++ (codes "\"" ++ rest) → text ≡ behind_quote name ++ rest
string_written name text rest plain e = e ∙ sym (append_assoc name (codes "\"") rest) ∙ ap (λ l. (l ++ codes "\"") ++ rest) (sym plain)

-- an operation's name
pub name_written : (x : OpName) (text rest : List ℕ) → IsName x → text ≡ name_text x ++ (codes "\"" ++ rest)
    → text ≡ behind_quote (name_text x) ++ rest
name_written x text rest h e = string_written (name_text x) text rest (escape_plain (name_text x) (plain_name x h)) e

-- a kind's word
pub label_written : (k : Label) (text mid rest : List ℕ) → text ≡ word_of k ++ mid → mid ≡ codes "\"" ++ rest
    → text ≡ behind_quote (word_of k) ++ rest
label_written k text mid rest is e = string_written (word_of k) text rest (label_plain k) (is ∙ ap (λ l. word_of k ++ l) e)

-- an object's one member, read after its first quote
pub member_of : {text rest : List ℕ} (key : List ℕ) (value : Data)
    → text ≡ behind_quote key ++ (codes ":" ++ (compact_text value ++ rest)) → BeginsWithMember (one_json key value) text rest
member_of key value e = record { key = key; value = value; object = refl; written = e }
