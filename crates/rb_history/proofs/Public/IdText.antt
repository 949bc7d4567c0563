-- An id, as a text: its bytes are written as they are, and are read back.
use Rattle.rb_history.proofs.Words.{escape_byte_plain, IsUtf8-are_ascii, escape, quoted, escape_byte, id_at, is_id, is_id_byte, string}
use Rattle.rb_history.proofs.Words.{IsUtf8, List, Some, [], ap, append_assoc, arith, codes, length, refl, sym, true, ℕ, ◌&&◌, ◌++◌, ◌∙◌}
use Rattle.rb_history.proofs.Words.{◌∷◌, ◌≡◌, ◌≤◌, and_parts, nat_tests, list_all, nat_le, nat_lt}
use Rattle.rb_history.specs.declared.id.TheConstants.{MOST_ID_BYTES}
use Rattle.rb_history.proofs.Plain.{ArePlain, escape_plain, plain_all, quoted_plain}
use Rattle.rb_history.proofs.Utf8.{ascii_all}

-- ---- a byte of it

-- each is of 45 to 122, so neither a control, a line feed nor a quote
id_byte_range : (b : ℕ) → is_id_byte b ≡ true → (45 ≤ b) × (b ≤ 122)
id_byte_range b h = grind (arith, nat_tests)

-- none is a backslash, so each is written as it is
id_byte_plain : (b : ℕ) → is_id_byte b ≡ true → escape_byte b ≡ b ∷ []
id_byte_plain b h =
    let range = id_byte_range b h in
    escape_byte_plain b (λ e. omega (arith, range.0))
    (λ e. let f : is_id_byte 92 ≡ true = (λ j. is_id_byte (sym e j)) ∙ h in cc) (omega (arith, range.0))

-- ---- its bytes

-- each byte is one that an id may have
pub id_bytes : (t : List ℕ) → is_id t ≡ true → list_all is_id_byte t ≡ true
id_bytes t h =
    (and_parts (nat_le (length t) MOST_ID_BYTES) (list_all is_id_byte t)
    (and_parts (nat_le 1 (length t)) (nat_le (length t) MOST_ID_BYTES && list_all is_id_byte t) h).1).1

-- no byte of an id needs an escape
pub id_plain : (t : List ℕ) → is_id t ≡ true → ArePlain t
id_plain t h = plain_all is_id_byte id_byte_plain t (id_bytes t h)

-- an id is written as it is
pub id_escape : (t : List ℕ) → is_id t ≡ true → escape t ≡ t
id_escape t h = escape_plain t (id_plain t h)

-- and so between its quotes, before what follows
pub id_quoted : (t rest : List ℕ) → is_id t ≡ true → quoted t ++ rest ≡ codes "\"" ++ (t ++ (codes "\"" ++ rest))
id_quoted t rest h =
    ap (λ l. l ++ rest) (quoted_plain t (id_plain t h)) ∙ ap (λ l. 34 ∷ l) (append_assoc t (codes "\"") rest)

byte_ascii : (b : ℕ) → is_id_byte b ≡ true → nat_lt b 128 ≡ true
byte_ascii b h = let range = id_byte_range b h in grind (arith, nat_tests, range.1)

-- its bytes are ASCII, so it is UTF-8
pub id_utf8 : (t : List ℕ) → is_id t ≡ true → IsUtf8 t
id_utf8 t h = IsUtf8-are_ascii t (ascii_all is_id_byte byte_ascii t (id_bytes t h))

-- no bytes are no id
pub id_some : (t : List ℕ) → is_id t ≡ true → t ≡ [] → ⊥
id_some t h none = let f : is_id [] ≡ true = (λ j. is_id (sym none j)) ∙ h in cc

-- ---- as a value

-- the string of an id is read as the id
pub id_read : (t : List ℕ) → is_id t ≡ true → id_at (string t) ≡ Some t
id_read t h = rw h refl
