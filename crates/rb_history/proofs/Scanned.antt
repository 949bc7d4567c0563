-- The finds of a scan of a line's bytes.
use Rattle.rb_history.proofs.Words.{escape_byte_plain, escape, escape_byte, IsUtf8, List, [], ap, arith, decimal, drop, get_or, length}
use Rattle.rb_history.proofs.Words.{subst, sym, take, ℕ, ◌%◌, ◌*◌, ◌++◌, ◌+◌, ◌-◌, ◌/◌, ◌<◌, ◌^◌, ◌∙◌, ◌∷◌, ◌≡◌, ◌≤◌, take-add}
use Rattle.rb_history.proofs.Words.{decimal_digit, decimal_step, take_more, IsCharBoundary-after_ascii, IsCharBoundary-from_take}
use Rattle.rb_history.proofs.Words.{IsCharBoundary}
use Rattle.std.proofs.lemmas.List.Concat.{flat_map-append}

-- a byte more of two texts that begin alike
pub same_more : (text front : List ℕ) (i : ℕ) → i < length text → i < length front → get_or text i 0 ≡ get_or front i 0 →
    take i text ≡ take i front → take (i + 1) text ≡ take (i + 1) front
same_more text front i h k here e = take_more text i 0 h ∙ (λ j. e j ++ (here j ∷ [])) ∙ sym (take_more front i 0 k)

-- some bytes more of two texts that begin alike
pub same_many_more : (text front : List ℕ) (i many : ℕ) (bytes : ℕ → List ℕ) (x y : ℕ) → bytes x ≡ take many (drop i text)
    → bytes y ≡ take many (drop i front) → x ≡ y → take i text ≡ take i front → take (i + many) text ≡ take (i + many) front
same_many_more text front i many bytes x y here there same e =
    let alike = sym here ∙ ap bytes same ∙ there in
    take-add i many text ∙ (λ j. e j ++ alike j) ∙ sym (take-add i many front)

-- a plain byte more
pub one_more : (text : List ℕ) (i : ℕ) → i < length text → escape (take i text) ≡ take i text → (get_or text i 0 ≡ 34 → ⊥) →
    (get_or text i 0 ≡ 92 → ⊥) → 32 ≤ get_or text i 0 → escape (take (i + 1) text) ≡ take (i + 1) text
one_more text i h e quote backslash control =
    let x = get_or text i 0 in
    let more : take (i + 1) text ≡ take i text ++ x ∷ [] = take_more text i 0 h in
    ap escape more ∙ flat_map-append escape_byte (take i text) (x ∷ [])
    ∙ (λ j. e j ++ (escape_byte_plain x quote backslash control j ++ [])) ∙ sym more

-- the first digit of a number
pub one_digit : (text : List ℕ) → 0 < length text → 48 ≤ get_or text 0 0 → get_or text 0 0 ≤ 57 →
    take 1 text ≡ decimal (get_or text 0 0 - 48)
one_digit text h low high =
    let d = get_or text 0 0 - 48 in
    let back : 48 + d ≡ get_or text 0 0 = omega arith in
    take_more text 0 0 h ∙ ap (λ x. x ∷ []) (sym back) ∙ sym (decimal_digit d (omega arith))

-- a digit more
pub digit_more : (text : List ℕ) (len n : ℕ) → len < length text → 0 < n → n * 10 + (get_or text len 0 - 48) < 2 ^ 64 →
    48 ≤ get_or text len 0 → get_or text len 0 ≤ 57 → take len text ≡ decimal n →
    take (len + 1) text ≡ decimal (n * 10 + (get_or text len 0 - 48))
digit_more text len n h some small low high e =
    let d = get_or text len 0 - 48 in
    let m = n * 10 + d in
    let back : 48 + d ≡ get_or text len 0 = omega arith in
    let front : m / 10 ≡ n = omega arith in
    let last : m % 10 ≡ d = omega arith in
    take_more text len 0 h ∙ (λ j. e j ++ (sym back j ∷ [])) ∙ (λ j. decimal (sym front j) ++ ((48 + sym last j) ∷ []))
    ∙ sym (decimal_step m (omega arith) small)

-- a text may be cut after a text that it begins with
pub cut_behind : (text bytes front : List ℕ) (n : ℕ) → bytes ≡ text → IsUtf8 text → n ≤ length bytes → take n bytes ≡ front → IsUtf8 front →
    IsCharBoundary text n
cut_behind text bytes front n e utf8 h is front_utf8 = IsCharBoundary-from_take text n utf8 (omega (
  arith,
  ap length e,
)) (subst IsUtf8 (sym is ∙ ap (take n) e) front_utf8)

-- a text may be cut after a quote
pub cut_after_quote : (text bytes : List ℕ) (i : ℕ) → bytes ≡ text → IsUtf8 text → i < length bytes → get_or bytes i 0 ≡ 34 →
    IsCharBoundary text (i + 1)
cut_after_quote text bytes i e utf8 h quote =
    let here : get_or text i 0 ≡ 34 = ap (λ l. get_or l i 0) (sym e) ∙ quote in
    IsCharBoundary-after_ascii text i utf8 (omega (arith, ap length e)) (omega arith)
