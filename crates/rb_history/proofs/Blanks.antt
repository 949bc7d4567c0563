-- Tokens are read alike, whatever follows them, and blanks between them aren't read.
use Rattle.rb_history.proofs.Words.{IsNumber-decimal, tokens, escape, Bool, List, [], ap, append-nil, append_assoc, ap₂, arith, cond}
use Rattle.rb_history.proofs.Words.{decimal, drop, false, get_or, length, refl, subst, suc, sym, take, take-append-drop, true, true≢false}
use Rattle.rb_history.proofs.Words.{zero, ℕ, ◌++◌, ◌+◌, ◌<◌, ◌==◌, ◌^◌, ◌||◌, ◌∙◌, ◌∷◌, ◌≡◌, ◌≤◌, take-add, eqb-true, or_right, take_more}
use Rattle.json.specs.Token.{number, string}
use Rattle.json.specs.Text.{content, plain}
use Rattle.json.specs.Word.{is_operator, is_space, ends_word}
use Rattle.json.specs.Lex.{Lexeme, Mode, token, quote, backslash, operator, space, other, lex, lex_byte, between, in_string}
use Rattle.json.specs.Lex.{operator_lexeme, string_token, fresh, punctuate}
use Rattle.json.proofs.Printed.Numbers.{lex-number}
use Rattle.json.proofs.Printed.Strings.{content-escape, lex-escape}
use Rattle.rb_history.specs.Blanks.{AreTokens, JoinsTokens}

-- an operator is no quote and no backslash, so it is read by itself
by_class : (q b o s : Bool) (x : ℕ) (xs : List ℕ) (k : Mode → List Lexeme) → (q ≡ true → o ≡ false) → (b ≡ true → o ≡ false) → o ≡ true
    → lex_byte between (cond q quote (cond b backslash (cond o operator (cond s space other)))) x xs k ≡ operator_lexeme x ∷ k between
by_class true b o s x xs k hq hb h = absurd (true≢false (sym h ∙ hq refl))
by_class false true o s x xs k hq hb h = absurd (true≢false (sym h ∙ hb refl))
by_class false false true s x xs k hq hb h = refl
by_class false false false s x xs k hq hb h = absurd (true≢false (sym h))

mark_read : (x : ℕ) (xs : List ℕ) → is_operator x ≡ true → lex between (x ∷ xs) ≡ operator_lexeme x ∷ lex between xs
unfolding lex
mark_read x xs h =
    by_class (x == 34) (x == 92) (is_operator x) (is_space x) x xs (λ m. lex m xs) (λ e. ap is_operator (eqb-true x 34 e))
    (λ e. ap is_operator (eqb-true x 92 e)) h

mark_tokens : (x : ℕ) → is_operator x ≡ true → AreTokens (x ∷ [])
mark_tokens x h xs ys e = mark_read x xs h ∙ ap (λ l. operator_lexeme x ∷ l) e ∙ sym (mark_read x ys h)

string_read : (s xs : List ℕ) → escape s ≡ s → lex between ((34 ∷ (s ++ 34 ∷ [])) ++ xs) ≡ token (string s) ∷ lex between xs
unfolding lex
string_read s xs h =
    ap (λ l. lex between (34 ∷ l)) (append_assoc s (34 ∷ []) xs)
    ∙ ap (λ l. token (string_token (content plain (l ++ 34 ∷ xs))) ∷ lex in_string (l ++ 34 ∷ xs)) (sym h)
    ∙ ap₂ (λ o l. token (string_token o) ∷ l) (content-escape s xs) (lex-escape s xs)

string_tokens : (s : List ℕ) → escape s ≡ s → AreTokens (34 ∷ (s ++ 34 ∷ []))
string_tokens s h xs ys e = string_read s xs h ∙ ap (λ l. token (string s) ∷ l) e ∙ sym (string_read s ys h)

number_read : (n x : ℕ) (xs : List ℕ) → n < 2 ^ 64 → is_operator x ≡ true
    → lex between ((decimal n ++ x ∷ []) ++ xs) ≡ token (number (decimal n)) ∷ (operator_lexeme x ∷ lex between xs)
number_read n x xs h m =
    let ended : ends_word (x ∷ xs) ≡ true = ap (λ o. o || is_space x) m in
    ap (lex between) (append_assoc (decimal n) (x ∷ []) xs) ∙ lex-number (decimal n) (x ∷ xs) (IsNumber-decimal n h) ended
    ∙ ap (λ l. token (number (decimal n)) ∷ l) (mark_read x xs m)

number_tokens : (n x : ℕ) → n < 2 ^ 64 → is_operator x ≡ true → AreTokens (decimal n ++ x ∷ [])
number_tokens n x h m xs ys e =
    number_read n x xs h m ∙ ap (λ l. token (number (decimal n)) ∷ (operator_lexeme x ∷ l)) e ∙ sym (number_read n x ys h m)

more_tokens : (front back : List ℕ) → AreTokens front → AreTokens back → AreTokens (front ++ back)
more_tokens front back h k xs ys e =
    ap (lex between) (append_assoc front back xs) ∙ h (back ++ xs) (back ++ ys) (k xs ys e)
    ∙ ap (lex between) (sym (append_assoc front back ys))

-- a text that begins with a byte that is a token
pub mark_at : (text : List ℕ) → 0 < length text → is_operator (get_or text 0 0) ≡ true → AreTokens (take 1 text)
mark_at text h m = subst AreTokens (sym (take_more text 0 0 h)) (mark_tokens (get_or text 0 0) m)

closed : (text : List ℕ) (len : ℕ) → 0 < length text → get_or text 0 0 ≡ 34 → len < length (drop 1 text) → get_or (drop 1 text) len 0 ≡ 34
    → take (len + 2) text ≡ 34 ∷ (take len (drop 1 text) ++ 34 ∷ [])
closed [] len h first k last = absurd (omega arith)
closed (x ∷ xs) len h first k last =
    let more : len + 2 ≡ suc (len + 1) = omega arith in
    ap (λ n. take n (x ∷ xs)) more ∙ (λ j. first j ∷ take_more xs len 0 k j) ∙ ap (λ b. 34 ∷ (take len xs ++ b ∷ [])) last

-- with a string
pub string_at : (text rest : List ℕ) (len : ℕ) → rest ≡ drop 1 text → 0 < length text → get_or text 0 0 ≡ 34 → len < length rest
    → get_or rest len 0 ≡ 34 → escape (take len rest) ≡ take len rest → AreTokens (take (len + 2) text)
string_at text rest len e h first k last clear =
    let near : len < length (drop 1 text) = omega (arith, ap length e) in
    let quote : get_or (drop 1 text) len 0 ≡ 34 = ap (λ l. get_or l len 0) (sym e) ∙ last in
    let same : escape (take len (drop 1 text)) ≡ take len (drop 1 text) = subst (λ l. escape (take len l) ≡ take len l) e clear in
    subst AreTokens (sym (closed text len h first near quote)) (string_tokens (take len (drop 1 text)) same)

-- with a number, and a byte after it that is a token
pub number_at : (text : List ℕ) (len n : ℕ) → len < length text → n < 2 ^ 64 → take len text ≡ decimal n
    → is_operator (get_or text len 0) ≡ true → AreTokens (take (len + 1) text)
number_at text len n h small e m =
    let x = get_or text len 0 in
    subst AreTokens (sym (take_more text len 0 h ∙ ap (λ l. l ++ x ∷ []) e)) (number_tokens n x small m)

-- with tokens, and further ones after them
pub tokens_at : (text rest : List ℕ) (len more : ℕ) → rest ≡ drop len text → AreTokens (take len text) → AreTokens (take more rest)
    → AreTokens (take (len + more) text)
tokens_at text rest len more e h k =
    subst AreTokens (sym (take-add len more text)) (more_tokens (take len text) (take more (drop len text)) h
    (subst (λ l. AreTokens (take more l)) e k))

-- one of four tests holds
of_four : {P : Type 0} (a b c d : Bool) → (a ≡ true → P) → (b ≡ true → P) → (c ≡ true → P) → (d ≡ true → P) → (a || b || c || d) ≡ true → P
of_four true b c d f g h k e = f refl
of_four false true c d f g h k e = g refl
of_four false false true d f g h k e = h refl
of_four false false false d f g h k e = k e

-- a blank isn't read
space_read : (x : ℕ) (xs : List ℕ) → is_space x ≡ true → lex between (x ∷ xs) ≡ lex between xs
unfolding lex
space_read x xs h =
    let P : ℕ → Type 0 = λ y. lex between (y ∷ xs) ≡ lex between xs in
    of_four (x == 32) (x == 9) (x == 10) (x == 13)
    (λ e. subst P (sym (eqb-true x 32 e)) refl) (λ e. subst P (sym (eqb-true x 9 e)) refl)
    (λ e. subst P (sym (eqb-true x 10 e)) refl) (λ e. subst P (sym (eqb-true x 13 e)) refl) h

blank_read : (text : List ℕ) → 0 < length text → is_space (get_or text 0 0) ≡ true → lex between (drop 1 text) ≡ lex between text
blank_read [] h e = absurd (omega arith)
blank_read (x ∷ xs) h e = sym (space_read x xs e)

-- what is after a blank at the beginning of a text is read as the text is
pub blank_at : (text rest : List ℕ) → rest ≡ drop 1 text → 0 < length text → is_space (get_or text 0 0) ≡ true
    → lex between rest ≡ lex between text
blank_at text rest same h e = ap (lex between) same ∙ blank_read text h e

-- a token of one byte at the beginning of a text
mark_first : (text : List ℕ) → 0 < length text → is_operator (get_or text 0 0) ≡ true
    → lex between text ≡ operator_lexeme (get_or text 0 0) ∷ lex between (drop 1 text)
mark_first [] h m = absurd (omega arith)
mark_first (x ∷ xs) h m = mark_read x xs m

-- a number ends at a blank
ended_at : (text : List ℕ) (len : ℕ) → len < length text → is_space (get_or text len 0) ≡ true → ends_word (drop len text) ≡ true
ended_at [] len h e = absurd (omega arith)
ended_at (x ∷ xs) zero h e = or_right (is_operator x) (is_space x) e
ended_at (x ∷ xs) (suc len) h e = ended_at xs len (omega (arith, h)) e

-- a number that a blank follows, and the token after the blanks, are added without the blanks
pub joins_number : (old new text behind rest : List ℕ) (len n : ℕ) → n < 2 ^ 64 → take len text ≡ decimal n → len < length text
    → is_space (get_or text len 0) ≡ true → lex between behind ≡ lex between (drop len text) → 0 < length behind
    → is_operator (get_or behind 0 0) ≡ true → rest ≡ drop 1 behind → new ≡ (old ++ take len text) ++ get_or behind 0 0 ∷ []
    → JoinsTokens old new text rest
joins_number old new text behind rest len n small e within blank same some m is added =
    let x = get_or behind 0 0 in
    let digits : take len text ++ x ∷ [] ≡ decimal n ++ x ∷ [] = ap (λ l. l ++ x ∷ []) e in
    let whole : lex between text ≡ token (number (decimal n)) ∷ lex between (drop len text) =
    ap (lex between) (sym (take-append-drop len text) ∙ ap (λ l. l ++ drop len text) e)
    ∙ lex-number (decimal n) (drop len text) (IsNumber-decimal n small) (ended_at text len within blank) in
    let further : lex between (drop len text) ≡ operator_lexeme x ∷ lex between rest =
    sym same ∙ mark_first behind some m ∙ ap (λ l. operator_lexeme x ∷ lex between l) (sym is) in
    record {
      more = take len text ++ x ∷ [];
      added = added ∙ append_assoc old (take len text) (x ∷ []);
      whole = subst AreTokens (sym digits) (number_tokens n x small m);
      read = ap (λ l. lex between (l ++ rest)) digits ∙ number_read n x rest small m
          ∙ ap (λ l. token (number (decimal n)) ∷ l) (sym further) ∙ sym whole;
    }

-- tokens before a blank are added as they are
pub joins_tokens : (old new text rest : List ℕ) (len : ℕ) → AreTokens (take len text) → rest ≡ drop len text → new ≡ old ++ take len text
    → JoinsTokens old new text rest
joins_tokens old new text rest len h is added = record {
  more = take len text;
  added = added;
  whole = h;
  read = ap (λ l. lex between (take len text ++ l)) is ∙ ap (lex between) (take-append-drop len text);
}

-- whole tokens stay whole, and what is added to them is read as the text was
pub joined_whole : (old new text rest : List ℕ) → JoinsTokens old new text rest → AreTokens old → AreTokens new
joined_whole old new text rest j h = subst AreTokens (sym j.added) (more_tokens old j.more h j.whole)

pub joined_read : (old new text rest left line : List ℕ) → JoinsTokens old new text rest → AreTokens old
    → lex between left ≡ lex between rest → lex between (old ++ text) ≡ lex between line → lex between (new ++ left) ≡ lex between line
joined_read old new text rest left line j h same is =
    ap (λ l. lex between (l ++ left)) j.added ∙ ap (lex between) (append_assoc old j.more left)
    ∙ h (j.more ++ left) text (j.whole left rest same ∙ j.read) ∙ is

-- if nothing is left the tokens are the line's
pub all_joined : (done left line : List ℕ) → length left ≤ 0 → lex between (done ++ left) ≡ lex between line → tokens done ≡ tokens line
all_joined done [] line h e = ap (punctuate fresh) (ap (lex between) (sym (append-nil done)) ∙ e)
all_joined done (x ∷ xs) line h e = absurd (omega arith)
