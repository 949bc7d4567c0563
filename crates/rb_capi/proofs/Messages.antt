-- The messages of an answer, line by line.
use Rattle.std.proofs.Common.{◌≡◌, ◌∙◌, ℕ, zero, suc, ◌-◌, ◌<◌, ◌≤◌, ◌^◌, List, [], ◌∷◌, ◌++◌, length, map}
use Rattle.std.proofs.Common.{Some, None, refl, ap, arith, sym}
use Rattle.std.specs.Prelude.{codes, unwrap_or}
use Rattle.std.specs.List.{slice_get}
use Rattle.std.proofs.lemmas.Option.{slice_get_within}
use Rattle.std.proofs.lemmas.List.Concat.{flat_map-cons}
use Rattle.serde_json.specs.Data.{Data}
use Rattle.serde_json.specs.Find.{as_array, at, get}
use Rattle.serde_json.specs.View.{items_of, items_view, view}
use Rattle.serde_json.specs.declared.value.Value.{Value}
use Rattle.rb_lines.specs.Lines.{lines_of}
use Rattle.rb_history.specs.Values.{number_below}
use Rattle.rb_capi.specs.declared.sent.OnLine.TheVariants.{Behind, Found}
use Rattle.rb_capi.specs.declared.sent.Sent.{Sent}
use Rattle.rb_capi.specs.Sends.{IsMessage, IsOnLine, list_of, messages_in, kept_messages, messages_on, addressee_of}

-- ---- one message

-- a message that is no token's is for each other site
pub no_token : (m : Data) → None ≡ get (codes "token") m → 255 ≡ addressee_of m
unfolding addressee_of
no_token m e = rw (sym e) refl

-- and so is one whose token has no site
pub no_site : (m t : Data) → Some t ≡ get (codes "token") m → None ≡ at 1 t → 255 ≡ addressee_of m
unfolding addressee_of
no_site m t e f = rw (sym e) (rw (sym f) refl)

pub of_site : (m t s : Data) → Some t ≡ get (codes "token") m → Some s ≡ at 1 t
    → unwrap_or (number_below (2 ^ 8) s) 255 ≡ addressee_of m
unfolding addressee_of
of_site m t s e f = rw (sym e) (rw (sym f) refl)

-- ---- the messages of an answer

list_of-items_of : (ds : List Data) → list_of (items_of ds) ≡ ds
list_of-items_of [] = refl
list_of-items_of (d ∷ ds) = ap (λ l. d ∷ l) (list_of-items_of ds)

pub no_sends : (d : Data) → None ≡ get (codes "sends") d → [] ≡ messages_in d
unfolding messages_in
no_sends d e = rw (sym e) refl

pub no_list : (d s : Data) → Some s ≡ get (codes "sends") d → None ≡ as_array s → [] ≡ messages_in d
unfolding messages_in
no_list d s e f = rw (sym e) (rw (sym f) refl)

pub of_list : (d s : Data) (vs : List Value) → Some s ≡ get (codes "sends") d → Some (items_view vs) ≡ as_array s
    → map view vs ≡ messages_in d
unfolding messages_in
of_list d s vs e f = rw (sym e) (rw (sym f) (sym (list_of-items_of (map view vs))))

-- ---- the messages of a text

-- an item of two lists, one after another, is one of the first
pub slice_get-append_left : {X : Type 0} (xs ys : List X) (i : ℕ) → i < length xs → slice_get (xs ++ ys) i ≡ slice_get xs i
slice_get-append_left [] ys i less = absurd (omega arith)
slice_get-append_left (x ∷ xs) ys zero less = refl
slice_get-append_left (x ∷ xs) ys (suc i) less = slice_get-append_left xs ys i (omega arith)

-- or of the second
pub slice_get-append_right : {X : Type 0} (xs ys : List X) (i n : ℕ) → n ≡ length xs → n ≤ i
    → slice_get (xs ++ ys) i ≡ slice_get ys (i - n)
slice_get-append_right [] ys i n is within = let e : i - n ≡ i = omega arith in rw e refl
slice_get-append_right (x ∷ xs) ys zero n is within = absurd (omega arith)
slice_get-append_right (x ∷ xs) ys (suc i) n is within =
    let e : suc i - n ≡ i - length xs = omega arith in
    rw e (slice_get-append_right xs ys i (length xs) refl (omega arith))

-- the messages of a text are those of its first line and of the lines after it
pub kept_messages-line : (text line later : List ℕ) → lines_of text ≡ line ∷ lines_of later
    → kept_messages text ≡ messages_on line ++ kept_messages later
unfolding kept_messages
kept_messages-line text line later split = rw split (flat_map-cons messages_on line (lines_of later))

-- an item of the first line is one of the text
pub first_line : (text line later : List ℕ) (i : ℕ) → lines_of text ≡ line ∷ lines_of later → i < length (messages_on line)
    → slice_get (kept_messages text) i ≡ slice_get (messages_on line) i
first_line text line later i split less =
    ap (λ l. slice_get l i) (kept_messages-line text line later split)
    ∙ slice_get-append_left (messages_on line) (kept_messages later) i less

-- any other is one of the lines after it
pub later_lines : (text line later : List ℕ) (i n : ℕ) → lines_of text ≡ line ∷ lines_of later → n ≡ length (messages_on line)
    → n ≤ i → slice_get (kept_messages text) i ≡ slice_get (kept_messages later) (i - n)
later_lines text line later i n split is within =
    ap (λ l. slice_get l i) (kept_messages-line text line later split)
    ∙ slice_get-append_right (messages_on line) (kept_messages later) i n is within

-- a message of the first line that is left is that of the text
pub found_there : (text rest line later : List ℕ) (index left : ℕ) (s : Sent) → lines_of rest ≡ line ∷ lines_of later
    → slice_get (kept_messages rest) left ≡ slice_get (kept_messages text) index → IsOnLine (messages_on line) left (Found s)
    → IsMessage (kept_messages text) index (Some s)
found_there text rest line later index left s split same there = (
  there.0,
  sym same ∙ first_line rest line later left split (slice_get_within (messages_on line) left there.0 there.1) ∙ there.1,
  there.2,
)

-- else it is on the lines after it
pub behind_line : (text rest line later : List ℕ) (index left n : ℕ) → lines_of rest ≡ line ∷ lines_of later
    → slice_get (kept_messages rest) left ≡ slice_get (kept_messages text) index → IsOnLine (messages_on line) left (Behind n)
    → slice_get (kept_messages later) (left - n) ≡ slice_get (kept_messages text) index
behind_line text rest line later index left n split same there =
    sym (later_lines rest line later left n split there.0 there.1) ∙ same

-- no message is left on no lines
pub none_left : (text rest : List ℕ) (index left : ℕ) → length rest ≡ 0
    → slice_get (kept_messages rest) left ≡ slice_get (kept_messages text) index → slice_get (kept_messages text) index ≡ None
unfolding kept_messages
none_left text [] index left none same = sym same
none_left text (b ∷ bs) index left none same = absurd (omega arith)
