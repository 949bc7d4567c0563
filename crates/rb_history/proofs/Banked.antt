-- Lines to a bank, with a name or without.
use Rattle.rb_history.proofs.Words.{escape_byte, MessagesAreRead, event_beside, event_named, event_or, event_to, has_bank, is_of_other}
use Rattle.rb_history.proofs.Words.{is_other_named, is_receipt, receipt_member, sent_json, asked_event_at, event_json, shadow_json}
use Rattle.rb_history.proofs.Words.{token_json, IsEvent, AskedEvent, IsIdOrNone, between_if_any, is_id, LineFault, Bad, IsConfigured}
use Rattle.rb_history.proofs.Words.{Settings, Event, Receive, Message, ShadowMessage, TokenOnItsWay, Data, member, object, string, read}
use Rattle.rb_history.proofs.Words.{compact_text, members_text, Bool, List, None, Option, Result, Some, [], ap, append_assoc, bytes_eq}
use Rattle.rb_history.proofs.Words.{codes, drop, false, inl, inr, length, refl, slice_set, subst, sym, true, ℕ, ◌++◌, ◌==◌, ◌∙◌, ◌∷◌, ◌≡◌}
use Rattle.rb_history.proofs.Words.{set-append_seam, bytes_eq-Decides, MatchOption, MatchResult, if◌then◌else◌, option_and_then}
use Rattle.rb_history.proofs.Public.IdText.{id_quoted}
use Rattle.rb_history.proofs.EntryBack.{event_back}
use Rattle.rb_history.proofs.EntryText.{event_text, string_text, text_read, two_text}
use Rattle.rb_history.proofs.OwnLines.{event_line, without_id, member_text}
use Rattle.rb_history.proofs.SentFits.{sends_fit}

-- a name that has bytes is one
pub some_name : (bank bytes : List ℕ) → bytes ≡ bank → (length bytes == 0) ≡ false → bank ≡ [] → ⊥
some_name bank bytes same some none =
    let f : true ≡ false = ap (λ (l : List ℕ). length l == 0) (sym (same ∙ none)) ∙ some in
    cc

-- the event with its id that was read, of this one that a line is, or that it is of another bank
abbrev Reads : Result (Option Event) LineFault → List ℕ → Option AskedEvent → Bool → Type 0
Reads r id asked other = MatchResult r
    (λ found. MatchOption found (other ≡ true) (λ event. asked ≡ Some (record { id = id; event = event })))
    (λ why. why ≡ Bad → (asked ≡ None) × (other ≡ false))

-- the same of what is equal
pub reads_alike : (r : Result (Option Event) LineFault) (id : List ℕ) (asked same : Option AskedEvent) (other also : Bool)
    → asked ≡ same → other ≡ also → Reads r id same also → Reads r id asked other
reads_alike r id asked same other also e f h =
    subst (λ o. Reads r id o other) (sym e) (subst (λ b. Reads r id same b) (sym f) h)

-- one that is no event by itself is an event to a bank if it is one beside the bank's name
pub beside_alone : (s : Settings) (bank : List ℕ) (d : Data) → asked_event_at s d ≡ None
    → event_named s bank d ≡ (if has_bank bank d then event_beside s d else None)
beside_alone s bank d none = ap (λ o. event_or o (if has_bank bank d then event_beside s d else None)) none

-- what a line's value is to a bank with a name
pub to_named : (s : Settings) (bank line : List ℕ) (d : Data) → (bank ≡ [] → ⊥) → read line ≡ Some d
    → (event_to s bank line ≡ event_named s bank d) × (is_of_other s bank line ≡ is_other_named s bank d)
to_named s [] line d some is = absurd (some refl)
to_named s (b ∷ bs) line d some is = (rw is refl, rw is refl)

-- ---- the line of a message to the sites of a bank: the bank's name, and then what the line of a receipt has

-- the line of a receipt is a brace and its member
pub receipt_text : (s : Settings) (m : Message)
    → compact_text (event_json s (Receive m)) ≡ 123 ∷ members_text false (receipt_member s m)
receipt_text s (ShadowMessage v) = refl
receipt_text s (TokenOnItsWay m) = refl

-- after another member, a comma and its member
pub member_behind : (s : Settings) (m : Message)
    → members_text true (receipt_member s m) ≡ 44 ∷ members_text false (receipt_member s m)
member_behind s (ShadowMessage v) = refl
member_behind s (TokenOnItsWay m) = refl

-- a comma in place of the brace with which a text goes on
comma : (old new rest : List ℕ) (at : ℕ) → new ≡ old ++ 123 ∷ rest → at ≡ length old
    → slice_set new at 44 ≡ old ++ 44 ∷ rest
comma old new rest at e f = ap (λ n. slice_set new n 44) f ∙ ap (λ l. slice_set l (length old) 44) e
    ∙ set-append_seam old 123 rest 44

-- so the line of a receipt with a comma first is its member after another
pub comma_first : (s : Settings) (m : Message) (old new : List ℕ) (at : ℕ)
    → new ≡ old ++ compact_text (event_json s (Receive m)) → at ≡ length old
    → slice_set new at 44 ≡ old ++ members_text true (receipt_member s m)
comma_first s m old new at e f =
    comma old new (members_text false (receipt_member s m)) at (e ∙ ap (λ l. old ++ l) (receipt_text s m)) f
    ∙ ap (λ l. old ++ l) (sym (member_behind s m))

-- the line of a message to a bank of a name
pub sent_line : (s : Settings) (bank : List ℕ) (m : Message) → IsIdOrNone bank → (bank ≡ [] → ⊥)
    → between_if_any (codes "{\"bank\":\"") bank (codes "\"") ++ members_text true (receipt_member s m)
    ≡ compact_text (sent_json s bank m)
unfolding escape_byte
sent_line s [] m named some = absurd (some refl)
sent_line s (b ∷ bs) m (inl none) some = absurd (cc)
sent_line s (b ∷ bs) m (inr is) some =
    let behind = members_text true (receipt_member s m) in
    ap (λ l. codes "{\"bank\":\"" ++ l) (append_assoc (b ∷ bs) (codes "\"") behind)
    ∙ ap (λ l. codes "{\"bank\":" ++ l) (sym (id_quoted (b ∷ bs) behind is))

-- ---- the line of a message to the sites of a bank is read by them as the message

-- a text is itself
same_text : (t : List ℕ) → bytes_eq t t ≡ true
same_text t = (bytes_eq-Decides t t).1 refl

-- the object of a message beside a name is the message to the bank of the name
sent_named : (s : Settings) → IsConfigured s → (bank : List ℕ) (m : Message) → IsEvent s (Receive m)
    → event_named s bank (object (member (codes "bank") (string bank) (receipt_member s m))) ≡ Some (without_id (Receive m))
sent_named s c bank (ShadowMessage v) fits =
    rw (same_text bank, event_back s c (Receive (ShadowMessage v)) fits) refl
sent_named s c bank (TokenOnItsWay m) fits =
    rw (same_text bank, event_back s c (Receive (TokenOnItsWay m)) fits) refl

-- its text is read as the object
sent_text : (s : Settings) (bank : List ℕ) (m : Message) → IsEvent s (Receive m)
    → read (compact_text (object (member (codes "bank") (string bank) (receipt_member s m))))
    ≡ Some (object (member (codes "bank") (string bank) (receipt_member s m)))
sent_text s bank (ShadowMessage v) fits =
    text_read _ (two_text (codes "bank") (codes "shadow") (string bank) (shadow_json s v) 4 refl (string_text bank)
    (member_text (codes "shadow") (shadow_json s v) (event_text s (Receive (ShadowMessage v)) fits)))
sent_text s bank (TokenOnItsWay m) fits =
    text_read _ (two_text (codes "bank") (codes "token") (string bank) (token_json m) 4 refl (string_text bank)
    (member_text (codes "token") (token_json m) (event_text s (Receive (TokenOnItsWay m)) fits)))

-- without a name, the line is that of the receipt
alone_read : (s : Settings) → IsConfigured s → (m : Message) → IsEvent s (Receive m)
    → event_to s [] (compact_text (sent_json s [] m)) ≡ Some (without_id (Receive m))
alone_read s c (ShadowMessage v) fits = event_line s c (Receive (ShadowMessage v)) fits
alone_read s c (TokenOnItsWay m) fits = event_line s c (Receive (TokenOnItsWay m)) fits

-- each message that a site sends is read by the sites of a bank of the same name, or of none
pub sent_read : MessagesAreRead
sent_read s c me low es m sent [] named = alone_read s c m (sends_fit s c me low es m sent)
sent_read s c me low es m sent (b ∷ bs) named =
    let fits = sends_fit s c me low es m sent in
    ap (option_and_then (event_named s (b ∷ bs))) (sent_text s (b ∷ bs) m fits) ∙ sent_named s c (b ∷ bs) m fits

-- the line of a receipt after a bank's name, read part by part, is the message to the bank
pub sent_parsed : (s : Settings) → IsConfigured s → (bank : List ℕ) (e : Event) (line inside : List ℕ) → is_id bank ≡ true
    → is_receipt e ≡ true → IsEvent s e → codes "{" ++ inside ≡ compact_text (event_json s e)
    → line ≡ codes "{\"bank\":\"" ++ (bank ++ (codes "\"" ++ (codes "," ++ inside))) → event_to s bank line ≡ Some (without_id e)
sent_parsed s c [] e line inside named receipt fits is e1 = absurd (cc)
sent_parsed s c (b ∷ bs) (Receive m) line inside named receipt fits is written =
    let name = b ∷ bs in
    let behind : codes "," ++ inside ≡ members_text true (receipt_member s m) =
    ap (λ l. codes "," ++ drop 1 l) (is ∙ receipt_text s m) ∙ sym (member_behind s m) in
    let whole : line ≡ compact_text (sent_json s name m) =
    written ∙ ap (λ l. codes "{\"bank\":\"" ++ l) (sym (append_assoc name (codes "\"") (codes "," ++ inside)))
    ∙ ap (λ l. codes "{\"bank\":\"" ++ ((name ++ codes "\"") ++ l)) behind
    ∙ sym (append_assoc (codes "{\"bank\":\"") (name ++ codes "\"") (members_text true (receipt_member s m)))
    ∙ sent_line s name m (inr named) (λ none. cc) in
    ap (event_to s name) whole ∙ ap (option_and_then (event_named s name)) (sent_text s name m fits) ∙ sent_named s c name m fits
sent_parsed s c (b ∷ bs) _ line inside named receipt fits is written = absurd (cc)
