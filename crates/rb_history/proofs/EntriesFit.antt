-- An event or an entry that is read fits, and so does its id.
use Rattle.rb_history.proofs.Words.{ReadEventsFit, event_beside, event_named, event_or, event_to, has_bank, is_receipt, asked_entry_of_line}
use Rattle.rb_history.proofs.Words.{asked_entry_of_object, asked_event_at, asked_event_of_line, entry_in, entry_with_id, event_with_id}
use Rattle.rb_history.proofs.Words.{IsEvent, IsReply, ReadEntriesFit, AskedEntry, AskedEvent, IsAsked, id_at, is_id, may_be_asked}
use Rattle.rb_history.proofs.Words.{may_have_id, event_at, recorded_of, reply_parsed, size_of, LineFault, Bad, Settings}
use Rattle.rb_history.proofs.Words.{Entry, Data, as_str, read, Err, IfSome, List, None, Ok, Option, Result, Some, [], ap, codes, inl}
use Rattle.rb_history.proofs.Words.{inr, refl, true, ℕ, ◌<◌, ◌==◌, ◌∙◌, ◌∷◌, ◌≡◌, IfOk, MatchResult, option_and_then, ◌⊎◌}
use Rattle.rb_history.proofs.FitsLaws.{fits_choice, fits_field, fits_if, fits_map, fits_next, fits_some, fits_then, number_at}
use Rattle.rb_history.proofs.ReceiptsFit.{event, recorded}
use Rattle.rb_history.proofs.NumbersFit.{Fits, fits_get, fits_read}
use Rattle.rb_history.proofs.RepliesFit.{reply}

-- the event fits, and its id is one that it may have, or none
abbrev pub FitsAsked : Settings → AskedEvent → Type 0
FitsAsked s x = IsEvent s x.event × ((x.id ≡ []) ⊎ ((is_id x.id ≡ true) × (may_have_id x.event ≡ true)))

-- a text that is read as an id is one
pub id_fits : (d : Data) → IfSome (id_at d) (λ t. is_id t ≡ true)
id_fits d =
    fits_next (λ t. is_id t ≡ true) _ (as_str d) (λ t. fits_if (λ t. is_id t ≡ true) (is_id t) (Some t) (λ e. e))

-- so an event with an id fits
pub fits_with_id : (s : Settings) (d : Data) → IfSome (event_with_id s d) (FitsAsked s)
fits_with_id s d =
    fits_then (λ t. is_id t ≡ true) (FitsAsked s) _ _ (fits_field (λ t. is_id t ≡ true) (codes "id") id_at d id_fits) (λ t a.
    fits_then (IsEvent s) (FitsAsked s) _ (recorded_of s d) (recorded s d) (λ e b.
    fits_if (FitsAsked s) (may_have_id e) _ (λ c. (b, inr (a, c)))))

-- and so does one with an id or without
pub asked : (s : Settings) (d : Data) → IfSome (asked_event_at s d) (FitsAsked s)
asked s d = fits_choice (FitsAsked s) (size_of d == 2) (event_with_id s d) _ (fits_with_id s d)
    (fits_map (IsEvent s) (FitsAsked s) _ (event_at s d) (event s d) (λ e b. (b, inl refl)))

-- each event that is read from a line by itself fits
pub events_fit : (s : Settings) (line : List ℕ) (x : AskedEvent) → asked_event_of_line s line ≡ Some x → FitsAsked s x
events_fit s line x is =
    fits_some (FitsAsked s) (asked_event_of_line s line) x
    (fits_next (FitsAsked s) (asked_event_at s) (read line) (asked s)) is

-- ---- an event to a bank that is read fits, and its id is one, on an event that may have it, or none

-- what fits beside a name
beside_fits : (s : Settings) (d : Data) → IfSome (event_beside s d) (FitsAsked s)
beside_fits s d = fits_choice (FitsAsked s) (size_of d == 3) (event_with_id s d) _ (fits_with_id s d)
    (fits_if (FitsAsked s) (size_of d == 2) _ (λ e.
    fits_map (IsEvent s) (FitsAsked s) _ (recorded_of s d) (recorded s d) (λ e b. (b, inl refl))))

-- an event by itself that fits, or else one beside a name that fits
or_fits : (s : Settings) (o beside : Option AskedEvent) → IfSome o (FitsAsked s) → IfSome beside (FitsAsked s)
    → IfSome (event_or o beside) (FitsAsked s)
or_fits s None beside h k = k
or_fits s (Some x) beside h k = fits_choice (FitsAsked s) (is_receipt x.event) None (Some x) tt h

-- an event to the bank of a name fits
named_fits : (s : Settings) (bank : List ℕ) (d : Data) → IfSome (event_named s bank d) (FitsAsked s)
named_fits s bank d = or_fits s (asked_event_at s d) _ (asked s d)
    (fits_if (FitsAsked s) (has_bank bank d) (event_beside s d) (λ e. beside_fits s d))

-- each event to a bank that is read from a line fits
pub event_fits : ReadEventsFit
event_fits s [] line x is = events_fit s line x is
event_fits s (b ∷ bs) line x is =
    fits_some (FitsAsked s) (event_to s (b ∷ bs) line) x
    (fits_next (FitsAsked s) (event_named s (b ∷ bs)) (read line) (named_fits s (b ∷ bs))) is

-- ---- an entry that is read from a history's line fits a line, and its id is one

-- an entry of a site of the configuration, which fits a line
abbrev FitsLine : Settings → ℕ × Entry → Type 0
FitsLine s x = (x.0 < s.sites) × IsEvent s x.1.event × IsReply x.1.reply

-- the same with its id, or none
abbrev FitsAskedLine : Settings → ℕ × AskedEntry → Type 0
FitsAskedLine s x = (x.0 < s.sites) × IsEvent s x.1.entry.event × IsReply x.1.entry.reply × IsAsked x.1

-- what an object's members come to, whatever others it has
members : (s : Settings) (d : Data) → Fits d → IfSome (entry_in s d) (FitsLine s)
members s d f =
    let Q = FitsLine s in
    fits_then (λ n. n < s.sites) Q _ _ (number_at s.sites (codes "site") d) (λ site a.
    fits_then (IsEvent s) Q _ _ (fits_field (IsEvent s) (codes "event") (event_at s) d (event s)) (λ made b.
    fits_map IsReply Q _ _ (fits_then Fits IsReply reply_parsed _ (fits_get (codes "reply") d f) reply) (λ given c. (a, b, c))))

-- an entry of an object with an id may have one
with_id : (s : Settings) (d : Data) → Fits d → IfSome (entry_with_id s d) (FitsAskedLine s)
with_id s d f =
    let Q = FitsAskedLine s in
    fits_then (λ t. is_id t ≡ true) Q _ _ (fits_field (λ t. is_id t ≡ true) (codes "id") id_at d id_fits) (λ id is.
    fits_then (FitsLine s) Q _ (entry_in s d) (members s d f) (λ x h.
    fits_if Q (may_be_asked x.1) (Some (x.0, record { id = id; entry = x.1 })) (λ may. (h.0, h.1, h.2, inr (is, may)))))

-- an entry of an object, with an id or without
entry : (s : Settings) (d : Data) → Fits d → IfSome (asked_entry_of_object s d) (FitsAskedLine s)
entry s d f =
    let Q = FitsAskedLine s in
    fits_choice Q (size_of d == 3) _ _
    (fits_map (FitsLine s) Q _ (entry_in s d) (members s d f) (λ x h. (h.0, h.1, h.2, inl refl)))
    (fits_if Q (size_of d == 4) (entry_with_id s d) (λ e. with_id s d f))

-- each entry that is read is one of which a line has all, and so is its id
pub read_fits : ReadEntriesFit
read_fits s line site x is = fits_some (FitsAskedLine s) (asked_entry_of_line s line) (site, x)
    (fits_then Fits (FitsAskedLine s) (asked_entry_of_object s) (read line) (fits_read line) (entry s)) is

-- if an entry is read, its site is one of the configuration's
pub site_below : (s : Settings) (line id : List ℕ) (d : Data) (r : Result (ℕ × Entry) LineFault) → read line ≡ Some d
    → MatchResult r (λ x. asked_entry_of_object s d ≡ Some (x.0, record { id = id; entry = x.1 }))
    (λ why. why ≡ Bad → asked_entry_of_object s d ≡ None)
    → IfOk r (λ x. x.0 < s.sites)
site_below s line id d (Ok x) is given =
    let read_as = ap (option_and_then (asked_entry_of_object s)) is ∙ given in
    (read_fits s line x.0 (record { id = id; entry = x.1 }) read_as).0
site_below s line id d (Err fault) is given = tt
