-- Each command that is read from a line is an event of a site's own that fits, or a delivery.
use Rattle.rb_history.proofs.Words.{command_at, command_for, command_of, event_of, teller_event_of, IsEvent, IsFittingCommand}
use Rattle.rb_history.proofs.Words.{ReadCommandsFit, number_below, size_of, Settings, IsOwn, At, Deliver, Data, get, read, IfSome, None}
use Rattle.rb_history.proofs.Words.{Option, Some, codes, rules, ◌==◌, ◌^◌, is_utf8}
use Rattle.rb_history.specs.OnLines.{command_on}
use Rattle.rb_history.proofs.EventsFit.{command as event_fits}
use Rattle.rb_history.proofs.FitsLaws.{fits_either, fits_if, fits_made, fits_map, fits_next, fits_some, asked}

-- ---- no command's event is the receipt of a message

call_own : (s : Settings) (d : Data) → IfSome (teller_event_of s d) IsOwn
call_own s d = search (fits_either, fits_made, asked, rules)

event_own : (s : Settings) (d : Data) → IfSome (event_of s d) IsOwn
event_own s d = search (fits_either, fits_made, call_own, rules)

-- ---- commands

-- what is there has both properties
both : {A : Type 0} (P Q : A → Type 0) (o : Option A) → IfSome o P → IfSome o Q → IfSome o (λ x. P x × Q x)
both P Q None h k = tt
both P Q (Some x) h k = (h, k)

command_fits : (s : Settings) (d : Data) → IfSome (command_of s d) (IsFittingCommand s)
command_fits s d =
    let Q = IsFittingCommand s in
    let event = both IsOwn (IsEvent s) (event_of s d) (event_own s d) (event_fits s d) in
    fits_if Q (size_of d == 2) _ (λ e.
    fits_next Q (command_for s d) _ (λ site.
    fits_either Q (get (codes "deliver") d) _ _ (λ v. fits_made Q (Deliver site) (number_below (2 ^ 32) v) (λ n. tt))
    (fits_map (λ e. IsOwn e × IsEvent s e) Q (At site) (event_of s d) event (λ e h. h))))

-- each command that is read from a line
pub commands_fit : ReadCommandsFit
unfolding command_on
commands_fit s line c is =
    let Q = IsFittingCommand s in
    fits_some Q (command_on s line) c
    (fits_if Q (is_utf8 line) (command_at s line) (λ e. fits_next Q (command_of s) (read line) (command_fits s))) is
