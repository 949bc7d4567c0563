-- A shadow, a token or any event that is read fits a line.
use Rattle.rb_history.proofs.Words.{blue_at, field, label_at, IsEvent, IsKind, IsKnown, IsShadow, deps_at, event_at, kind_at, kind_of}
use Rattle.rb_history.proofs.Words.{recorded_of, shadow_at, token_at, place_at, name_at, number_below, pair_of, size_of, three_of, Settings}
use Rattle.rb_history.proofs.Words.{IsName, CancelKind, DeclinedKind, DepositKind, InterestKind, TransferKind, WithdrawKind, Label}
use Rattle.rb_history.proofs.Words.{Declined, Receive, TokenOnItsWay, Data, get, IfSome, Some, codes, rules, ℕ, ◌==◌, ◌^◌, option_map}
use Rattle.rb_shadow.specs.declared.deps.Deps.{Deps}
use Rattle.rb_shadow.specs.declared.label.Label.TheVariants.{Deposit, Withdraw, Interest, Cancel, Transfer}
use Rattle.rb_history.proofs.CountsFit.{AreBlue, blue}
use Rattle.rb_history.proofs.EventsFit.{command}
use Rattle.rb_history.proofs.FitsLaws.{IsByte, IsLong, IsWord, fits_either, fits_field, fits_if, fits_map, fits_next, fits_then, number_at}
use Rattle.rb_history.proofs.FitsLaws.{name, number, place}

abbrev AreDeps : ℕ → Deps → Type 0
AreDeps version c = AreBlue version c.blue × IsWord c.red

deps : (version : ℕ) (d : Data) → IfSome (deps_at version d) (AreDeps version)
deps version d =
    let Q = AreDeps version in
    fits_next Q _ (pair_of d) (λ p.
    fits_then (AreBlue version) Q _ (blue_at version p.0) (blue version p.0) (λ ns h.
    fits_map IsWord Q (λ red. record { blue = ns; red = red }) (number_below (2 ^ 32) p.1) (number (2 ^ 32) p.1) (λ n small. (h, small))))

kind_by : (s : Settings) (d : Data) (label : Label) → IfSome (kind_of s d label) (IsKind s)
kind_by s d Cancel = fits_if (IsKind s) (size_of d == 7) _ (λ e.
    fits_map IsName (IsKind s) CancelKind (field (codes "target") name_at d) (fits_field IsName (codes "target") name_at d name) (λ x h. h))
kind_by s d Transfer = fits_if (IsKind s) (size_of d == 7) _ (λ e.
    fits_map (IsKnown s) (IsKind s) TransferKind (field (codes "to") (place_at s) d)
    (fits_field (IsKnown s) (codes "to") (place_at s) d (place s)) (λ a h. h))
kind_by s d Deposit = fits_if (IsKind s) (size_of d == 6) (Some DepositKind) (λ e. tt)
kind_by s d Withdraw = fits_if (IsKind s) (size_of d == 6) (Some WithdrawKind) (λ e. tt)
kind_by s d Declined = fits_if (IsKind s) (size_of d == 6) (Some DeclinedKind) (λ e. tt)
kind_by s d Interest = fits_if (IsKind s) (size_of d == 6) (Some InterestKind) (λ e. tt)

kind : (s : Settings) (d : Data) → IfSome (kind_at s d) (IsKind s)
kind s d = fits_next (IsKind s) (kind_of s d) (field (codes "kind") label_at d) (kind_by s d)

shadow : (s : Settings) (d : Data) → IfSome (shadow_at s d) (IsShadow s)
shadow s d =
    let Q = IsShadow s in
    fits_then (IsKnown s) Q _ _ (fits_field (IsKnown s) (codes "account") (place_at s) d (place s)) (λ account a.
    fits_then IsLong Q _ _ (number_at (2 ^ 64) (codes "amount") d) (λ amount b.
    fits_then (AreDeps s.version) Q _ _ (fits_field (AreDeps s.version) (codes "deps") (deps_at s.version) d (deps s.version)) (λ c e.
    fits_then IsByte Q _ _ (number_at (2 ^ 8) (codes "home") d) (λ home f.
    fits_then (IsKind s) Q _ _ (kind s d) (λ k g.
    fits_map IsName Q _ _ (fits_field IsName (codes "name") name_at d name) (λ x h. search rules))))))

token : (s : Settings) (d : Data) → IfSome (option_map (λ sent. Receive (TokenOnItsWay sent)) (token_at d)) (IsEvent s)
token s d =
    fits_map (λ m. IsWord m.epoch × IsByte m.to × IsWord m.red) (IsEvent s) (λ sent. Receive (TokenOnItsWay sent)) (token_at d)
    (fits_next _ _ (three_of d) (λ p.
    fits_then IsWord _ _ (number_below (2 ^ 32) p.0) (number (2 ^ 32) p.0) (λ epoch a.
    fits_then IsByte _ _ (number_below (2 ^ 8) p.1) (number (2 ^ 8) p.1) (λ to b.
    fits_map IsWord _ (λ red. record { epoch = epoch; to = to; red = red }) (number_below (2 ^ 32) p.2) (number (2 ^ 32) p.2)
    (λ red c. (a, b, c))))))
    (λ m h. h)

-- an event by its key, whatever other members its object has
pub recorded : (s : Settings) (d : Data) → IfSome (recorded_of s d) (IsEvent s)
recorded s d =
    fits_either (IsEvent s) (get (codes "shadow") d) _ _
    (λ v. fits_map (IsShadow s) (IsEvent s) _ (shadow_at s v) (shadow s v) (λ made h. h))
    (fits_either (IsEvent s) (get (codes "token") d) _ _ (token s) (command s d))

-- an event
pub event : (s : Settings) (d : Data) → IfSome (event_at s d) (IsEvent s)
event s d = fits_if (IsEvent s) (size_of d == 1) (recorded_of s d) (λ e. recorded s d)
