-- A request that is read, or an event that commands have too, fits a line.
use Rattle.rb_history.proofs.Words.{event_of, teller_event_of, Each, IsEvent, IsKnown, IsRequest, place_at, request_alone, request_of}
use Rattle.rb_history.proofs.Words.{requests_at, requests_in, transfer_at, name_at, number_below, size_of, three_of, Settings, Cancel}
use Rattle.rb_history.proofs.Words.{Deposit, Interest, Transfer, Withdraw, IsName, Apply, AsOf, Balance, Batch, Pass, Statement, Submit}
use Rattle.rb_history.proofs.Words.{Data, Items, item, no_items, as_array, get, IfSome, codes, ◌==◌, ◌^◌}
use Rattle.rb_history.proofs.FitsLaws.{IsByte, IsLong, fits_cons, fits_either, fits_if, fits_map, fits_next, fits_then, asked, name, number}
use Rattle.rb_history.proofs.FitsLaws.{place}

transfer : (s : Settings) (d : Data) → IfSome (transfer_at s d) (IsRequest s)
transfer s d =
    fits_next (IsRequest s) _ (three_of d) (λ p.
    fits_then (IsKnown s) (IsRequest s) _ (place_at s p.0) (place s p.0) (λ from there.
    fits_then (IsKnown s) (IsRequest s) _ (place_at s p.1) (place s p.1) (λ to there_too.
    fits_map IsLong (IsRequest s) (Transfer from to) (number_below (2 ^ 64) p.2) (number (2 ^ 64) p.2)
    (λ n small. (there, there_too, small)))))

request : (s : Settings) (d : Data) → IfSome (request_of s d) (IsRequest s)
request s d =
    let Q = IsRequest s in
    fits_either Q (get (codes "deposit") d) _ _ (λ v. asked Q s (2 ^ 64) Deposit v (λ a n there small. (there, small)))
    (fits_either Q (get (codes "withdraw") d) _ _ (λ v. asked Q s (2 ^ 64) Withdraw v (λ a n there small. (there, small)))
    (fits_either Q (get (codes "interest") d) _ _ (λ v. asked Q s (2 ^ 32) Interest v (λ a n there small. (there, small)))
    (fits_either Q (get (codes "cancel") d) _ _ (λ v. fits_map IsName Q Cancel (name_at v) (name v) (λ x h. h))
    (fits_next Q (transfer_at s) (get (codes "transfer") d) (transfer s)))))

requests : (s : Settings) (ds : Items) → IfSome (requests_in s ds) (Each (IsRequest s))
requests s no_items = tt
requests s (item d ds) =
    let first = fits_if (IsRequest s) (size_of d == 1) (request_of s d) (λ e. request s d) in
    fits_cons (IsRequest s) (request_alone s d) (requests_in s ds) first (requests s ds)

call : (s : Settings) (d : Data) → IfSome (teller_event_of s d) (IsEvent s)
call s d =
    let Q = IsEvent s in
    fits_either Q (get (codes "balance") d) _ _ (λ v. fits_map (IsKnown s) Q Balance (place_at s v) (place s v) (λ a h. h))
    (fits_either Q (get (codes "asof") d) _ _ (λ v. asked Q s (2 ^ 32) AsOf v (λ a n there small. (there, small)))
    (fits_either Q (get (codes "statement") d) _ _ (λ v. fits_map (IsKnown s) Q Statement (place_at s v) (place s v) (λ a h. h))
    (fits_map (IsRequest s) Q Submit (request_of s d) (request s d) (λ r h. h))))

-- an event that commands have too
pub command : (s : Settings) (d : Data) → IfSome (event_of s d) (IsEvent s)
command s d =
    let Q = IsEvent s in
    let all = λ (v : Data). fits_next (Each (IsRequest s)) (requests_in s) (as_array v) (requests s) in
    fits_either Q (get (codes "batch") d) _ _ (λ v. fits_map (Each (IsRequest s)) Q Batch (requests_at s v) (all v) (λ rs h. h))
    (fits_either Q (get (codes "apply") d) _ _ (λ v. fits_map IsName Q Apply (name_at v) (name v) (λ x h. h))
    (fits_either Q (get (codes "pass") d) _ _ (λ v. fits_map IsByte Q Pass (number_below (2 ^ 8) v) (number (2 ^ 8) v) (λ n h. h))
    (call s d)))
