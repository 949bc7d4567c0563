-- A refusal or a reply that is read fits a line.
use Rattle.rb_history.proofs.Words.{field, label_at, six_in, six_of, Each, IsCause, IsMoved, IsRefusal, IsReply, IsStatementRow, answer_of}
use Rattle.rb_history.proofs.Words.{cause_at, find_refusal, is_word_declined, made_parsed, moved_parsed, names_at, names_in, plain_refusals}
use Rattle.rb_history.proofs.Words.{refusal_parsed, reply_parsed, row_at, rows_at, rows_in, short_of, simple_of, statement_parsed, name_at}
use Rattle.rb_history.proofs.Words.{number_below, size_of, number_of_refusal, CauseDeclined, CauseRefused, Refusal, AlreadyCancelled}
use Rattle.rb_history.proofs.Words.{BadMessage, BatchRefused, RedBehind, IsName, Already, Applied, Held, Made, Names, Passed, Refused}
use Rattle.rb_history.proofs.Words.{Stale, Taken, Data, Items, Num, float, item, negative, no_items, unsigned, as_array, as_bool, as_i64}
use Rattle.rb_history.proofs.Words.{as_number, get, IfSome, List, Some, [], codes, ℕ, ◌==◌, ◌^◌, ◌∷◌, ltb-true, nat_lt, option_and_then}
use Rattle.rb_history.proofs.FitsLaws.{IsByte, IsWord, fits_choice, fits_field, fits_if, fits_map, fits_then, number_at, number, IsLong}
use Rattle.rb_history.proofs.FitsLaws.{fits_cons, fits_either, fits_made, fits_next, name}
use Rattle.rb_site.specs.declared.reply.Reply.TheVariants.{Balance}
use Rattle.rb_history.proofs.NumbersFit.{Fits, FitItems, FitsNumber, fits_array, fits_get, fits_signed}

cause : (d : Data) → IfSome (cause_at d) IsCause
cause d = fits_choice IsCause (is_word_declined d) (Some CauseDeclined) _ tt
    (fits_map IsByte IsCause CauseRefused (number_below (2 ^ 8) d) (number (2 ^ 8) d) (λ n h. h))

find : (n : ℕ) (rs : List Refusal) → Each IsRefusal rs → IfSome (find_refusal n rs) IsRefusal
find n [] h = tt
find n (r ∷ rs) h = fits_choice IsRefusal (number_of_refusal r == n) (Some r) (find_refusal n rs) h.0 (find n rs h.1)

plain_fit : Each IsRefusal plain_refusals
plain_fit = (tt, (tt, (tt, (tt, (tt, (tt, (tt, (tt, (tt, (tt, (tt, (tt, (tt, (tt, (tt, (tt, (tt, (tt, (tt, (tt, tt))))))))))))))))))))

-- the refusal of a number
pub refusal : (d : Data) (n : ℕ) → IfSome (refusal_parsed d n) IsRefusal
refusal d n =
    let Q = IsRefusal in
    fits_choice Q (n == 6) _ _ (fits_if Q (size_of d == 2) _ (λ e.
    fits_map IsWord Q AlreadyCancelled _ (number_at (2 ^ 32) (codes "position") d) (λ n h. h)))
    (fits_choice Q (n == 9) _ _ (fits_if Q (size_of d == 3) _ (λ e.
    fits_then IsWord Q _ _ (number_at (2 ^ 32) (codes "seen") d) (λ seen h.
    fits_map IsWord Q (RedBehind seen) _ (number_at (2 ^ 32) (codes "needed") d) (λ needed k. (h, k)))))
    (fits_choice Q (n == 13) _ _ (fits_if Q (size_of d == 3) _ (λ e.
    fits_then IsByte Q _ _ (number_at (2 ^ 8) (codes "index") d) (λ index h.
    fits_map IsCause Q (BatchRefused index) _ (fits_field IsCause (codes "cause") cause_at d cause) (λ c k. (h, k)))))
    (fits_choice Q (n == 17) _ _ (fits_if Q (size_of d == 2) _ (λ e.
    fits_map IsByte Q BadMessage _ (number_at (2 ^ 8) (codes "why") d) (λ n h. h)))
    (fits_if Q (size_of d == 1) (find_refusal n plain_refusals) (λ e. find n plain_refusals plain_fit)))))

-- ---- statements

six : (ds : Items) → FitItems ds → IfSome (six_in ds) (λ p. Fits p.3)
six (item a (item b (item c (item d (item e (item g no_items)))))) f = f.1.1.1.0
six _ f = tt

signed : (n : Num) → FitsNumber n → IfSome (as_i64 n) IsMoved
signed (unsigned n) h = fits_if IsMoved (nat_lt n (2 ^ 63)) _ (λ e. ltb-true n (2 ^ 63) e)
signed (negative z) h = h
signed (float x) h = tt

moved : (d : Data) → Fits d → IfSome (moved_parsed d) IsMoved
moved d f = fits_then FitsNumber IsMoved as_i64 (as_number d) (fits_signed d f) signed

row : (d : Data) → Fits d → IfSome (row_at d) IsStatementRow
row d f =
    let Q = IsStatementRow in
    let parts = fits_then FitItems (λ p. Fits p.3) six_in (as_array d) (fits_array d f) six in
    fits_then (λ p. Fits p.3) Q _ (six_of d) parts (λ p g.
    fits_then IsWord Q _ (number_below (2 ^ 32) p.0) (number (2 ^ 32) p.0) (λ position a.
    fits_then IsName Q _ (name_at p.1) (name p.1) (λ x b.
    fits_next Q _ (label_at p.2) (λ label.
    fits_then IsMoved Q _ (moved_parsed p.3) (moved p.3 g) (λ z c.
    fits_next Q _ (as_bool p.4) (λ cancelled.
    fits_map IsLong Q _ (number_below (2 ^ 64) p.5) (number (2 ^ 64) p.5) (λ balance e. (a, b, c, e))))))))

rows : (ds : Items) → FitItems ds → IfSome (rows_in ds) (Each IsStatementRow)
rows no_items f = tt
rows (item d ds) f = fits_cons IsStatementRow (row_at d) (rows_in ds) (row d f.0) (rows ds f.1)

statement : (d : Data) → Fits d → IfSome (statement_parsed d) IsReply
statement d f =
    let listed = λ (v : Data) (g : Fits v). fits_then FitItems (Each IsStatementRow) rows_in (as_array v) (fits_array v g) rows in
    let all = fits_then Fits (Each IsStatementRow) rows_at (get (codes "rows") d) (fits_get (codes "rows") d f) listed in
    fits_then IsLong IsReply _ (field (codes "start") (number_below (2 ^ 64)) d) (number_at (2 ^ 64) (codes "start") d) (λ start a.
    fits_then IsLong IsReply _ (field (codes "balance") (number_below (2 ^ 64)) d) (number_at (2 ^ 64) (codes "balance") d) (λ balance b.
    fits_map (Each IsStatementRow) IsReply _ (field (codes "rows") rows_at d) all (λ rs c. (a, c, b))))

-- ---- other replies

names : (ds : Items) → IfSome (names_in ds) (Each IsName)
names no_items = tt
names (item d ds) = fits_cons IsName (name_at d) (names_in ds) (name d) (names ds)

simple : (d : Data) → IfSome (simple_of d) IsReply
simple d =
    let Q = IsReply in
    fits_either Q (get (codes "held") d) _ _ (λ v. fits_map IsName Q Held (name_at v) (name v) (λ x h. h))
    (fits_either Q (get (codes "already") d) _ _ (λ v. fits_map IsName Q Already (name_at v) (name v) (λ x h. h))
    (fits_either Q (get (codes "taken") d) _ _ (λ v. fits_map IsWord Q Taken (number_below (2 ^ 32) v) (number (2 ^ 32) v) (λ n h. h))
    (fits_either Q (get (codes "stale") d) _ _ (λ v. fits_map IsWord Q Stale (number_below (2 ^ 32) v) (number (2 ^ 32) v) (λ n h. h))
    (fits_either Q (get (codes "applied") d) _ _ (λ v. fits_map IsName Q Applied (name_at v) (name v) (λ x h. h))
    (fits_either Q (get (codes "passed") d) _ _ (λ v. fits_map IsWord Q Passed (number_below (2 ^ 32) v) (number (2 ^ 32) v) (λ n h. h))
    (fits_map IsLong Q Balance (field (codes "balance") (number_below (2 ^ 64)) d) (number_at (2 ^ 64) (codes "balance") d) (λ n h. h)))))))

short : (d : Data) → IfSome (short_of d) IsReply
short d =
    let all = λ (v : Data). fits_next (Each IsName) names_in (as_array v) names in
    fits_either IsReply (get (codes "names") d) _ _ (λ v. fits_map (Each IsName) IsReply Names (names_at v) (all v) (λ xs h. h)) (simple d)

made : (d : Data) → IfSome (made_parsed d) IsReply
made d =
    fits_then IsName IsReply _ (field (codes "name") name_at d) (fits_field IsName (codes "name") name_at d name) (λ x h.
    fits_made IsReply (Made x) (field (codes "kind") label_at d) (λ label. h))

answer : (d : Data) → Fits d → IfSome (answer_of d) IsReply
answer d f =
    fits_choice IsReply (size_of d == 1) _ _ (short d)
    (fits_choice IsReply (size_of d == 2) _ _ (made d)
    (fits_if IsReply (size_of d == 3) (statement_parsed d) (λ e. statement d f)))

-- a reply
pub reply : (d : Data) → Fits d → IfSome (reply_parsed d) IsReply
reply d f =
    let why = λ (v : Data). fits_next IsRefusal (refusal_parsed d) (number_below (2 ^ 8) v) (refusal d) in
    let refused = λ (v : Data). fits_map IsRefusal IsReply Refused (option_and_then (refusal_parsed d) (number_below (2 ^ 8) v)) (why v)
    (λ r h. h) in
    fits_either IsReply (get (codes "refused") d) _ _ refused (answer d f)
