-- The text of an entry is read as the entry's JSON object.
use Rattle.rb_history.proofs.Words.{IsNumber-decimal, IsNumber-signed_decimal, HasNumbers, ItemsHaveNumbers, numbered_from, numbered_json}
use Rattle.rb_history.proofs.Words.{blue_json, asked_entry_json, asked_json, deps_json, event_json, request_json, shadow_json, Each}
use Rattle.rb_history.proofs.Words.{IsCause, IsEvent, IsMoved, IsRefusal, IsReply, IsRequest, IsShadow, IsStatementRow, AskedEntry}
use Rattle.rb_history.proofs.Words.{cause_json, refusal_json, reply_json, row_json, integer_json, list_json, name_json, number_json}
use Rattle.rb_history.proofs.Words.{one_json, pair_json, three_json, number_of_refusal, Settings, MOST_SITES, MOST_SITES_OF_VERSION_1}
use Rattle.rb_history.proofs.Words.{Place, CauseDeclined, CauseRefused, Refusal, AlreadyCancelled, BadMessage, BatchRefused, OutOfMemory}
use Rattle.rb_history.proofs.Words.{RedBehind, Request, Cancel, Deposit, Interest, Transfer, Withdraw, IsName, Kind, CancelKind}
use Rattle.rb_history.proofs.Words.{TransferKind, Shadow, Event, Apply, AsOf, Balance, Batch, Pass, Receive, Statement, Submit}
use Rattle.rb_history.proofs.Words.{ShadowMessage, TokenOnItsWay, Reply, Already, Applied, BalanceIs, Held, Made, Names, Passed, Refused}
use Rattle.rb_history.proofs.Words.{Stale, StatementIs, Taken, Row, number_of-decimal, number_of-negative, Data, member, no_members, object}
use Rattle.rb_history.proofs.Words.{put, string, of_items, of_json, read, items_of, compact_text, items_outline, outline, List, Some, []}
use Rattle.rb_history.proofs.Words.{ap, arith, false, length, lit<, negsuc, pos, refl, suc, take, true, ℕ, ℤ, ◌<◌, ◌==◌, ◌^◌, ◌∷◌, ◌≡◌, ◌≤◌}
use Rattle.rb_history.proofs.Words.{if◌then◌else◌, map}
use Rattle.json.specs.Tree as tree
use Rattle.rb_money.specs.declared.refusal.Cause.{Cause}
use Rattle.rb_history.proofs.Reading.{compact_read}
use Rattle.rb_history.proofs.SiteCounts.{each_take, numbered_fit}

-- a value that is read from its own text, and nests at most so deep
pub record IsText (d : Data) (most : ℕ) : Type 0 where
  pub numbers : HasNumbers (outline d)
  pub shallow : tree.depth (outline d) ≤ most
  pub same : of_json (outline d) ≡ Some d

-- the same of a list's values
record AreTexts (ds : List Data) (most : ℕ) : Type 0 where
  numbers : ItemsHaveNumbers (items_outline (items_of ds))
  shallow : tree.items_depth (items_outline (items_of ds)) ≤ most
  same : of_items (items_outline (items_of ds)) ≡ Some (items_of ds)

-- ---- values by their shapes

-- a string
pub string_text : {most : ℕ} (text : List ℕ) → IsText (string text) most
string_text text = record { numbers = tt; shallow = omega arith; same = refl }

-- a number of 64 bits
pub number_text : {most : ℕ} (n : ℕ) → n < 2 ^ 64 → IsText (number_json n) most
number_text n h = record { numbers = IsNumber-decimal n h; shallow = omega arith; same = rw (number_of-decimal n h) refl }

integer_text : {most : ℕ} (z : ℤ) → IsMoved z → IsText (integer_json z) most
integer_text (pos n) h = number_text n (omega arith)
integer_text (negsuc n) h =
    record { numbers = IsNumber-signed_decimal (negsuc n) h; shallow = omega arith; same = rw (number_of-negative n h) refl }

texts : {A : Type 0} (written : A → Data) (P : A → Type 0) (most : ℕ) → ((x : A) → P x → IsText (written x) most) → (xs : List A)
    → Each P xs → AreTexts (map written xs) most
texts written P most each [] h = record { numbers = tt; shallow = omega arith; same = refl }
texts written P most each (x ∷ xs) h =
    let first = each x h.0 in
    let later = texts written P most each xs h.1 in record {
      numbers = (first.numbers, later.numbers);
      shallow = omega (arith, first.shallow, later.shallow);
      same = rw (first.same, later.same) refl;
    }

-- a list, one deeper than its items
pub list_text : {A : Type 0} (written : A → Data) (P : A → Type 0) (most : ℕ) → ((x : A) → P x → IsText (written x) most) → (xs : List A)
    → Each P xs → IsText (list_json written xs) (suc most)
list_text written P most each xs h =
    let all = texts written P most each xs h in
    record { numbers = all.numbers; shallow = omega (arith, all.shallow); same = rw all.same refl }

one_text : (key : List ℕ) (value : Data) (most : ℕ) → IsText value most → IsText (one_json key value) (suc most)
one_text key value most v = record { numbers = (v.numbers, tt); shallow = omega (arith, v.shallow); same = rw v.same refl }

-- a pair, one deeper than its parts
pub pair_text : (a b : Data) (most : ℕ) → IsText a most → IsText b most → IsText (pair_json a b) (suc most)
pair_text a b most x y =
    record { numbers = (x.numbers, (y.numbers, tt)); shallow = omega (arith, x.shallow, y.shallow); same = rw (x.same, y.same) refl }

three_text : (a b c : Data) (most : ℕ) → IsText a most → IsText b most → IsText c most → IsText (three_json a b c) (suc most)
three_text a b c most x y z = record {
  numbers = (x.numbers, (y.numbers, (z.numbers, tt)));
  shallow = omega (arith, x.shallow, y.shallow, z.shallow);
  same = rw (x.same, y.same, z.same) refl;
}

-- an object of two members, in the order of their keys
pub two_text : (k l : List ℕ) (a b : Data) (most : ℕ) → put l b (member k a no_members) ≡ member k a (member l b no_members)
    → IsText a most → IsText b most → IsText (object (member k a (member l b no_members))) (suc most)
two_text k l a b most e x y = record {
  numbers = (x.numbers, (y.numbers, tt));
  shallow = omega (arith, x.shallow, y.shallow);
  same = rw (x.same, y.same) (ap (λ ms. Some (object ms)) e);
}

-- an object of three
three_members : (k l j : List ℕ) (a b c : Data) (most : ℕ)
    → put j c (put l b (member k a no_members)) ≡ member k a (member l b (member j c no_members)) → IsText a most → IsText b most
    → IsText c most → IsText (object (member k a (member l b (member j c no_members)))) (suc most)
three_members k l j a b c most e x y z = record {
  numbers = (x.numbers, (y.numbers, (z.numbers, tt)));
  shallow = omega (arith, x.shallow, y.shallow, z.shallow);
  same = rw (x.same, y.same, z.same) (ap (λ ms. Some (object ms)) e);
}

-- a value that isn't too deep is read from its text
pub text_read : (d : Data) → IsText d 5 → read (compact_text d) ≡ Some d
text_read d t = compact_read d d t.numbers (omega (arith, t.shallow)) t.same

-- ---- events

asked_text : (s : Settings) (most : ℕ) (a : Place) (n : ℕ) → n < 2 ^ 64 → IsText (asked_json s a n) (suc most)
asked_text s most a n h = pair_text _ (number_json n) most (string_text _) (number_text n h)

request_text : (s : Settings) (most : ℕ) (r : Request) → IsRequest s r → IsText (request_json s r) (suc (suc most))
request_text s most (Deposit a amount) (known, fits) = one_text _ _ (suc most) (asked_text s most a amount fits)
request_text s most (Withdraw a amount) (known, fits) = one_text _ _ (suc most) (asked_text s most a amount fits)
request_text s most (Interest a rate) (known, fits) = one_text _ _ (suc most) (asked_text s most a rate (omega arith))
request_text s most (Cancel x) h = one_text _ (name_json x) (suc most) (string_text _)
request_text s most (Transfer from to amount) (leaves, arrives, fits) = one_text _ _ (suc most)
    (three_text _ _ (number_json amount) most (string_text _) (string_text _) (number_text amount fits))

blue_text : (version : ℕ) (blue : List ℕ) → length blue ≡ MOST_SITES → Each (λ n. n < 2 ^ 32) blue → IsText (blue_json version blue) 2
unfolding blue_json
blue_text version blue long h = elim (version == 1) as (λ b. IsText (if b then list_json number_json (take MOST_SITES_OF_VERSION_1 blue)
    else list_json numbered_json (numbered_from 0 blue)) 2) [
      | true ↦ list_text number_json (λ n. n < 2 ^ 32) 1 (λ n small. number_text n (omega arith)) (take MOST_SITES_OF_VERSION_1 blue)
          (each_take (λ n. n < 2 ^ 32) MOST_SITES_OF_VERSION_1 blue h)
      | false ↦ list_text numbered_json (λ (p : ℕ × ℕ). (p.0 < 2 ^ 64) × (p.1 < 2 ^ 64)) 1
          (λ p fits. pair_text (number_json p.0) (number_json p.1) 0 (number_text p.0 fits.0) (number_text p.1 fits.1))
          (numbered_from 0 blue) (numbered_fit 0 blue (omega arith) h)
    ]

shadow_text : (s : Settings) (v : Shadow) → IsShadow s v → IsText (shadow_json s v) 4
shadow_text s v h = of_kind v.kind
  where
    deps : IsText (deps_json s.version v.deps) 3
    deps = pair_text (blue_json s.version v.deps.blue) (number_json v.deps.red) 2 (blue_text s.version v.deps.blue h.sites h.blue)
        (let small = h.red in number_text v.deps.red (omega arith))

    amount : IsText (number_json v.amount) 0
    amount = number_text v.amount h.amount

    home : IsText (number_json v.home) 0
    home = let small = h.home in number_text v.home (omega arith)

    of_kind : (kind : Kind) → IsText (shadow_json s (record v { kind = kind })) 4
    of_kind (CancelKind x) = record {
      numbers = (tt, (amount.numbers, (deps.numbers, (home.numbers, (tt, (tt, (tt, tt)))))));
      shallow = omega (arith, deps.shallow);
      same = rw (amount.same, deps.same, home.same) refl;
    }
    of_kind (TransferKind to) = record {
      numbers = (tt, (amount.numbers, (deps.numbers, (home.numbers, (tt, (tt, (tt, tt)))))));
      shallow = omega (arith, deps.shallow);
      same = rw (amount.same, deps.same, home.same) refl;
    }
    of_kind _ = record {
      numbers = (tt, (amount.numbers, (deps.numbers, (home.numbers, (tt, (tt, tt))))));
      shallow = omega (arith, deps.shallow);
      same = rw (amount.same, deps.same, home.same) refl;
    }

-- the text of an event is read as its JSON object
pub event_text : (s : Settings) (e : Event) → IsEvent s e → IsText (event_json s e) 5
event_text s (Submit r) h = request_text s 3 r h
event_text s (Batch rs) h = one_text _ _ 4 (list_text (request_json s) (IsRequest s) 3 (request_text s 1) rs h)
event_text s (Receive (ShadowMessage v)) h = one_text _ _ 4 (shadow_text s v h)
event_text s (Receive (TokenOnItsWay m)) (epoch, to, red) =
    one_text _ _ 4 (three_text (number_json m.epoch) (number_json m.to) (number_json m.red) 3 (number_text m.epoch (omega arith))
    (number_text m.to (omega arith)) (number_text m.red (omega arith)))
event_text s (Apply x) h = one_text _ (name_json x) 4 (string_text _)
event_text s (Pass to) h = one_text _ (number_json to) 4 (number_text to (omega arith))
event_text s (Balance a) h = one_text _ _ 4 (string_text _)
event_text s (AsOf a n) (known, fits) = one_text _ _ 4 (asked_text s 3 a n (omega arith))
event_text s (Statement a) h = one_text _ _ 4 (string_text _)

-- ---- replies

row_text : (r : Row) → IsStatementRow r → IsText (row_json r) 2
row_text r (position, name, moved, balance) =
    let a = number_text {most = 0} r.position (omega arith) in
    let b = integer_text {most = 0} r.moved moved in
    let c = number_text {most = 0} r.balance balance in
    record {
      numbers = (a.numbers, (tt, (tt, (b.numbers, (tt, (c.numbers, tt))))));
      shallow = omega (arith, b.shallow);
      same = rw (a.same, b.same, c.same) refl;
    }

small_number : (r : Refusal) → number_of_refusal r < 2 ^ 64
small_number OutOfMemory = lit< tt
small_number _ = lit< tt

cause_text : (c : Cause) → IsCause c → IsText (cause_json c) 3
cause_text CauseDeclined h = string_text _
cause_text (CauseRefused n) h = number_text n (omega arith)

refusal_text : (r : Refusal) → IsRefusal r → IsText (refusal_json r) 4
refusal_text OutOfMemory h = absurd h
refusal_text (AlreadyCancelled position) h = two_text _ _ _ _ 3 refl (number_text position (omega arith)) (number_text 6 (lit< tt))
refusal_text (RedBehind seen needed) (h, k) =
    three_members _ _ _ _ _ _ 3 refl (number_text needed (omega arith)) (number_text 9 (lit< tt)) (number_text seen (omega arith))
refusal_text (BatchRefused index cause) (h, k) =
    three_members _ _ _ _ _ _ 3 refl (cause_text cause k) (number_text index (omega arith)) (number_text 13 (lit< tt))
refusal_text (BadMessage why) h = two_text _ _ _ _ 3 refl (number_text 17 (lit< tt)) (number_text why (omega arith))
refusal_text r h = one_text _ _ 3 (number_text (number_of_refusal r) (small_number r))

reply_text : (r : Reply) → IsReply r → IsText (reply_json r) 4
reply_text (Made x kind) h = two_text _ _ _ _ 3 refl (string_text _) (string_text _)
reply_text (Names xs) h = one_text _ _ 3 (list_text name_json IsName 2 (λ x k. string_text _) xs h)
reply_text (Held x) h = one_text _ _ 3 (string_text _)
reply_text (Already x) h = one_text _ _ 3 (string_text _)
reply_text (Taken n) h = one_text _ _ 3 (number_text n (omega arith))
reply_text (Stale n) h = one_text _ _ 3 (number_text n (omega arith))
reply_text (Applied x) h = one_text _ _ 3 (string_text _)
reply_text (Passed n) h = one_text _ _ 3 (number_text n (omega arith))
reply_text (BalanceIs n) h = one_text _ _ 3 (number_text n h)
reply_text (StatementIs t) (start, rows, balance) =
    three_members _ _ _ _ _ _ 3 refl (number_text t.balance balance) (list_text row_json IsStatementRow 2 row_text t.rows rows)
    (number_text t.start start)
reply_text (Refused why) h = refusal_text why h

-- ---- the line

-- the line of an entry is read as its JSON object, with an id or without
pub entry_text : (s : Settings) (site : ℕ) (x : AskedEntry) → site < 2 ^ 8 → IsEvent s x.entry.event
    → IsReply x.entry.reply
    → read (compact_text (asked_entry_json s site x)) ≡ Some (asked_entry_json s site x)
entry_text s site x h e r = at x.id
  where
    event : IsText (event_json s x.entry.event) 5
    event = event_text s x.entry.event e

    reply : IsText (reply_json x.entry.reply) 4
    reply = reply_text x.entry.reply r

    number : IsText (number_json site) 0
    number = number_text site (omega arith)

    at : (id : List ℕ) → read (compact_text (asked_entry_json s site (record { id = id; entry = x.entry })))
        ≡ Some (asked_entry_json s site (record { id = id; entry = x.entry }))
    at [] =
        let line = asked_entry_json s site (record { id = []; entry = x.entry }) in
        compact_read line line (event.numbers, (reply.numbers, (number.numbers, tt))) (omega (arith, event.shallow, reply.shallow))
        (rw (event.same, reply.same, number.same) refl)
    at (i ∷ is) =
        let line = asked_entry_json s site (record { id = i ∷ is; entry = x.entry }) in
        compact_read line line (event.numbers, (tt, (reply.numbers, (number.numbers, tt)))) (omega (arith, event.shallow, reply.shallow))
        (rw (event.same, reply.same, number.same) refl)
