-- The text that is written for a reply is read as the reply.
use Rattle.rb_history.proofs.Words.{Each, IsMoved, IsRefusal, IsReply, IsStatementRow, label_of_word, word_of, refusal_json, reply_json}
use Rattle.rb_history.proofs.Words.{moved_parsed, names_in, reply_parsed, row_at, rows_in, row_json, integer_json, name_json, below}
use Rattle.rb_history.proofs.Words.{CauseDeclined, CauseRefused, Refusal, AlreadyCancelled, BadMessage, BatchRefused, OutOfMemory}
use Rattle.rb_history.proofs.Words.{RedBehind, IsName, Label, OpName, Reply, Already, Applied, Held, Made, Names, Passed, Refused, Stale}
use Rattle.rb_history.proofs.Words.{Taken, Row, items_of, List, Some, [], negsuc, pos, refl, ℤ, ◌^◌, ◌∷◌, ◌≡◌, map}
use Rattle.rb_shadow.specs.declared.label.Label.TheVariants.{Deposit}
use Rattle.rb_site.specs.declared.reply.Reply.TheVariants.{Balance, Statement}
use Rattle.rb_history.proofs.Reading.{back}

label_back : (k : Label) → label_of_word (word_of k) ≡ Some k
label_back Deposit = refl
label_back _ = refl

names_back : (xs : List OpName) → Each IsName xs → names_in (items_of (map name_json xs)) ≡ Some xs
names_back [] h = refl
names_back (x ∷ xs) h = rw (back x h.0, names_back xs h.1) refl

moved_back : (z : ℤ) → IsMoved z → moved_parsed (integer_json z) ≡ Some z
moved_back (pos n) h = rw (below n (2 ^ 63) h) refl
moved_back (negsuc n) h = refl

row_back : (r : Row) → IsStatementRow r → row_at (row_json r) ≡ Some r
row_back r (a, b, d, e) = rw (
  below r.position (2 ^ 32) a,
  back r.name b,
  label_back r.kind,
  moved_back r.moved d,
  below r.balance (2 ^ 64) e,
) refl

rows_back : (rs : List Row) → Each IsStatementRow rs → rows_in (items_of (map row_json rs)) ≡ Some rs
rows_back [] h = refl
rows_back (r ∷ rs) h = rw (row_back r h.0, rows_back rs h.1) refl

refusal_back : (r : Refusal) → IsRefusal r → reply_parsed (refusal_json r) ≡ Some (Refused r)
refusal_back OutOfMemory h = absurd h
refusal_back (AlreadyCancelled position) h = rw (below position (2 ^ 32) h) refl
refusal_back (RedBehind seen needed) (a, b) = rw (below seen (2 ^ 32) a, below needed (2 ^ 32) b) refl
refusal_back (BatchRefused index CauseDeclined) (a, b) = rw (below index (2 ^ 8) a) refl
refusal_back (BatchRefused index (CauseRefused n)) (a, b) = rw (below index (2 ^ 8) a, below n (2 ^ 8) b) refl
refusal_back (BadMessage why) h = rw (below why (2 ^ 8) h) refl
refusal_back _ h = refl

-- the object of each reply of which a line has all is read as the reply
pub reply_back : (r : Reply) → IsReply r → reply_parsed (reply_json r) ≡ Some r
reply_back (Made x kind) h = rw (label_back kind, back x h) refl
reply_back (Names xs) h = rw (names_back xs h) refl
reply_back (Held x) h = rw (back x h) refl
reply_back (Already x) h = rw (back x h) refl
reply_back (Taken n) h = rw (below n (2 ^ 32) h) refl
reply_back (Stale n) h = rw (below n (2 ^ 32) h) refl
reply_back (Applied x) h = rw (back x h) refl
reply_back (Passed n) h = rw (below n (2 ^ 32) h) refl
reply_back (Balance n) h = rw (below n (2 ^ 64) h) refl
reply_back (Statement t) (a, b, d) = rw (below t.start (2 ^ 64) a, rows_back t.rows b, below t.balance (2 ^ 64) d) refl
reply_back (Refused why) h = refusal_back why h
