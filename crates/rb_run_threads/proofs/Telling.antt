-- A teller with one call more.
use Rattle.std.proofs.Common.{◌≡◌, ℕ, ◌+◌, List, [], ◌∷◌, ◌++◌, Option, None, length, refl, sym, ap, ◌∙◌, subst, arith, length-append}
use Rattle.rb_shadow.specs.declared.op_name.OpName.{OpName}
use Rattle.rb_site.specs.declared.entry.Entry.{Entry}
use Rattle.rb_site.specs.declared.event.Event.{Event}
use Rattle.rb_site.specs.Seen.{entry}
use Rattle.rb_branch.specs.declared.receipt.Receipt.{Receipt}
use Rattle.rb_branch.specs.Seats.{HasOneMore, SeenSeat}
use Rattle.rb_run_threads.specs.Tellers.{next_number, call_of, last_after, FollowsCalls, entries_of}

-- the number after these entries
abbrev pub number_after : ℕ → List Entry → ℕ
number_after x [] = x
number_after x (e ∷ es) = number_after (next_number x) es

-- the name of the last operation made in these entries, or before them
abbrev pub last_of : Option OpName → List Entry → Option OpName
last_of last [] = last
last_of last (e ∷ es) = last_of (last_after last e.reply) es

Follows-snoc : (site sites x : ℕ) (last : Option OpName) (es : List Entry) (e : Entry) → FollowsCalls site sites x last es
    → e.event ≡ call_of (next_number (number_after x es)) (last_of last es) site sites → FollowsCalls site sites x last (es ++ e ∷ [])
Follows-snoc site sites x last [] e f is = (is, tt)
Follows-snoc site sites x last (y ∷ es) e f is = (f.0, Follows-snoc site sites (next_number x) (last_after last y.reply) es e f.1 is)

number_after-snoc : (x : ℕ) (es : List Entry) (e : Entry) → number_after x (es ++ e ∷ []) ≡ next_number (number_after x es)
number_after-snoc x [] e = refl
number_after-snoc x (y ∷ es) e = number_after-snoc (next_number x) es e

last_of-snoc : (last : Option OpName) (es : List Entry) (e : Entry) → last_of last (es ++ e ∷ []) ≡ last_after (last_of last es) e.reply
last_of-snoc last [] e = refl
last_of-snoc last (y ∷ es) e = last_of-snoc (last_after last y.reply) es e

entries_of-snoc : (rs : List Receipt) (r : Receipt) → entries_of (rs ++ r ∷ []) ≡ entries_of rs ++ entry r.event r.reply ∷ []
entries_of-snoc [] r = refl
entries_of-snoc (s ∷ rs) r = ap (λ xs. entry s.event s.reply ∷ xs) (entries_of-snoc rs r)

-- the state of a teller after its receipts
pub record IsTellerSoFar (first site sites : ℕ) (c : SeenSeat) (x : ℕ) (last : Option OpName) (count : ℕ) : Type 0 where
  pub site_is : c.site ≡ site
  pub count_is : length c.receipts ≡ count
  pub follows : FollowsCalls site sites first None (entries_of c.receipts)
  pub number_is : x ≡ number_after first (entries_of c.receipts)
  pub last_is : last ≡ last_of None (entries_of c.receipts)

-- before the first call
pub teller_first : (first site sites : ℕ) (c : SeenSeat) → c.site ≡ site → c.receipts ≡ [] → IsTellerSoFar first site sites c first None 0
teller_first first site sites c here none =
    let P : List Receipt → Type 0 = λ rs. FollowsCalls site sites first None (entries_of rs) in
    record {
      site_is = here;
      count_is = ap (λ (rs : List Receipt). length rs) none;
      follows = subst P (sym none) tt;
      number_is = ap (λ (rs : List Receipt). number_after first (entries_of rs)) (sym none);
      last_is = ap (λ (rs : List Receipt). last_of None (entries_of rs)) (sym none);
    }

-- after one call more
pub teller_next : (first site sites : ℕ) (old new : SeenSeat) (x x' : ℕ) (last last' : Option OpName) (count number : ℕ) (e : Event)
    → IsTellerSoFar first site sites old x last count
    → x' ≡ next_number x → e ≡ call_of x' last site sites
    → HasOneMore old new (λ f. f ≡ e) number
    → ((xs : List Receipt) (r : Receipt) → new.receipts ≡ xs ++ r ∷ [] → last' ≡ last_after last r.reply)
    → IsTellerSoFar first site sites new x' last' (count + 1)
teller_next first site sites old new x x' last last' count number e s next call more after =
    let r = more.last in
    let rs = old.receipts in
    let now : new.receipts ≡ rs ++ r ∷ [] = ap (λ (c : SeenSeat). c.receipts) more.seat in
    let es = entries_of rs in
    let f : Entry = entry r.event r.reply in
    let all : entries_of new.receipts ≡ es ++ f ∷ [] = ap entries_of now ∙ entries_of-snoc rs r in
    let step : x' ≡ next_number (number_after first es) = next ∙ ap next_number s.number_is in
    let is : f.event ≡ call_of (next_number (number_after first es)) (last_of None es) site sites =
    more.event_is ∙ call ∙ (λ i. call_of (step i) (s.last_is i) site sites) in
    let P : List Entry → Type 0 = FollowsCalls site sites first None in
    record {
      site_is = ap (λ (c : SeenSeat). c.site) more.seat ∙ s.site_is;
      count_is = omega (arith, ap (λ (xs : List Receipt). length xs) now, length-append rs (r ∷ []), s.count_is);
      follows = subst P (sym all) (Follows-snoc site sites first None es f s.follows is);
      number_is = step ∙ sym (ap (number_after first) all ∙ number_after-snoc first es f);
      last_is = after rs r now ∙ ap (λ l. last_after l r.reply) s.last_is ∙ sym (ap (last_of None) all ∙ last_of-snoc None es f);
    }
