-- A ledger and its log as of a position, from one position to the next.
use Rattle.rb_ledger.proofs.Words.{◌≡◌, ℕ, ◌+◌, ◌-◌, ◌<◌, List, [], ◌∷◌, ◌++◌, length, length-take-le, take, drop, ap}
use Rattle.rb_ledger.proofs.Words.{sym, ◌∙◌, subst, arith, Some, slice_get, take-append-drop, take_all}
use Rattle.rb_ledger.proofs.Words.{slice_get_within, Settings, Shadow, UndoParts, Log, Links, Index, Book, IsValid}
use Rattle.rb_ledger.proofs.Words.{parts_of, records_of, IsIndex, IsLinked, AreLinks, IsAt}
use Rattle.rb_ledger.proofs.Public.OnAccount
use Rattle.rb_ledger.proofs.Public.Legal
use Rattle.rb_ledger.proofs.Public.Fronts
use Rattle.rb_ledger.proofs.Public.Records

-- the last of the first operations, and its record
pub record Latest (s : Settings) (us : List Shadow) (n : ℕ) (x : Index) (ps : List UndoParts) (r : UndoParts) : Type 0 where
  pub last : Shadow
  pub there : slice_get us n ≡ Some last
  pub index : IsIndex s (take n us ++ last ∷ []) x
  pub parts : r ≡ parts_of s (take n us) last
  pub records : ps ≡ records_of s (take n us)

-- what the last record of the log says, as a rewound ledger goes back one operation
pub latest : (s : Settings) (us : List Shadow) (m n : ℕ) (ls : List Links) (x : Index) (l : Log) (ps : List UndoParts) (r : UndoParts) →
    IsAt s us m ls x l → m ≡ n + 1 → l.parts ≡ ps ++ r ∷ [] → Latest s us n x ps r
latest s us m n ls x l ps r at next popped =
    let (last, there) = OnAccount.element us n (omega (arith, at.within, next)) in
    let more : take m us ≡ take n us ++ last ∷ [] = ap (λ k. take k us) next ∙ Fronts.one_more us n last there in
    let (front, is) = Records.ends ps (records_of s (take n us)) r (parts_of s (take n us) last) (sym popped ∙ at.records
    ∙ ap (records_of s) more ∙ Records.records_of-push s (take n us) last) in
    record { last = last; there = there; index = subst (λ vs. IsIndex s vs x) more at.index; parts = is; records = front }

-- after some operations there are records
pub some_records : (s : Settings) (us : List Shadow) (m : ℕ) (ls : List Links) (x : Index) (l : Log) → IsAt s us m ls x l → 0 < m →
    l.parts ≡ [] → ⊥
some_records s us m ls x l at some none =
    omega (arith, some, ap length none, ap length at.records, Records.logged-length s [] (take m us), length-take-le m us at.within)

-- its links
pub linked : (s : Settings) (us : List Shadow) (ls : List Links) (n : ℕ) (u : Shadow) (k : Links) → AreLinks s us ls →
    slice_get us n ≡ Some u → slice_get ls n ≡ Some k → IsLinked s (take n us) u k
linked s us ls n u k are there beside = are.each n u k there beside

-- back by one operation
pub back : (s : Settings) (us : List Shadow) (m n : ℕ) (ls : List Links) (x y : Index) (l k : Log) (r : UndoParts) → IsAt s us m ls x l →
    m ≡ n + 1 → l.parts ≡ k.parts ++ r ∷ [] → k.room ≡ l.room + 1 → IsIndex s (take n us) y → IsAt y.config us n ls y k
back s us m n ls x y l k r at next popped more index =
    subst (λ t. IsAt t us n ls y k) (sym index.config) (record {
      valid = at.valid;
      within = omega (arith, at.within, next);
      links = at.links;
      index = index;
      records = (latest s us m n ls x l k.parts r at next popped).records;
      room = omega (arith, at.room, next, more);
    })

-- the operation after the first ones may follow them
pub next : (s : Settings) (us : List Shadow) (n : ℕ) (u : Shadow) → IsValid s us → slice_get us n ≡ Some u → IsValid s (take n us ++ u ∷ [])
next s us n u valid there = subst (IsValid s) (Fronts.one_more us n u there)
    (Legal.IsValid-front s (take (n + 1) us) (drop (n + 1) us) (subst (IsValid s) (sym (take-append-drop (n + 1) us)) valid))

-- on by one operation
pub forth : (s : Settings) (us : List Shadow) (n m : ℕ) (ls : List Links) (x y : Index) (l k : Log) (u : Shadow) (r : UndoParts) →
    IsAt s us n ls x l → m ≡ n + 1 → slice_get us n ≡ Some u → r ≡ parts_of s (take n us) u → k.parts ≡ l.parts ++ r ∷ [] →
    k.room + 1 ≡ l.room → IsIndex s (take n us ++ u ∷ []) y → IsAt y.config us m ls y k
forth s us n m ls x y l k u r at next there is pushed less index =
    let more : take m us ≡ take n us ++ u ∷ [] = ap (λ j. take j us) next ∙ Fronts.one_more us n u there in
    subst (λ t. IsAt t us m ls y k) (sym index.config) (record {
      valid = at.valid;
      within = omega (arith, slice_get_within us n u there, next);
      links = at.links;
      index = subst (λ vs. IsIndex s vs y) (sym more) index;
      records = pushed ∙ ap (λ ps. ps ++ r ∷ []) at.records ∙ ap (λ q. records_of s (take n us) ++ q ∷ []) is
          ∙ sym (Records.records_of-push s (take n us) u) ∙ ap (records_of s) (sym more);
      room = omega (arith, at.room, next, less);
    })

-- a whole ledger and its log, as of the last position
pub whole : (s : Settings) (us : List Shadow) (n : ℕ) (ls : List Links) (x : Index) (l : Log) (b : Book) (k : ℕ) → IsIndex s us x →
    AreLinks s us ls → record { settings = s; entries = us; room = k } ≡ b → l.parts ≡ records_of b.settings b.entries →
    n ≡ length b.entries → IsAt s us n ls x l
whole s us n ls x l b k index links seen records at_end =
    let all : n ≡ length us = at_end ∙ sym (ap (λ (b : Book). length b.entries) seen) in
    let same : take n us ≡ us = take_all n us (omega (arith, all)) in record {
      valid = index.clocked.valid;
      within = omega (arith, all);
      links = links;
      index = subst (λ vs. IsIndex s vs x) (sym same) index;
      records = records ∙ sym (ap (λ (b : Book). records_of b.settings b.entries) seen) ∙ ap (records_of s) (sym same);
      room = omega (arith, all);
    }

-- the index as of the last position
pub last_index : (s : Settings) (us : List Shadow) (n : ℕ) (ls : List Links) (x : Index) (l : Log) → IsAt s us n ls x l → n ≡ length us →
    IsIndex s us x
last_index s us n ls x l at all = subst (λ vs. IsIndex s vs x) (take_all n us (omega (arith, all))) at.index

-- a log of records
abbrev pub log : List UndoParts → ℕ → Log
log ps n = record { parts = ps; room = n }

-- the log as of the last position
pub last_log : (s : Settings) (us : List Shadow) (n m : ℕ) (ls : List Links) (x : Index) (l : Log) → IsAt s us n ls x l → n ≡ length us →
    m ≡ length us → l ≡ record { parts = records_of s us; room = l.room - (m - n) }
last_log s us n m ls x l at all count =
    let room : l.room ≡ l.room - (m - n) = omega (arith, all, count) in
    ap (λ ps. log ps l.room) (at.records ∙ ap (records_of s) (take_all n us (omega (arith, all)))) ∙ ap (log (records_of s us)) room
