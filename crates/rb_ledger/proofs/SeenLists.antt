-- A ledger's parts, for the list that its clients see.
use Rattle.rb_ledger.proofs.Words.{◌≡◌, ℕ, List, subst, ap, sym, ◌∙◌, Settings, Shadow, Links, Index, Checkpoints, Book}
use Rattle.rb_ledger.proofs.Words.{IsClocked, AreHeads, AreIndexRows, AreLinks, IsIndex, AreCheckpoints}

-- the index of the list that is seen
pub seen : (us : List Shadow) (n : ℕ) (x : Index) (b : Book) → IsIndex x.config us x →
    record { settings = x.config; entries = us; room = n } ≡ b → IsIndex b.settings b.entries x
seen us n x b index e = subst (λ (b : Book). IsIndex b.settings b.entries x) e index

-- the links of the list that is seen
pub links_seen : (s : Settings) (us : List Shadow) (n : ℕ) (ls : List Links) (b : Book) → AreLinks s us ls →
    record { settings = s; entries = us; room = n } ≡ b → AreLinks b.settings b.entries ls
links_seen s us n ls b links e = subst (λ (b : Book). AreLinks b.settings b.entries ls) e links

-- the checkpoints of the list that is seen
pub checkpoints_seen : (s : Settings) (us : List Shadow) (n : ℕ) (c : Checkpoints) (b : Book) → AreCheckpoints s us c →
    record { settings = s; entries = us; room = n } ≡ b → AreCheckpoints b.settings b.entries c
checkpoints_seen s us n c b are e = subst (λ (b : Book). AreCheckpoints b.settings b.entries c) e are

-- a book of its parts
abbrev pub book : Settings → List Shadow → ℕ → Book
book s us n = record { settings = s; entries = us; room = n }

-- the same book, of equal parts
pub same_book : (s t : Settings) (us vs : List Shadow) (m n : ℕ) (b : Book) → book s us m ≡ b → t ≡ s → vs ≡ us → n ≡ m → book t vs n ≡ b
same_book s t us vs m n b seen settings entries room = ap (λ r. book r vs n) settings ∙ ap (λ ws. book s ws n) entries
    ∙ ap (book s us) room ∙ seen

-- an index of equal parts
pub same_index : (s : Settings) (us vs : List Shadow) (x y : Index) → IsIndex s us x → vs ≡ us → y.config ≡ x.config → y.clock ≡ x.clock
    → y.cancels.items ≡ x.cancels.items → y.heads.items ≡ x.heads.items → y.rows.rows ≡ x.rows.rows → IsIndex s vs y
same_index s us vs x y index items config clock cancels heads rows = subst (λ ws. IsIndex s ws y) (sym items) (record {
  config = config ∙ index.config;
  clocked = subst (IsClocked s us) (sym clock) index.clocked;
  cancels = cancels ∙ index.cancels;
  heads = subst (AreHeads s us) (sym heads) index.heads;
  rows = subst (AreIndexRows s us) (sym rows) index.rows;
})
