-- Histories that are read one after another.
use Rattle.std.proofs.Common.{◌≡◌, ℕ, zero, suc, ◌+◌, ◌<◌, ◌≤◌, List, [], ◌∷◌, add-one}
use Rattle.std.proofs.Common.{◌++◌, length, refl, ap, arith, Some, append_assoc}
use Rattle.std.specs.Prelude.{replicate, slice_get, slice_set}
use Rattle.std.proofs.lemmas.List.{append-nil}
use Rattle.rb_site.specs.declared.entry.Entry.{Entry}
use Rattle.rb_site.proofs.Public.Places
use Rattle.rb_auditor.specs.Audits.{Audited, HasMore}
use Rattle.rb_auditor.proofs.Kept
use Rattle.rb_auditor.proofs.Lists

-- ---- one history

-- before its first entry nothing is added
pub none_more : (a : Audited) (i : ℕ) → i < length a.histories → HasMore a a i []
none_more a i less =
    let (h, at) = Lists.item_at a.histories i less in
    record { history = h; there = at; is = rw (append-nil h, Kept.set_same a.histories i h at) }

-- one entry more
pub more_next : (a b c : Audited) (i : ℕ) (xs : List Entry) (x : Entry) → HasMore a b i xs → HasMore b c i (x ∷ [])
    → HasMore a c i (xs ++ x ∷ [])
more_next a b c i xs x m n =
    let at = Places.get_set_same a.histories i m.history (m.history ++ xs) m.there in
    let same : n.history ≡ m.history ++ xs = cc in
    let is : c ≡ record a { histories = slice_set a.histories i (m.history ++ (xs ++ x ∷ [])) } = cc (
      Places.set_set a.histories i (m.history ++ xs) (n.history ++ x ∷ []),
      append_assoc m.history xs (x ∷ []),
    ) in
    record { history = m.history; there = m.there; is = is }

-- ---- all histories

-- the first k histories, and the others without entries
abbrev pub filled : List (List Entry) → ℕ → List (List Entry)
filled [] k = []
filled (h ∷ hs) zero = [] ∷ filled hs zero
filled (h ∷ hs) (suc k) = h ∷ filled hs k

-- there are as many
pub filled_length : (hs : List (List Entry)) (k : ℕ) → length (filled hs k) ≡ length hs
filled_length [] k = refl
filled_length (h ∷ hs) zero = ap suc (filled_length hs zero)
filled_length (h ∷ hs) (suc k) = ap suc (filled_length hs k)

-- before the first history is read, none has entries
pub filled_none : (hs : List (List Entry)) → replicate (length hs) [] ≡ filled hs 0
filled_none [] = refl
filled_none (h ∷ hs) = ap (λ gs. [] ∷ gs) (filled_none hs)

-- once all were read, they are these
pub filled_all : (hs : List (List Entry)) (k : ℕ) → length hs ≤ k → filled hs k ≡ hs
filled_all [] k le = refl
filled_all (h ∷ hs) zero le = absurd (omega arith)
filled_all (h ∷ hs) (suc k) le = ap (λ gs. h ∷ gs) (filled_all hs k (omega arith))

-- the next has no entry yet
pub filled_at : (hs : List (List Entry)) (k : ℕ) (h : List Entry) → slice_get hs k ≡ Some h → slice_get (filled hs k) k ≡ Some []
filled_at [] k h at = cc
filled_at (g ∷ hs) zero h at = refl
filled_at (g ∷ hs) (suc k) h at = filled_at hs k h at

set_next : (hs : List (List Entry)) (k : ℕ) (h : List Entry) → slice_get hs k ≡ Some h → slice_set (filled hs k) k h ≡ filled hs (suc k)
set_next [] k h at = cc
set_next (g ∷ hs) zero h at = cc
set_next (g ∷ hs) (suc k) h at = ap (λ gs. g ∷ gs) (set_next hs k h at)

-- one history more was read
pub filled_next : (a b : Audited) (hs : List (List Entry)) (k : ℕ) (h : List Entry) → a.histories ≡ filled hs k → slice_get hs k ≡ Some h
    → HasMore a b k h → b.histories ≡ filled hs (k + 1)
filled_next a b hs k h e at m = cc (filled_at hs k h at, set_next hs k h at, add-one k)
