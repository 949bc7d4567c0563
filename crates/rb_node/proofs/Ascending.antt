-- The index goes up by the numbers of its entries.
use Rattle.std.proofs.Common.{◌≡◌, ◌≤◌, ◌<◌, ℕ, zero, suc, List, [], ◌∷◌, ◌++◌, length, sym, subst, arith}
use Rattle.std.specs.Prelude.{nat_lt, slice_index_or}
use Rattle.std.specs.List.Sorted.{IsNonDecreasingBy, IsPartitionedBy}
use Rattle.std.proofs.lemmas.List.Sorted.{IsPartitionedBy-ltb}
use Rattle.rb_money.specs.Settings.{Settings}
use Rattle.rb_site.specs.declared.event.Event.{Event}
use Rattle.rb_site.specs.declared.message.Message.{Message}
use Rattle.rb_site.specs.declared.message.Message.TheVariants.{Shadow as ShadowMessage, Token as TokenOnItsWay}
use Rattle.rb_site.specs.Events.{ModelSite, after_event, first_site, sent_at}
use Rattle.rb_site.specs.Histories.{events_of}
use Rattle.rb_site.specs.Seen.{SeenSite}
use Rattle.rb_node.specs.Index.{index_from, index_of, noted_of}
use Rattle.rb_node.specs.declared.sent_entry.SentEntry.{SentEntry}

-- no entry is before this one
abbrev AtLeast : ℕ → List SentEntry → Type 0
AtLeast n [] = Unit {0}
AtLeast n (x ∷ xs) = (n ≤ x.before) × AtLeast n xs

-- none is before one that it is after
abbrev Ascends : List SentEntry → Type 0
Ascends [] = Unit {0}
Ascends (x ∷ xs) = AtLeast x.before xs × Ascends xs

lower : (n m : ℕ) (xs : List SentEntry) → n ≤ m → AtLeast m xs → AtLeast n xs
lower n m [] le h = tt
lower n m (x ∷ xs) le h = (let a : m ≤ x.before = h.0 in omega arith, lower n m xs le h.1)

least_noted : (n first end : ℕ) (ms : List Message) (xs : List SentEntry) → AtLeast n xs → AtLeast n (noted_of n first end ms ++ xs)
least_noted n first end [] xs h = h
least_noted n first end (ShadowMessage v ∷ ms) xs h = (let q : n ≤ n = omega arith in q, h)
least_noted n first end (TokenOnItsWay m ∷ ms) xs h = (let q : n ≤ n = omega arith in q, h)

least : (s : Settings) (t : ModelSite) (n : ℕ) (es : List Event) → AtLeast n (index_from s t n es)
least s t n [] = tt
least s t n (e ∷ es) = least_noted n _ _ (sent_at s t e) _ (lower n (suc n) (index_from s (after_event s t e) (suc n) es) (omega arith)
    (least s (after_event s t e) (suc n) es))

ascends_noted : (n first end : ℕ) (ms : List Message) (xs : List SentEntry) → AtLeast n xs → Ascends xs
    → Ascends (noted_of n first end ms ++ xs)
ascends_noted n first end [] xs h up = up
ascends_noted n first end (ShadowMessage v ∷ ms) xs h up = (h, up)
ascends_noted n first end (TokenOnItsWay m ∷ ms) xs h up = (h, up)

ascends : (s : Settings) (t : ModelSite) (n : ℕ) (es : List Event) → Ascends (index_from s t n es)
ascends s t n [] = tt
ascends s t n (e ∷ es) =
    let u = after_event s t e in
    ascends_noted n _ _ (sent_at s t e) _ (lower n (suc n) (index_from s u (suc n) es) (omega arith) (least s u (suc n) es))
    (ascends s u (suc n) es)

at_least : (n : ℕ) (xs : List SentEntry) (j : ℕ) (d : SentEntry) → AtLeast n xs → j < length xs → n ≤ (slice_index_or xs j d).before
at_least n [] j d h lt = absurd (omega arith)
at_least n (x ∷ xs) zero d h lt = h.0
at_least n (x ∷ xs) (suc j) d h lt = at_least n xs j d h.1 (omega arith)

in_order : (xs : List SentEntry) → Ascends xs → IsNonDecreasingBy (λ (y : SentEntry). y.before) xs
in_order [] up i j d le lt = absurd (omega arith)
in_order (x ∷ xs) up zero zero d le lt = let q : x.before ≤ x.before = omega arith in q
in_order (x ∷ xs) up zero (suc j) d le lt = at_least x.before xs j d up.0 (omega arith)
in_order (x ∷ xs) up (suc i) zero d le lt = absurd (omega arith)
in_order (x ∷ xs) up (suc i) (suc j) d le lt = in_order xs up.1 i j d (omega arith) (omega arith)

-- those that are before a number are in front
pub index_parted : (x : SeenSite) (m : ℕ) (index : List SentEntry) → index ≡ index_of x
    → IsPartitionedBy (λ (y : SentEntry). nat_lt y.before m) index
index_parted x m index is = IsPartitionedBy-ltb (λ (y : SentEntry). y.before) index m
    (subst (IsNonDecreasingBy (λ (y : SentEntry). y.before)) (sym is)
    (in_order (index_of x) (ascends x.settings (first_site x.me) 0 (events_of x.entries))))
