-- Messages by where they are kept.
use Rattle.std.proofs.Common.{◌≡◌, ◌∙◌, ℕ, ◌+◌, ◌<◌, ◌≤◌, List, [], ◌∷◌, ◌++◌, length, take, drop, refl, ap, arith}
use Rattle.std.proofs.Common.{get_or, Some, None, append_assoc}
use Rattle.std.specs.List.{filter_map}
use Rattle.std.specs.Prelude.{map, slice_get}
use Rattle.std.proofs.lemmas.Option.{slice_get_past, slice_get_read, slice_get-map}
use Rattle.rb_ledger.proofs.Public.Fronts
use Rattle.rb_shadow.specs.declared.shadow.Shadow.{Shadow}
use Rattle.rb_site.specs.declared.message.Message.{Message}
use Rattle.rb_site.specs.declared.message.Message.TheVariants.{Shadow as ShadowMessage}
use Rattle.rb_site.proofs.Public.Lists.{get_front, map_back}
use Rattle.rb_auditor.specs.declared.kept_at.KeptAt.{KeptAt}
use Rattle.rb_auditor.specs.declared.kept_at.KeptAt.TheVariants.{Compact, Other}
use Rattle.rb_auditor.specs.MessageLists.{AreThere, MessageTable, SentTable, message_kept_at}
use Rattle.rb_auditor.proofs.Found
use Rattle.rb_auditor.proofs.Lists

-- a message stays where it is with more operations
compact_more : (us more : List Shadow) (os : List Message) (p : KeptAt) (m : Message) → message_kept_at us os p ≡ Some m
    → message_kept_at (us ++ more) os p ≡ Some m
compact_more us more os (Compact k) m at =
    let (u, there, is) = map_back (λ u. ShadowMessage u) us k m (cc (slice_get-map (λ u. ShadowMessage u) us k)) in
    cc (get_front us more k u there, is)
compact_more us more os (Other k) m at = at

-- and with more others
others_more : (us : List Shadow) (os more : List Message) (p : KeptAt) (m : Message) → message_kept_at us os p ≡ Some m
    → message_kept_at us (os ++ more) p ≡ Some m
others_more us os more (Compact k) m at = at
others_more us os more (Other k) m at = get_front os more k m at

-- one operation more
pub compact_pushed : (us vs : List Shadow) (os : List Message) (ps qs : List KeptAt) (u : Shadow) (k : ℕ) → vs ≡ us ++ u ∷ []
    → qs ≡ ps ++ Compact k ∷ [] → k ≡ length us → AreThere (message_kept_at us os) ps
    → map (message_kept_at vs os) qs ≡ map (λ m. Some m) (filter_map (message_kept_at us os) ps ++ ShadowMessage u ∷ [])
compact_pushed us vs os ps qs u k e f last each =
    let vs_hold = Found.still (message_kept_at us os) (message_kept_at (us ++ u ∷ []) os) (compact_more us (u ∷ []) os) ps _ each in
    rw (e, f) (Found.pushed (message_kept_at (us ++ u ∷ []) os) ps _ (Compact k) (ShadowMessage u) vs_hold
    (cc (last, Lists.get_after us [] u)))

-- one other message more
pub other_pushed : (us : List Shadow) (os ns : List Message) (ps qs : List KeptAt) (m : Message) (k : ℕ) → ns ≡ os ++ m ∷ []
    → qs ≡ ps ++ Other k ∷ [] → k ≡ length os → AreThere (message_kept_at us os) ps
    → map (message_kept_at us ns) qs ≡ map (λ m. Some m) (filter_map (message_kept_at us os) ps ++ m ∷ [])
other_pushed us os ns ps qs m k e f last each =
    let ns_hold = Found.still (message_kept_at us os) (message_kept_at us (os ++ m ∷ [])) (others_more us os (m ∷ [])) ps _ each in
    rw (e, f) (Found.pushed (message_kept_at us (os ++ m ∷ [])) ps _ (Other k) m ns_hold (cc (last, Lists.get_after os [] m)))

-- the message at a position that is read, by where that says it is kept
pub at_position : (us : List Shadow) (os : List Message) {ps now : List KeptAt} {t : MessageTable}
    {compact sites limit k : ℕ} {p q : KeptAt}
    → record { items = filter_map (message_kept_at us os) ps; compact = compact; sites = sites; limit = limit } ≡ t
    → AreThere (message_kept_at us os) ps
    → now ≡ ps → k < length now → p ≡ get_or now k p → p ≡ q → slice_get t.items k ≡ message_kept_at us os q
at_position us os {ps} {now} {k = k} {p = p} view each same less is at =
    let there = slice_get_read now (length now) k p refl less is in
    cc (view, at, Found.at_some (message_kept_at us os) ps (filter_map (message_kept_at us os) ps) k p each (cc (same, there)))

-- as many messages as positions
pub many_positions : (us : List Shadow) (os : List Message) (ps : List KeptAt) {t : MessageTable}
    {compact sites limit : ℕ}
    → record { items = filter_map (message_kept_at us os) ps; compact = compact; sites = sites; limit = limit } ≡ t
    → AreThere (message_kept_at us os) ps
    → length ps ≡ length t.items
many_positions us os ps view each =
    Found.many (message_kept_at us os) ps (filter_map (message_kept_at us os) ps) each ∙ ap (λ (t : MessageTable). length t.items) view

-- past the last there is none
pub past_positions : (us : List Shadow) (os : List Message) {ps now : List KeptAt} {t : MessageTable}
    {compact sites limit k : ℕ}
    → record { items = filter_map (message_kept_at us os) ps; compact = compact; sites = sites; limit = limit } ≡ t
    → AreThere (message_kept_at us os) ps
    → now ≡ ps → length now ≤ k → slice_get t.items k ≡ None
past_positions us os {ps} {now} {t} {k = k} view each same past =
    slice_get_past t.items k (omega (arith, ap length same, many_positions us os ps view each))

-- ---- messages by their places among all

-- the message at a position that is read
pub at_place : (all : List Message) (ps now : List ℕ) (t : SentTable) (k p : ℕ)
    → record { all = all; items = filter_map (slice_get all) ps } ≡ t → AreThere (slice_get all) ps
    → now ≡ ps → k < length now → p ≡ get_or now k p → slice_get t.items k ≡ slice_get t.all p
at_place all ps now t k p view each same less is =
    let there = slice_get_read now (length now) k p refl less is in
    cc (view, Found.at_some (slice_get all) ps (filter_map (slice_get all) ps) k p each (cc (same, there)))

-- the next of the messages from a place on is added
pub place_next : (all : List Message) (ps qs : List ℕ) (ys : List Message) (first k at : ℕ) → at ≡ first + k → at < length all
    → qs ≡ ps ++ at ∷ [] → map (slice_get all) ps ≡ map (λ m. Some m) (ys ++ take k (drop first all))
    → map (slice_get all) qs ≡ map (λ m. Some m) (ys ++ take (k + 1) (drop first all))
place_next all ps qs ys first k at is less more so_far =
    let x = Lists.item_at all at less in
    let next = Lists.split_at (drop first all) k x.0 (cc (Fronts.get_dropped first all k, is, x.1)) in
    rw more (cc (
      Found.pushed (slice_get all) ps (ys ++ take k (drop first all)) at x.0 so_far x.1,
      next.more,
      append_assoc ys (take k (drop first all)) (x.0 ∷ []),
    ))
