-- Receipts of a serving seat, put together.
use Rattle.std.proofs.Common.{◌≡◌, ℕ, zero, suc, ◌+◌, ◌-◌, ◌<◌, ◌≤◌, List, [], ◌∷◌, ◌++◌, length, refl, sym, ap, ◌∙◌, subst, arith}
use Rattle.std.proofs.Common.{length-append, append_assoc, append-nil, get_or, set, remove, Bool, true, false, true≢false, Some, ◌⊎◌, inl}
use Rattle.std.proofs.Common.{None, inr}
use Rattle.std.specs.Prelude.{All, OnErr, IfNone, MatchBool, MatchOption, Option, Result, Ok, Err, slice_get, drop}
use Rattle.std.proofs.lemmas.Bool.Decides.{eqb_tells}
use Rattle.std.proofs.lemmas.List.{drop-append-le}
use Rattle.std.proofs.lemmas.Option.{slice_get-get_or}
use Rattle.std.proofs.lemmas.List.Elements.{All-append, All-cons, All-nil}
use Rattle.std.proofs.Math.Seq.{set-append_seam, get_or-append_seam}
use Rattle.rb_money.specs.Settings.{Settings}
use Rattle.rb_site.specs.declared.event.Event.{Event}
use Rattle.rb_site.specs.declared.event.Event.TheVariants as ev
use Rattle.rb_site.specs.declared.message.Message.{Message}
use Rattle.rb_site.proofs.Public.Lists.{get_front}
use Rattle.rb_branch.specs.declared.receipt.Receipt.{Receipt}
use Rattle.rb_branch.specs.Seats.{Any, AreRefused, HasOneMore, HasServed, IsApply, IsOfSiteMessage, IsOneOf, IsServed, IsSiteMessage}
use Rattle.rb_branch.specs.Seats.{NoneLost, SeenSeat, WasReceived}
use Rattle.rb_branch.specs.Seats.{RefusesOn, is_full_inbox, receipts_since}

abbrev Refuses : Message → Receipt → Type 0
Refuses m r = (r.event ≡ ev.Receive m) × (is_full_inbox r.reply ≡ true)

abbrev Takes : Message → Receipt → Type 0
Takes m r = (r.event ≡ ev.Receive m) × (is_full_inbox r.reply ≡ false)

same_message : (m n : Message) → ev.Receive m ≡ ev.Receive n → m ≡ n
same_message m n h = cc

abbrev Served : Receipt → Type 0
Served r = IsServed r.event

single : {X : Type 0} (P : X → Type 0) (x : X) → P x → All P (x ∷ [])
single P x h = All-cons P x [] h (All-nil P)

-- an item of one of two lists
some_left : {X : Type 0} (P : X → Type 0) (xs ys : List X) → Any P xs → Any P (xs ++ ys)
some_left P [] ys h = absurd h
some_left P (x ∷ xs) ys (inl p) = inl p
some_left P (x ∷ xs) ys (inr h) = inr (some_left P xs ys h)

some_right : {X : Type 0} (P : X → Type 0) (xs ys : List X) → Any P ys → Any P (xs ++ ys)
some_right P [] ys h = h
some_right P (x ∷ xs) ys h = inr (some_right P xs ys h)

some_of : {X : Type 0} (P : X → Type 0) (xs ys : List X) → Any P (xs ++ ys) → Any P xs ⊎ Any P ys
some_of P [] ys h = inr h
some_of P (x ∷ xs) ys (inl p) = inl (inl p)
some_of P (x ∷ xs) ys (inr h) = elim (some_of P xs ys h) [ inl l ↦ inl (inr l) | inr r ↦ inr r ]

-- the item at an index
some_at : {X : Type 0} (P : X → Type 0) (xs : List X) (k : ℕ) (x : X) → slice_get xs k ≡ Some x → P x → Any P xs
some_at P [] k x at p = cc
some_at P (y ∷ ys) zero x at p = inl (let same : x ≡ y = cc in subst P same p)
some_at P (y ∷ ys) (suc k) x at p = inr (some_at P ys k x at p)

-- without the item at an index, the others are left
some_removed : {X : Type 0} (P : X → Type 0) (xs : List X) (k : ℕ) (x : X) → slice_get xs k ≡ Some x → Any P xs → Any P (remove xs k) ⊎ P x
some_removed P [] k x at h = absurd h
some_removed P (y ∷ ys) zero x at (inl p) = inr (let same : y ≡ x = cc in subst P same p)
some_removed P (y ∷ ys) zero x at (inr h) = inl h
some_removed P (y ∷ ys) (suc k) x at (inl p) = inl (inl p)
some_removed P (y ∷ ys) (suc k) x at (inr h) = elim (some_removed P ys k x at h) [ inl l ↦ inl (inr l) | inr r ↦ inr r ]

-- no message is lost in two steps
lost_more : (a b c : List Message) (xs ys : List Receipt) → NoneLost a b xs → NoneLost b c ys → NoneLost a c (xs ++ ys)
lost_more a b c xs ys h k = record {
  kept = λ m i. onward m (h.kept m i);
  refused = λ m i. elim (some_of (Refuses m) xs ys i) [
    | inl l ↦ onward m (h.refused m l)
    | inr r ↦ later m (k.refused m r)
  ];
}
  where
    later : (m : Message) → IsOneOf m c ⊎ WasReceived m ys → IsOneOf m c ⊎ WasReceived m (xs ++ ys)
    later m (inl l) = inl l
    later m (inr r) = inr (some_right (Takes m) xs ys r)

    onward : (m : Message) → IsOneOf m b ⊎ WasReceived m xs → IsOneOf m c ⊎ WasReceived m (xs ++ ys)
    onward m (inl l) = later m (k.kept m l)
    onward m (inr r) = inr (some_left (Takes m) xs ys r)

-- a message that is kept after the others
lost_taken : (a b : List Message) (m : Message) → b ≡ a ++ m ∷ [] → NoneLost a b []
lost_taken a b m is =
    let P : List Message → Type 0 = λ l. NoneLost a l [] in
    subst P (sym is) (record { kept = λ x h. inl (some_left (λ k. x ≡ k) a (m ∷ []) h); refused = λ x h. absurd h })

-- a kept message that is refused and stays
lost_refused : (kept : List Message) (k : ℕ) (m : Message) (r : Receipt) → slice_get kept k ≡ Some m → r.event ≡ ev.Receive m
    → NoneLost kept kept (r ∷ [])
lost_refused kept k m r at is = record {
  kept = λ x h. inl h;
  refused = λ x h. elim h [
    | inl p ↦ inl (let same : x ≡ m = same_message x m (sym p.0 ∙ is) in some_at (λ y. x ≡ y) kept k m at same)
    | inr n ↦ absurd n
  ];
}

-- a kept message that is received and goes
lost_received : (kept : List Message) (k : ℕ) (m : Message) (r : Receipt) → slice_get kept k ≡ Some m → r.event ≡ ev.Receive m
    → is_full_inbox r.reply ≡ false
    → NoneLost kept (remove kept k) (r ∷ [])
lost_received kept k m r at is not = record {
  kept = λ x h. elim (some_removed (λ y. x ≡ y) kept k m at h) [
    | inl l ↦ inl l
    | inr same ↦ inr (inl (is ∙ ap ev.Receive (sym same), not))
  ];
  refused = λ x h. elim h [
    | inl p ↦ absurd (true≢false (sym p.1 ∙ not))
    | inr n ↦ absurd n
  ];
}

-- more receipts after the first ones
served_more : {s : Settings} (a b c : SeenSeat) (k l m : List Message) (n p : ℕ) → HasServed s a b k l n → HasServed s b c l m p
    → HasServed s a c k m (n + p)
served_more {s} a b c k l m n p h t = record {
  more = h.more ++ t.more;
  seat =
      t.seat ∙ (λ i. record (h.seat i) { receipts = (h.seat i).receipts ++ t.more })
      ∙ ap (λ (xs : List Receipt). record a { receipts = xs }) (append_assoc a.receipts h.more t.more);
  served = All-append Served h.more t.more h.served t.served;
  sent = All-append (IsOfSiteMessage s) h.more t.more h.sent t.sent;
  count_is = omega (arith, h.count_is, t.count_is, length-append h.more t.more);
  none_lost = lost_more k l m h.more t.more h.none_lost t.none_lost;
}

-- some number of receipts more
abbrev pub Serves : Settings → SeenSeat → SeenSeat → List Message → List Message → Type 0
Serves s a b k l = (n : ℕ) × HasServed s a b k l n

-- more receipts after the first ones
pub serves_more : {s : Settings} (a b c : SeenSeat) (k l m : List Message) → Serves s a b k l → Serves s b c l m → Serves s a c k m
serves_more a b c k l m h t = (h.0 + t.0, served_more a b c k l m h.0 t.0 h.1 t.1)

-- no receipt more
none_more : {s : Settings} (a : SeenSeat) (k l : List Message) → NoneLost k l [] → HasServed s a a k l 0
none_more {s} a k l lost = record {
  more = [];
  seat = ap (λ (xs : List Receipt). record a { receipts = xs }) (sym (append-nil a.receipts));
  served = All-nil Served;
  sent = All-nil (IsOfSiteMessage s);
  count_is = refl;
  none_lost = lost;
}

-- no receipt yet
pub serves_none : {s : Settings} (a : SeenSeat) (k : List Message) → Serves s a a k k
serves_none a k = (0, none_more a k k (record { kept = λ m i. inl i; refused = λ m i. absurd i }))

-- the same, of equal ends
pub serves_same : {s : Settings} (a b c : SeenSeat) (k l m : List Message) → Serves s a b k l → c ≡ b → m ≡ l → Serves s a c k m
serves_same {s} a b c k l m h seat inlet =
    let P : SeenSeat → Type 0 = λ x. Serves s a x k m in
    let Q : List Message → Type 0 = λ i. Serves s a b k i in
    subst P (sym seat) (subst Q (sym inlet) h)

-- and then what was taken from a link, if anything was
pub serves_taken : {s : Settings} (a b : SeenSeat) (k l m : List Message) (t : Bool) → Serves s a b k l
    → MatchBool t ((x : Message) × (m ≡ l ++ x ∷ [])) (m ≡ l) → Serves s a b k m
serves_taken a b k l m true h taken = serves_more a b b k l m h (0, none_more b l m (lost_taken l m taken.0 taken.1))
serves_taken a b k l m false h taken = serves_same a b b k l m h refl taken

-- the receipt of an application
served_apply : {s : Settings} (b c : SeenSeat) (kept : List Message) (n : ℕ) → HasOneMore b c IsApply n → HasServed s b c kept kept 1
served_apply {s} b c kept n h = record {
  more = h.last ∷ [];
  seat = h.seat;
  served = single Served h.last (applied h.last.event h.event_is);
  sent = single (IsOfSiteMessage s) h.last (λ m same. absurd (apart h.last.event m h.event_is same));
  count_is = refl;
  none_lost = record {
    kept = λ m i. inl i;
    refused =
        λ m i. elim i [ inl p ↦ absurd (apart h.last.event m h.event_is p.0) | inr rest ↦ absurd rest ];
  };
}
  where
    applied : (e : Event) → IsApply e → IsServed e
    applied (ev.Apply a) h = h
    applied _ h = absurd h

    apart : (e : Event) (m : Message) → IsApply e → e ≡ ev.Receive m → ⊥
    apart e m i same = subst IsApply same i

-- the reply of the last receipt
last_reply : (b c : SeenSeat) (P : Event → Type 0) (n : ℕ) (full : Bool) (h : HasOneMore b c P n)
    → ((xs : List Receipt) (r : Receipt) → c.receipts ≡ xs ++ r ∷ [] → full ≡ is_full_inbox r.reply) → full ≡ is_full_inbox h.last.reply
last_reply b c P n full h found = found b.receipts h.last (ap (λ (s : SeenSeat). s.receipts) h.seat)

-- the receipt of a message that was sent
served_message : {s : Settings} (b c : SeenSeat) (old new : List Message) (m : Message) (n : ℕ)
    (h : HasOneMore b c (λ e. e ≡ ev.Receive m) n) → IsSiteMessage s m → NoneLost old new (h.last ∷ []) → HasServed s b c old new 1
served_message {s} b c old new m n h sent lost = record {
  more = h.last ∷ [];
  seat = h.seat;
  served = single Served h.last (subst IsServed (sym h.event_is) tt);
  sent = single (IsOfSiteMessage s) h.last (λ x same. subst (IsSiteMessage s) (same_message m x (sym h.event_is ∙ same)) sent);
  count_is = refl;
  none_lost = lost;
}

-- a kept message is received, and stays
pub served_refused : {s : Settings} (b c : SeenSeat) (kept : List Message) (k n : ℕ) (m : Message) → slice_get kept k ≡ Some m
    → IsSiteMessage s m → HasOneMore b c (λ e. e ≡ ev.Receive m) n → HasServed s b c kept kept 1
served_refused b c kept k n m at sent h =
    served_message b c kept kept m n h sent (lost_refused kept k m h.last at h.event_is)

-- a kept message is received, and goes
pub served_received : {s : Settings} (b c : SeenSeat) (old new : List Message) (k n : ℕ) (m : Message) (full : Bool)
    → slice_get old k ≡ Some m → IsSiteMessage s m → HasOneMore b c (λ e. e ≡ ev.Receive m) n
    → ((xs : List Receipt) (r : Receipt) → c.receipts ≡ xs ++ r ∷ [] → full ≡ is_full_inbox r.reply) → full ≡ false
    → new ≡ remove old k → HasServed s b c old new 1
served_received b c old new k n m full at sent h found not is =
    let P : List Message → Type 0 = λ l. NoneLost old l (h.last ∷ []) in
    let reply : is_full_inbox h.last.reply ≡ false = sym (last_reply b c (λ e. e ≡ ev.Receive m) n full h found) ∙ not in
    served_message b c old new m n h sent (subst P (sym is) (lost_received old k m h.last at h.event_is reply))

-- the last receipt with another count of messages that were not sent
pub set_last : (items items' xs : List Receipt) (r now : Receipt) (n count : ℕ)
    → items ≡ xs ++ r ∷ [] → n ≡ length items → now ≡ get_or items (n - 1) now
    → items' ≡ set items (n - 1) (record now { unsent = count })
    → items' ≡ xs ++ record r { unsent = count } ∷ []
set_last items items' xs r now n count is len at left =
    let here : n - 1 ≡ length xs = omega (arith, len, ap length is, length-append xs (r ∷ [])) in
    let found : now ≡ r = at ∙ (λ i. get_or (is i) (here i) now) ∙ get_or-append_seam xs r [] now in
    left ∙ (λ i. set (is i) (here i) (record (found i) { unsent = count })) ∙ set-append_seam xs r [] (record r { unsent = count })

-- and then an application, if there was one
pub serves_ready : {s : Settings} (a b c : SeenSeat) (k l : List Message) (o : Option ℕ) → Serves s a b k l
    → MatchOption o (c ≡ b) (λ n. HasOneMore b c IsApply n) → Serves s a c k l
serves_ready a b c k l None h ready = serves_same a b c k l l h ready refl
serves_ready a b c k l (Some n) h ready = serves_more a b c k l l h (1, served_apply b c l n ready)

-- ---- messages that were refused

-- none is the first of none
pub refused_none : (kept : List Message) (rs : List Receipt) → AreRefused 0 kept rs
refused_none kept rs i m h at = absurd (omega arith)

-- more receipts say it too
refused_more : (n : ℕ) (kept : List Message) (rs rs' xs : List Receipt) → AreRefused n kept rs → rs' ≡ rs ++ xs → AreRefused n kept rs'
refused_more n kept rs rs' xs all is i m h at = subst (Any (Refuses m)) (sym is) (some_left (Refuses m) rs xs (all i m h at))

-- from a receipt on that was there, one more is after those
since_one : (b c : SeenSeat) (P : Event → Type 0) (n from : ℕ) → from ≤ length b.receipts → (h : HasOneMore b c P n)
    → drop from c.receipts ≡ drop from b.receipts ++ h.last ∷ []
since_one b c P n from few h =
    ap (λ (s : SeenSeat). drop from s.receipts) h.seat ∙ drop-append-le from b.receipts (h.last ∷ []) few

-- what an application leaves
pub refuses_applied : (n : ℕ) (kept : List Message) (b c : SeenSeat) (o : Option ℕ)
    → MatchOption o (c ≡ b) (λ k. HasOneMore b c IsApply k) → RefusesOn n kept b n kept c
refuses_applied n kept b c None same from few all =
    subst (λ (s : SeenSeat). AreRefused n kept (drop from s.receipts)) (sym same) all
refuses_applied n kept b c (Some k) h from few all =
    refused_more n kept (drop from b.receipts) (drop from c.receipts) (h.last ∷ []) all (since_one b c IsApply k from few h)

-- one message more is refused
pub refuses_next : (k n : ℕ) (kept : List Message) (b c : SeenSeat) (m : Message) (full : Bool)
    → slice_get kept k ≡ Some m → HasOneMore b c (λ e. e ≡ ev.Receive m) n
    → ((xs : List Receipt) (r : Receipt) → c.receipts ≡ xs ++ r ∷ [] → full ≡ is_full_inbox r.reply) → full ≡ true
    → RefusesOn k kept b (k + 1) kept c
refuses_next k n kept b c m full at h found is from few all i x within here =
    let rs = drop from b.receipts in
    let now = since_one b c (λ e. e ≡ ev.Receive m) n from few h in
    elim (eqb_tells i k) [
      | inl same ↦
          let one : m ≡ x = cc (here, at, same.1) in
          let reply : is_full_inbox h.last.reply ≡ true = sym (last_reply b c (λ e. e ≡ ev.Receive m) n full h found) ∙ is in
          subst (Any (Refuses x)) (sym now) (some_right (Refuses x) rs (h.last ∷ []) (inl (h.event_is ∙ ap ev.Receive one, reply)))
      | inr apart ↦
          let less : i < k = omega (arith, within, apart.1) in
          subst (Any (Refuses x)) (sym now) (some_left (Refuses x) rs (h.last ∷ []) (all i x less here))
    ]

-- one that was received with another reply goes, and those before it are still refused
pub refuses_received : (k n : ℕ) (kept new : List Message) (b c : SeenSeat) (m : Message) → HasOneMore b c (λ e. e ≡ ev.Receive m) n
    → new ≡ remove kept k → RefusesOn k kept b k new c
refuses_received k n kept new b c m h is from few all i x within at =
    let rs = drop from b.receipts in
    let still : AreRefused k kept (drop from c.receipts) =
    refused_more k kept rs (drop from c.receipts) (h.last ∷ []) all (since_one b c (λ e. e ≡ ev.Receive m) n from few h) in
    still i x within (sym (below kept k i within) ∙ ap (λ (l : List Message). slice_get l i) (sym is) ∙ at)
  where
    below : (xs : List Message) (k i : ℕ) → i < k → slice_get (remove xs k) i ≡ slice_get xs i
    below [] zero i h = absurd (omega arith)
    below [] (suc k) i h = refl
    below (x ∷ xs) zero i h = absurd (omega arith)
    below (x ∷ xs) (suc k) zero h = refl
    below (x ∷ xs) (suc k) (suc i) h = below xs k i (omega arith)

-- those before one that is taken, if one was
refused_taken : (n : ℕ) (kept new : List Message) (rs : List Receipt) (t : Bool) → AreRefused (length kept) kept rs
    → n ≡ length kept → MatchBool t ((x : Message) × (new ≡ kept ++ x ∷ [])) (new ≡ kept) → AreRefused n new rs
refused_taken n kept new rs false all is same i m within at =
    all i m (omega (arith, within, is)) (ap (λ (l : List Message). slice_get l i) (sym same) ∙ at)
refused_taken n kept new rs true all is taken i m within at =
    let inside : i < length kept = omega (arith, within, is) in
    let was = slice_get-get_or kept i m inside in
    all i m inside (was ∙ sym (get_front kept (taken.0 ∷ []) i _ was) ∙ ap (λ (l : List Message). slice_get l i) (sym taken.1) ∙ at)

-- a message is taken, if one was
pub refuses_taken : (n : ℕ) (kept new : List Message) (a : SeenSeat) (t : Bool) → n ≡ length kept
    → MatchBool t ((x : Message) × (new ≡ kept ++ x ∷ [])) (new ≡ kept) → RefusesOn (length kept) kept a n new a
refuses_taken n kept new a t is taken from few all = refused_taken n kept new (drop from a.receipts) t all is taken

-- no message is taken
pub refuses_untaken : (kept new : List Message) (a : SeenSeat) (t : Bool) → t ≡ false
    → MatchBool t ((x : Message) × (new ≡ kept ++ x ∷ [])) (new ≡ kept) → RefusesOn (length kept) kept a (length new) new a
refuses_untaken kept new a false is same from few all =
    subst (λ (l : List Message). AreRefused (length l) l (drop from a.receipts)) (sym same) all
refuses_untaken kept new a true is taken from few all = absurd (true≢false is)

-- what holds if there is none
pub if_none : (o : Option ℕ) (P : Type 0) → ((x : ℕ) → ¬ (o ≡ Some x)) → IfNone o P → P
if_none None P not h = h
if_none (Some x) P not h = absurd (not x refl)

-- none is the first of none
pub refuses_none : (n : ℕ) (old new : List Message) (a b : SeenSeat) → RefusesOn n old a 0 new b
refuses_none n old new a b from few all = refused_none new (drop from b.receipts)

-- nothing happened
pub refuses_same : (n : ℕ) (kept : List Message) (a : SeenSeat) → RefusesOn n kept a n kept a
refuses_same n kept a from few all = all

-- all that are kept, once the first n are
pub refuses_all : (k n : ℕ) (old kept : List Message) (a b : SeenSeat) → RefusesOn k old a n kept b → length kept ≤ n
    → RefusesOn k old a (length kept) kept b
refuses_all k n old kept a b all most from few first i m within at = all from few first i m (omega (arith, within, most)) at

-- there are no fewer receipts
serves_longer : {s : Settings} (a b : SeenSeat) (k l : List Message) → Serves s a b k l → length a.receipts ≤ length b.receipts
serves_longer a b k l h =
    omega (arith, ap (λ (c : SeenSeat). length c.receipts) h.1.seat, length-append a.receipts h.1.more)

-- one after the other
pub refuses_then : {s : Settings} (n m p : ℕ) (k l o : List Message) (a b c : SeenSeat) → Serves s a b k l → RefusesOn n k a m l b
    → RefusesOn m l b p o c → RefusesOn n k a p o c
refuses_then n m p k l o a b c served first next from few all =
    next from (omega (arith, few, serves_longer a b k l served)) (first from few all)

-- the same of the receipts since some seat
pub refused_since : {s : Settings} (n m : ℕ) (k l o : List Message) (a b c : SeenSeat) → Serves s a b k l
    → AreRefused n l (receipts_since a b)
    → RefusesOn n l b m o c → AreRefused m o (receipts_since a c)
refused_since n m k l o a b c served all next = next (length a.receipts) (serves_longer a b k l served) all

-- how many receipts more there are
pub served_since : {s : Settings} (a b : SeenSeat) (k l : List Message) (xs ys : List Receipt) → Serves s a b k l
    → xs ≡ a.receipts → ys ≡ b.receipts
    → HasServed s a b k l (length ys - length xs)
served_since {s} a b k l xs ys h before now =
    let more = ap (λ (c : SeenSeat). length c.receipts) h.1.seat ∙ length-append a.receipts h.1.more in
    let same : h.0 ≡ length ys - length xs = omega (arith, h.1.count_is, more, ap length before, ap length now) in
    subst (λ (n : ℕ). HasServed s a b k l n) same h.1

-- what holds of any error
pub on_err : {T E : Type 0} (P : Type 0) (r : Result T E) → P → OnErr r P
on_err P (Ok x) p = tt
on_err P (Err e) p = p
