-- A desk with one event more, and a seat with its receipt.
use Rattle.std.proofs.Common.{◌≡◌, ◌∙◌, ◌<◌, ◌≤◌, ◌+◌, ◌-◌, ◌^◌, ℕ, List, All, length, length-append, sym, ap, subst, arith, [], ◌∷◌, ◌++◌}
use Rattle.std.proofs.Common.{get_or, set, zero, suc, false, refl, inl, inr}
use Rattle.std.proofs.lemmas.List.{length-set}
use Rattle.std.proofs.lemmas.List.Elements.{All-push, All-set}
use Rattle.rb_money.specs.Settings.{Settings}
use Rattle.rb_site.specs.declared.event.Event.{Event}
use Rattle.rb_site.specs.declared.event.Event.TheVariants.{Receive}
use Rattle.rb_site.specs.declared.message.Message.{Message}
use Rattle.rb_site.specs.Events.{is_full, reply_to, sent_at}
use Rattle.rb_site.specs.Seen.{SeenSite, state_of, stepped}
use Rattle.rb_branch.specs.Seats.{HasOneMore, IsCall, IsDesk, IsOneOf, IsSeat, IsSiteMessage, IsSiteReply, Records, SeenSeat, SetsUnsent}
use Rattle.rb_branch.specs.Seats.{receipt}
use Rattle.rb_branch.specs.declared.limits.TheConstants.{MOST_RECEIPTS}
use Rattle.rb_scratch.specs.declared.request.TheConstants.{MOST_REQUESTS}
use Rattle.rb_site.proofs.Public.Outcomes.{room_left, sent_few}
use Rattle.rb_site.proofs.Public.Seen
use Rattle.rb_branch.proofs.ClosedReports.{kept}
use Rattle.rb_branch.specs.declared.receipt.Receipt.{Receipt}

-- a seat as clients see it
abbrev pub seat_of : ℕ → List Receipt → SeenSeat
seat_of site rs = record { site = site; receipts = rs }

-- the receipts with that of an event more
abbrev pub HasReceipt : SeenSite → SeenSite → Event → List Receipt → List Receipt → Type 0
HasReceipt x y e rs rs' = rs' ≡ rs ++ receipt (length y.entries) e (reply_to x.settings (state_of x) e) 0 ∷ []

-- the desk of an equal site
pub desk_same : (s : Settings) (x y : SeenSite) (p a : ℕ) → IsDesk s x p a → y ≡ x → IsDesk s y p a
desk_same s x y p a desk is = subst (λ (z : SeenSite). IsDesk s z p a) (sym is) desk

-- the seat of equal receipts
pub seat_same : (s : Settings) (site p a : ℕ) (rs rs' : List Receipt) → IsSeat s site rs p a → rs' ≡ rs → IsSeat s site rs' p a
seat_same s site p a rs rs' seat is = subst (λ (xs : List Receipt). IsSeat s site xs p a) (sym is) seat

-- an event leaves one entry more
pub one_entry : (x y : SeenSite) (e : Event) (n m : ℕ) → y ≡ stepped x e → n ≡ length x.entries → m ≡ length y.entries → m - n ≡ 1
one_entry x y e n m step before now =
    let len = ap (λ (z : SeenSite). length z.entries) step ∙ length-append x.entries (_ ∷ []) in omega (arith, before, now, len)

-- and one receipt more
pub one_receipt : (x y : SeenSite) (e : Event) (rs rs' : List Receipt) (n m : ℕ) → HasReceipt x y e rs rs' → n ≡ length rs
    → m ≡ length rs' → m - n ≡ 1
one_receipt x y e rs rs' n m is before now =
    let len = ap length is ∙ length-append rs (receipt (length y.entries) e (reply_to x.settings (state_of x) e) 0 ∷ []) in
    omega (arith, before, now, len)

-- one event more at the desk
pub desk_more : (s : Settings) (x y : SeenSite) (p a p' a' : ℕ) (e : Event) → IsDesk s x p a → y ≡ stepped x e
    → is_full x.settings (state_of x) ≡ false → length y.entries < 2 ^ 32 → a' ≡ a + 1 → p' ≡ p → IsDesk s y p' a'
desk_more s x y p a p' a' e desk step free few more part =
    let was = kept s x p a desk in
    let now = Seen.replayed-stepped x e (room_left x was free) was in
    subst (λ (t : Settings). IsDesk t y p' a') desk.settings (subst (λ (z : SeenSite). IsDesk x.settings z p' a') (sym step) (record {
      settings = refl;
      within = now.within;
      replays = now.replays;
      room = now.room;
      few = subst (λ (z : SeenSite). length z.entries < 2 ^ 32) step few;
      one_part = part ∙ desk.one_part;
      counted = more ∙ ap (λ n. n + 1) desk.counted ∙ sym (length-append x.entries (_ ∷ []));
    }))

-- one receipt more at the seat, which has what the site answers
pub seat_more : (s : Settings) (x y : SeenSite) (site p a p' a' q b : ℕ) (e : Event) (rs rs' : List Receipt)
    → IsDesk s x q b → IsSeat s site rs p a → site ≡ x.me → length rs < MOST_RECEIPTS → y ≡ stepped x e
    → HasReceipt x y e rs rs' → a' ≡ a + 1 → p' ≡ p → IsSeat s site rs' p' a'
seat_more s x y site p a p' a' q b e rs rs' desk seat me few step is more part =
    let P : Receipt → Type 0 = IsSiteReply s site in
    let last : Receipt = receipt (length y.entries) e (reply_to x.settings (state_of x) e) 0 in
    let one : P last = record {
      before = x;
      settings = desk.settings;
      me = sym me;
      replays = rw me desk.replays;
      number = ap (λ (z : SeenSite). length z.entries) step ∙ length-append x.entries (_ ∷ []);
      reply = ap (λ t. reply_to t (state_of x) e) desk.settings;
    } in
    let len = ap length is ∙ length-append rs (last ∷ []) in record {
      within = seat.within;
      one_part = part ∙ seat.one_part;
      counted = omega (arith, more, seat.counted, len);
      few = omega (arith, len, few);
      answered = subst (All P) (sym is) (All-push P rs last seat.answered one);
    }

-- the event and its receipt, as clients see them
pub recorded : (x x' y : SeenSite) (e : Event) (site n : ℕ) (rs rs' : List Receipt) (c : SeenSeat) (posted : List Message)
    → x ≡ x' → seat_of site rs ≡ c → site ≡ x.me → y ≡ stepped x e → HasReceipt x y e rs rs' → n ≡ length rs'
    → posted ≡ sent_at x.settings (state_of x) e → Records x' y e c (seat_of site rs') n posted
recorded x x' y e site n rs rs' c posted desk seat here step is number sent =
    let P : SeenSite → Type 0 = λ z. Records z y e (seat_of site rs) (seat_of site rs') n posted in
    let Q : SeenSeat → Type 0 = λ d. Records x' y e d (seat_of site rs') n posted in
    let one : P x = record {
      here = here;
      run = step;
      seat = ap (seat_of site) is;
      number_is = number;
      posted_is = sent;
    } in
    subst Q seat (subst P desk one)

-- the event and its receipt are one receipt more
pub records_one : (x y : SeenSite) (e : Event) (a b : SeenSeat) (n : ℕ) (posted : List Message) (P : Event → Type 0)
    → Records x y e a b n posted → P e → HasOneMore a b P n
records_one x y e a b n posted P h p = record {
  last = receipt (length y.entries) e (reply_to x.settings (state_of x) e) 0;
  seat = h.seat;
  event_is = p;
  number_is = h.number_is;
}

-- a message that came is one receipt more
pub received : {x y : SeenSite} {m : Message} {a b : SeenSeat} {n : ℕ} {sent : List Message} → Records x y (Receive m) a b n sent
    → HasOneMore a b (λ e. e ≡ Receive m) n
received {x} {y} {m} {a} {b} {n} {sent} h = records_one x y (Receive m) a b n sent (λ e. e ≡ Receive m) h refl

-- an event that is recorded at some site of the configuration is one receipt more
pub call_one : (s : Settings) (e : Event) (a b : SeenSeat) (n : ℕ) (sent : List Message) (P : Event → Type 0)
    → IsCall s e a b n sent → P e → HasOneMore a b P n
call_one s e a b n sent P h p = records_one h.desk (stepped h.desk e) e a b n sent P h.holds p

-- an item of a list is one of it
one_of : (xs : List Message) (k : ℕ) (d : Message) → k < length xs → IsOneOf (get_or xs k d) xs
one_of [] k d h = absurd (omega (arith, h))
one_of (x ∷ xs) zero d h = inl refl
one_of (x ∷ xs) (suc k) d h = inr (one_of xs k d (omega (arith, h)))

-- what a call gives to be sent is what a site sends
pub call_sends : (s : Settings) (e : Event) (a b : SeenSeat) (n : ℕ) (sent : List Message) → IsCall s e a b n sent
    → All (IsSiteMessage s) sent
call_sends s e a b n sent h k d within = record {
  desk = h.desk;
  settings = h.settings;
  within = h.within;
  replays = h.replays;
  room = h.room;
  holds = (
    e,
    subst (λ (t : Settings). IsOneOf (get_or sent k d) (sent_at t (state_of h.desk) e)) h.settings
        (subst (IsOneOf (get_or sent k d)) h.holds.posted_is (one_of sent k d within)),
  );
}

-- and these are as many as a batch may have
pub call_few : (s : Settings) (e : Event) (a b : SeenSeat) (n : ℕ) (sent : List Message) → IsCall s e a b n sent
    → length sent ≤ MOST_REQUESTS
call_few s e a b n sent h = rw h.holds.posted_is (sent_few h.desk.settings (state_of h.desk) e)

-- the receipt more, with another count of messages that were not sent
pub one_with_unsent : (a b c : SeenSeat) (P : Event → Type 0) (n count : ℕ) → HasOneMore a b P n → SetsUnsent b c count
    → HasOneMore a c P n
one_with_unsent a b c P n count h sets =
    let is : c ≡ record b { receipts = a.receipts ++ record (h.last) { unsent = count } ∷ [] } =
    sets a.receipts h.last (ap (λ (s : SeenSeat). s.receipts) h.seat) in
    let last : Receipt = record (h.last) { unsent = count } in record {
      last = last;
      seat = is ∙ ap (λ (s : SeenSeat). record s { receipts = a.receipts ++ last ∷ [] }) h.seat;
      event_is = h.event_is;
      number_is =
          h.number_is ∙ ap (λ (s : SeenSeat). length s.receipts) h.seat ∙ length-append a.receipts (h.last ∷ [])
          ∙ sym (length-append a.receipts (last ∷ [])) ∙ sym (ap (λ (s : SeenSeat). length s.receipts) is);
    }

-- another count of messages that were not sent with a receipt
pub seat_unsent : (s : Settings) (site p a i count : ℕ) (rs : List Receipt) (r : Receipt) → IsSeat s site rs p a → i < length rs
    → r ≡ get_or rs i r → IsSeat s site (set rs i (record r { unsent = count })) p a
seat_unsent s site p a i count rs r seat within at =
    let P : Receipt → Type 0 = IsSiteReply s site in
    let was : P r = subst P (sym at) (seat.answered i r within) in
    let now : P (record r { unsent = count }) = record {
      before = was.before;
      settings = was.settings;
      me = was.me;
      replays = was.replays;
      number = was.number;
      reply = was.reply;
    } in
    let len = length-set rs i (record r { unsent = count }) in record {
      within = seat.within;
      one_part = seat.one_part;
      counted = seat.counted ∙ sym len;
      few = rw len seat.few;
      answered = All-set P rs i (record r { unsent = count }) now seat.answered;
    }
