-- The tellers' part of an interleaving.
use Rattle.std.proofs.Common.{◌≡◌, ℕ, zero, suc, ◌+◌, ◌/◌, ◌%◌, ◌==◌, ◌⊎◌, inl, inr, List, [], ◌∷◌, ◌++◌, Bool, true, false, Option, Some}
use Rattle.std.proofs.Common.{None, map, length, set, refl, sym, ap, ◌∙◌, subst, arith}
use Rattle.std.specs.Prelude.{slice_get, if◌then◌else◌, nat_lt, All}
use Rattle.std.proofs.lemmas.Bool.{eq-eqb}
use Rattle.std.proofs.lemmas.Bool.Decides.{eqb_tells}
use Rattle.std.proofs.lemmas.Option.{slice_get_within}
use Rattle.std.proofs.lemmas.List.{set-append_left, length-map}
use Rattle.std.proofs.lemmas.List.{map-append}
use Rattle.rb_shadow.specs.declared.op_name.OpName.{OpName}
use Rattle.rb_scratch.specs.declared.request.Request.{Request}
use Rattle.rb_money.specs.declared.place.Place.{Place}
use Rattle.rb_scratch.specs.declared.request.Request.TheVariants as rq
use Rattle.rb_site.specs.declared.entry.Entry.{Entry}
use Rattle.rb_site.specs.declared.event.Event.{Event}
use Rattle.rb_site.specs.declared.event.Event.TheVariants as ev
use Rattle.rb_site.specs.Seen.{entry}
use Rattle.rb_site.proofs.Public.Lists.{get_front, map_at, map_back}
use Rattle.rb_branch.specs.declared.receipt.Receipt.{Receipt}
use Rattle.rb_branch.specs.Gathered.{AllEmpty, IsGathered, IsInterleaving, claim, claims, claims_at, numbered}
use Rattle.rb_branch.specs.Seats.{IsServed, SeenSeat}
use Rattle.rb_run_threads.specs.declared.teller.TheConstants.{CALLS}
use Rattle.rb_run_threads.specs.Tellers.{next_number, call_of, cancel_or, last_after, FollowsCalls, entries_of, IsTeller, IsCrew, is_call}
use Rattle.rb_run_threads.specs.Tellers.{calls_in, IsTellerList, TellersAt}

-- the entries that seats make themselves
abbrev pub pick : List (ℕ × Entry) → List Entry
pick [] = []
pick (p ∷ ps) = if is_call p.1.event then p.1 ∷ pick ps else pick ps

pick_numbered : (n : ℕ) (es : List Entry) → pick (numbered n es) ≡ calls_in es
pick_numbered n [] = refl
pick_numbered n (e ∷ es) = ap (λ r. if is_call e.event then e ∷ r else r) (pick_numbered (n + 1) es)

map_set : {A B : Type 0} (f : A → B) (xs : List A) (k : ℕ) (x : A) → map f (set xs k x) ≡ set (map f xs) k (f x)
map_set f [] k x = refl
map_set f (y ∷ xs) zero x = refl
map_set f (y ∷ xs) (suc k) x = ap (λ r. f y ∷ r) (map_set f xs k x)

set_same : {X : Type 0} (xs : List X) (k : ℕ) (x : X) → slice_get xs k ≡ Some x → set xs k x ≡ xs
set_same [] k x at = cc
set_same (y ∷ xs) zero x at = cc
set_same (y ∷ xs) (suc k) x at = ap (λ r. y ∷ r) (set_same xs k x at)

pick_step : (b : Bool) (e : Entry) (lists : List (List Entry)) (k : ℕ) (rest xs : List Entry)
    → slice_get lists k ≡ Some (if b then e ∷ rest else rest) → IsInterleaving (set lists k rest) xs
    → IsInterleaving lists (if b then e ∷ xs else xs)
pick_step true e lists k rest xs at h = (k, rest, at, h)
pick_step false e lists k rest xs at h =
    let P : List (List Entry) → Type 0 = λ ls. IsInterleaving ls xs in
    subst P (set_same lists k rest at) h

pick_interleaved : (lists : List (List (ℕ × Entry))) (xs : List (ℕ × Entry)) → IsInterleaving lists xs
    → IsInterleaving (map pick lists) (pick xs)
pick_interleaved lists [] h = λ k l at. let b = map_back pick lists k l at in b.2 ∙ ap pick (h k b.0 b.1)
pick_interleaved lists (x ∷ xs) h =
    let ih = pick_interleaved (set lists h.0 h.1) xs h.3 in
    let P : List (List Entry) → Type 0 = λ ls. IsInterleaving ls (pick xs) in
    pick_step (is_call x.1.event) x.1 (map pick lists) h.0 (pick h.1) (pick xs) (map_at pick lists h.0 (x ∷ h.1) h.2)
    (subst P (map_set pick lists h.0 h.1) ih)

get_split : {X : Type 0} (xs ys : List X) (k : ℕ) (x : X) → slice_get (xs ++ ys) k ≡ Some x
    → (slice_get xs k ≡ Some x) ⊎ ((j : ℕ) × (slice_get ys j ≡ Some x))
get_split [] ys k x at = inr (k, at)
get_split (z ∷ xs) ys zero x at = inl at
get_split (z ∷ xs) ys (suc k) x at = get_split xs ys k x at

-- lists that are empty do not count
front : (fs bs : List (List Entry)) (xs : List Entry) → AllEmpty bs → IsInterleaving (fs ++ bs) xs → IsInterleaving fs xs
front fs bs [] none h = λ k l at. h k l (get_front fs bs k l at)
front fs bs (x ∷ xs) none h =
    elim (get_split fs bs h.0 (x ∷ h.1) h.2) [
      | inl at ↦
          (let P : List (List Entry) → Type 0 = λ ls. IsInterleaving ls xs in
          let moved = subst P (set-append_left fs bs h.0 h.1 (slice_get_within fs h.0 (x ∷ h.1) at)) h.3 in
          (h.0, h.1, at, front (set fs h.0 h.1) bs xs none moved))
      | inr j ↦ (let gone = none j.0 (x ∷ h.1) j.1 in cc)
    ]

call_if : (b c d f : Bool) (p q r s : Request) (n : ℕ)
    → is_call (if b then ev.Submit p else if c then ev.Submit q else if d then ev.Submit r else if f then ev.Submit s else ev.Pass n) ≡ true
call_if true c d f p q r s n = refl
call_if false true d f p q r s n = refl
call_if false false true f p q r s n = refl
call_if false false false true p q r s n = refl
call_if false false false false p q r s n = refl

call_is : (x : ℕ) (last : Option OpName) (site sites : ℕ) → is_call (call_of x last site sites) ≡ true
unfolding call_of
call_is x last site sites =
    let r = x / 8589934592 in let a : Place = record { 0 = r / 8192 % 4 } in
    call_if (nat_lt (r % 8) 4) (r % 8 == 4) (r % 8 == 5) (r % 8 == 6) (rq.Deposit a (1 + r / 8 % 1000)) (rq.Withdraw a (1 + r / 8 % 500))
    (rq.Interest a (r / 8 % 200)) (cancel_or a last) ((site + 1) % sites)

pick_follows : (site sites x : ℕ) (last : Option OpName) (rs : List Receipt) → FollowsCalls site sites x last (entries_of rs)
    → pick (map claim rs) ≡ entries_of rs
pick_follows site sites x last [] f = refl
pick_follows site sites x last (r ∷ rs) f =
    let is : is_call r.event ≡ true = ap is_call f.0 ∙ call_is (next_number x) last site sites in
    let rest = pick_follows site sites (next_number x) (last_after last r.reply) rs f.1 in
    (λ i. if is i then entry r.event r.reply ∷ pick (map claim rs) else pick (map claim rs)) ∙ ap (λ t. entry r.event r.reply ∷ t) rest

served_is : (e : Event) → IsServed e → is_call e ≡ false
served_is (ev.Receive m) s = refl
served_is (ev.Apply a) s = refl
served_is _ s = absurd s

pick_served : (rs : List Receipt) → All (λ (r : Receipt). IsServed r.event) rs → pick (map claim rs) ≡ []
pick_served [] all = refl
pick_served (r ∷ rs) all =
    let is = served_is r.event (all 0 r (omega arith)) in
    (λ i. if is i then entry r.event r.reply ∷ pick (map claim rs) else pick (map claim rs))
    ∙ pick_served rs (λ k d h. all (suc k) d (omega arith))

pick_if : (b : Bool) (rs : List Receipt) → pick (map claim rs) ≡ [] → pick (if b then map claim rs else []) ≡ []
pick_if true rs h = h
pick_if false rs h = refl

teller_list : (seed sites site t : ℕ) (c : SeenSeat) → IsTeller (seed + t) (t % sites) sites c
    → IsTellerList seed sites site t (pick (claims_at site c))
teller_list seed sites site t c h = (
  (λ here.
      let at : (c.site == site) ≡ true = eq-eqb _ _ (h.site_is ∙ here) in
      let all : pick (claims_at site c) ≡ entries_of c.receipts =
      (λ i. pick (if at i then map claim c.receipts else [])) ∙ pick_follows (t % sites) sites (seed + t) None c.receipts h.follows in
      let P : List Entry → Type 0 = λ es. (length es ≡ CALLS) × FollowsCalls site sites (seed + t) None es in
      let Q : ℕ → Type 0 = λ s. FollowsCalls s sites (seed + t) None (entries_of c.receipts) in
      subst P (sym all) (length-map c.receipts (λ (r : Receipt). entry r.event r.reply) ∙ h.count, subst Q here h.follows)),
  (λ away.
      elim (eqb_tells c.site site) [
        | inl p ↦ absurd (away (sym h.site_is ∙ p.1))
        | inr p ↦ (λ i. pick (if p.0 i then map claim c.receipts else []))
      ]),
)

-- the tellers' entries of a gathered history
pub tellers_at : (seed tellers sites site : ℕ) (history : List Entry) (seats : List SeenSeat) → IsCrew seed tellers sites seats
    → IsGathered site history seats → TellersAt seed tellers sites site history
tellers_at seed tellers sites site history seats crew h =
    let ls = map (claims_at site) crew.hired in
    let ss = map (claims_at site) crew.serving in
    let parts : claims site seats ≡ ls ++ ss = ap (claims site) crew.seats_are ∙ map-append (claims_at site) crew.hired crew.serving in
    let P : List (List (ℕ × Entry)) → Type 0 = λ l. IsInterleaving l (numbered 1 history) in
    let Q : List (List Entry) → Type 0 = λ l. IsInterleaving l (pick (numbered 1 history)) in
    let R : List Entry → Type 0 = λ xs. IsInterleaving (map pick ls) xs in
    let picked = subst Q (map-append pick ls ss) (pick_interleaved (ls ++ ss) (numbered 1 history) (subst P parts h)) in
    let none : AllEmpty (map pick ss) = λ k l at.
    (let b = map_back pick ss k l at in
    let c = map_back (claims_at site) crew.serving k b.0 b.1 in
    b.2 ∙ ap pick c.2 ∙ pick_if (c.0.site == site) c.0.receipts (pick_served c.0.receipts (crew.servers k c.0 c.1).served)) in
    record {
      lists = map pick ls;
      count = length-map ls pick ∙ length-map crew.hired (claims_at site) ∙ crew.count;
      each = λ t es at.
          (let b = map_back pick ls t es at in
          let c = map_back (claims_at site) crew.hired t b.0 b.1 in
          let S : List Entry → Type 0 = IsTellerList seed sites site t in
          subst S (sym (b.2 ∙ ap pick c.2)) (teller_list seed sites site t c.0 (crew.each t c.0 c.1)));
      all = subst R (pick_numbered 1 history) (front (map pick ls) (map pick ss) (pick (numbered 1 history)) none picked);
    }
