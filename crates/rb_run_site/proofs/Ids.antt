-- Entries no two of which have one id.
use Rattle.std.proofs.Common.{◌≡◌, ℕ, Bool, true, false, cond, List, [], ◌∷◌, ◌++◌, Some, None, refl, sym, ap, ◌∙◌}
use Rattle.std.proofs.Common.{append_assoc}
use Rattle.std.specs.Prelude.{◌≢◌, bytes_eq}
use Rattle.std.proofs.lemmas.Slice.Eq.{bytes_eq-Decides}
use Rattle.rb_money.specs.Settings.{Settings}
use Rattle.rb_site.specs.Events.{ModelSite, after_event, first_site, sent_at}
use Rattle.rb_history.specs.Ids.{AskedEntry}
use Rattle.rb_node.specs.Asked.{AreIdsOnce, Known, SeenAsked, known_from, known_of}

-- no entries have one id
pub none_once : AreIdsOnce []
none_once [] between later x y e same = absurd (cc e)
none_once (z ∷ before) between later x y e same = absurd (cc e)

-- the entry as a request that was made
abbrev known_as : Settings → ModelSite → AskedEntry → Known
known_as s t x = record { event = x.entry.event; reply = x.entry.reply; sent = sent_at s t x.entry.event }

-- if an id isn't known, no entry has it
not_before : (s : Settings) (t : ModelSite) (id : List ℕ) (xs : List AskedEntry) → known_from s t xs id ≡ None
    → (before later : List AskedEntry) (y : AskedEntry) → xs ≡ before ++ y ∷ later → y.id ≢ id
not_before s t id [] none [] later y e same = absurd (cc e)
not_before s t id [] none (z ∷ before) later y e same = absurd (cc e)
not_before s t id (x ∷ xs) none before later y e same =
    by (bytes_eq x.id id) refl none before e
    (λ found front behind. not_before s (after_event s t x.entry.event) id xs found front later y behind same)
  where
    by : (b : Bool) → bytes_eq x.id id ≡ b
        → cond b (Some (known_as s t x)) (known_from s (after_event s t x.entry.event) xs id) ≡ None
        → (front : List AskedEntry) → x ∷ xs ≡ front ++ y ∷ later
        → (known_from s (after_event s t x.entry.event) xs id ≡ None → (more : List AskedEntry) → xs ≡ more ++ y ∷ later → ⊥) → ⊥
    by true is found front e rest = absurd (cc found)
    by false is found [] e rest =
        let first : x ≡ y = cc e in
        let hit : bytes_eq x.id id ≡ true = (bytes_eq-Decides x.id id).1 (ap (λ (a : AskedEntry). a.id) first ∙ same) in
        absurd (cc (is, hit))
    by false is found (z ∷ front) e rest = let behind : xs ≡ front ++ y ∷ later = cc e in rest found front behind

-- if no entry has an id, it isn't known
none_from : (s : Settings) (t : ModelSite) (id : List ℕ) (xs : List AskedEntry)
    → ((before later : List AskedEntry) (y : AskedEntry) → xs ≡ before ++ y ∷ later → y.id ≢ id) → known_from s t xs id ≡ None
none_from s t id [] apart = refl
none_from s t id (x ∷ xs) apart = by (bytes_eq x.id id) refl (none_from s (after_event s t x.entry.event) id xs
    (λ before later y e. apart (x ∷ before) later y (ap (λ l. x ∷ l) e)))
  where
    by : (b : Bool) → bytes_eq x.id id ≡ b → known_from s (after_event s t x.entry.event) xs id ≡ None
        → cond b (Some (known_as s t x)) (known_from s (after_event s t x.entry.event) xs id) ≡ None
    by true is rest = absurd (apart [] xs x refl ((bytes_eq-Decides x.id id).0 is))
    by false is rest = rest

-- what is after the front of a list with an item more
record Rest (xs before : List AskedEntry) (y : AskedEntry) (rest : List AskedEntry) : Type 0 where
  mid : List AskedEntry
  is : xs ≡ before ++ mid
  rest_is : mid ++ y ∷ [] ≡ rest

-- an item more at the end of a list is at the end of what is after any front of it
rest_of : (xs before : List AskedEntry) (y z : AskedEntry) (rest : List AskedEntry) → xs ++ y ∷ [] ≡ before ++ z ∷ rest
    → Rest xs before y (z ∷ rest)
rest_of xs [] y z rest e = record { mid = xs; is = refl; rest_is = e }
rest_of [] (b ∷ []) y z rest e = absurd (cc e)
rest_of [] (b ∷ c ∷ before) y z rest e = absurd (cc e)
rest_of (x ∷ xs) (b ∷ before) y z rest e =
    let first : x ≡ b = cc e in
    let behind : xs ++ y ∷ [] ≡ before ++ z ∷ rest = cc e in
    let more = rest_of xs before y z rest behind in
    record {
      mid = more.mid;
      is = ap (λ a. a ∷ xs) first ∙ ap (λ l. b ∷ l) more.is;
      rest_is = more.rest_is;
    }

-- the id of an entry before isn't that of one whose id isn't known, unless they have none
apart_from : (x : SeenAsked) (id : List ℕ) → known_of x id ≡ None → (before later : List AskedEntry) (y : AskedEntry)
    → x.asked ≡ before ++ y ∷ later → y.id ≡ id → y.id ≡ []
apart_from x [] none before later y e same = same
apart_from x (b ∷ bs) none before later y e same =
    absurd (not_before x.settings (first_site x.me) (b ∷ bs) x.asked none before later y e same)

-- an entry more, whose id isn't known, has none of the ids of those before
pub once_more : (x : SeenAsked) (y : AskedEntry) → known_of x y.id ≡ None → AreIdsOnce x.asked
    → AreIdsOnce (x.asked ++ y ∷ [])
once_more x y none once before between later p q e same = by first.mid first.is first.rest_is
  where
    first : Rest x.asked before y (p ∷ (between ++ q ∷ later))
    first = rest_of x.asked before y p (between ++ q ∷ later) e

    last : (mid : List AskedEntry) → x.asked ≡ before ++ p ∷ (between ++ mid) → mid ++ y ∷ [] ≡ q ∷ later → p.id ≡ []
    last [] is rest =
        let end : y ≡ q = cc rest in
        apart_from x y.id none before (between ++ []) p is (same ∙ ap (λ (a : AskedEntry). a.id) (sym end))
    last (m ∷ mid) is rest =
        let at : m ≡ q = cc rest in
        once before between mid p q (is ∙ ap (λ a. before ++ p ∷ (between ++ a ∷ mid)) at) same

    by : (mid : List AskedEntry) → x.asked ≡ before ++ mid → mid ++ y ∷ [] ≡ p ∷ (between ++ q ∷ later) → p.id ≡ []
    by [] is rest = absurd (none_left between (let e : [] ≡ between ++ q ∷ later = cc rest in e))
      where
        none_left : (between : List AskedEntry) → [] ≡ between ++ q ∷ later → ⊥
        none_left [] e = cc e
        none_left (b ∷ between) e = cc e
    by (m ∷ mid) is rest =
        let at : m ≡ p = cc rest in
        let behind : mid ++ y ∷ [] ≡ between ++ q ∷ later = cc rest in
        let second = rest_of mid between y q later behind in
        last second.mid (is ∙ ap (λ a. before ++ a ∷ mid) at ∙ ap (λ l. before ++ p ∷ l) second.is) second.rest_is

-- if no two entries have one id, that of an entry isn't known before it
pub unknown_before : (s : Settings) (me : ℕ) (bank : List ℕ) (ys zs : List AskedEntry) (y : AskedEntry) → AreIdsOnce (ys ++ y ∷ zs)
    → known_of (record { settings = s; me = me; bank = bank; asked = ys }) y.id ≡ None
unknown_before s me bank ys zs y once = by y.id refl
  where
    behind : (before later : List AskedEntry) (p : AskedEntry) → ys ≡ before ++ p ∷ later
        → ys ++ y ∷ zs ≡ before ++ p ∷ (later ++ y ∷ zs)
    behind before later p e = ap (λ l. l ++ y ∷ zs) e ∙ append_assoc before (p ∷ later) (y ∷ zs)

    by : (id : List ℕ) → y.id ≡ id → known_of (record { settings = s; me = me; bank = bank; asked = ys }) id ≡ None
    by [] is = refl
    by (b ∷ bs) is = none_from s (first_site me) (b ∷ bs) ys
        (λ before later p e same. absurd (cc (once before later zs p y (behind before later p e) (same ∙ sym is), same)))
