-- What a site makes fits a line, and so does a statement of a valid list, and what refers to a position in one.
use Rattle.rb_history.proofs.Words.{Each, IsKind, IsMoved, IsReply, IsShadow, IsStatementRow, IsValid-front, MayFollow, member_sound}
use Rattle.rb_history.proofs.Words.{HasTarget, IsValid, first_cancel_from, at_most, cents, IsConfigured, IsVersion, Settings, start_of}
use Rattle.rb_history.proofs.Words.{MOST_CENTS, MOST_BALANCE, MOST_BLUE, MOST_OPERATIONS, MOST_RED, MOST_SITES, MOST_SITES_OF_VERSION_1}
use Rattle.rb_history.proofs.Words.{Place, SoundFacts, sound_facts, IsName, Among, arrived, bal, blue_count, cancels, delta, is_blue_of}
use Rattle.rb_history.proofs.Words.{is_on, is_red, moved, number_of, receiver_of, red_count, target_of, total, clock_of, IsSound}
use Rattle.rb_history.proofs.Words.{are_entries, is_foreign, limit_of, is_misdirected, Kind, OpName, Blue, Red, Shadow, Bool, List, None}
use Rattle.rb_history.proofs.Words.{Option, Some, [], ap, append_assoc, arith, cond, drop, false, inl, inr, length, length-append, negsuc}
use Rattle.rb_history.proofs.Words.{pos, refl, subst, suc, sym, true, zero, ℕ, ℤ, ◌*◌, ◌++◌, ◌+◌, ◌-◌, ◌<◌, ◌==◌, ◌^◌, ◌||◌, ◌∙◌, ◌∷◌, ◌≡◌}
use Rattle.rb_history.proofs.Words.{◌≤◌, and_parts, not-false, nat_tests, ints, count_by, if◌then◌else◌, nat_le, nat_lt, neg_ℤ, slice_get}
use Rattle.rb_history.proofs.Words.{slice_index, ◌+ℤ◌, ◌≤ℤ◌}
use Rattle.std.proofs.lemmas.List.FromFn.{length-map-range_with_len}
use Rattle.rb_shadow.specs.declared.kind.Kind.TheVariants.{Cancel, Transfer, Withdraw}
use Rattle.rb_history.proofs.FitsLaws.{IsWord}
use Rattle.std.proofs.lemmas.List.Sums.{sum_by-cons}
use Rattle.rb_shadow.proofs.Public.Balances
use Rattle.rb_shadow.proofs.Public.Clocks
use Rattle.rb_shadow.proofs.Public.Members
use Rattle.rb_shadow.proofs.Public.SoundFacts
use Rattle.rb_ledger.proofs.Public.Legal
use Rattle.rb_ledger.proofs.Public.ValidClocks
use Rattle.rb_site.specs.declared.reply.Reply.TheVariants.{Statement}
use Rattle.rb_statements.specs.Statements.{row_after, rows_of, statement_of}
use Rattle.rb_history.proofs.Public.Each.{each_both}

-- ---- a clock's counts

all_none : (sites limit : ℕ) (ns : List ℕ) → sites ≡ 0 → are_entries sites limit ns ≡ true → Each (λ n. n ≡ 0) ns
all_none sites limit [] none h = tt
all_none sites limit (n ∷ ns) none h =
    let p = and_parts (if sites == 0 then n == 0 else nat_le n limit) (are_entries (sites - 1) limit ns) h in
    (at sites none p.0, all_none (sites - 1) limit ns (omega arith) p.1)
  where
    at : (k : ℕ) → k ≡ 0 → (if k == 0 then n == 0 else nat_le n limit) ≡ true → n ≡ 0
    at zero e q = grind (arith, nat_tests)
    at (suc k) e q = absurd (omega arith)

few_entries : (sites limit : ℕ) (ns : List ℕ) → limit < 2 ^ 32 → are_entries sites limit ns ≡ true → Each IsWord ns
few_entries sites limit [] small h = tt
few_entries sites limit (n ∷ ns) small h =
    let p = and_parts (if sites == 0 then n == 0 else nat_le n limit) (are_entries (sites - 1) limit ns) h in
    (at (sites == 0) p.0, few_entries (sites - 1) limit ns small p.1)
  where
    at : (b : Bool) → (if b then n == 0 else nat_le n limit) ≡ true → IsWord n
    at true q = let e : n ≡ 0 = grind (arith, nat_tests) in omega arith
    at false q = let e : n ≤ limit = grind (arith, nat_tests) in omega arith

-- past the sites each count is 0
none_behind : (k sites limit : ℕ) (ns : List ℕ) → sites ≤ k → are_entries sites limit ns ≡ true → Each (λ n. n ≡ 0) (drop k ns)
none_behind zero sites limit ns past h = all_none sites limit ns (omega arith) h
none_behind (suc k) sites limit [] past h = tt
none_behind (suc k) sites limit (n ∷ ns) past h =
    none_behind k (sites - 1) limit ns (omega arith) (and_parts (if sites == 0 then n == 0
    else nat_le n limit) (are_entries (sites - 1) limit ns) h).1

clock_length : (us : List Shadow) → length (clock_of us).blue ≡ MOST_SITES
unfolding clock_of
clock_length us = length-map-range_with_len (blue_count us) 0 MOST_SITES

-- ---- a name and a kind

name_fits : (s : Settings) → IsConfigured s → (x : OpName) (home : ℕ) → nat_le s.sites home ≡ false → is_foreign x home ≡ false
    → nat_lt (limit_of s.limits x) (number_of x) ≡ false → IsName x
name_fits s c (Blue i n) home near own within =
    let few = c.few_sites in
    let most = c.blue.1 in
    let here : i ≡ home = grind (arith, nat_tests) in
    let low : home < s.sites = grind (arith, nat_tests) in
    let small : n ≤ s.limits.blue = grind (arith, nat_tests) in
    (omega arith, omega arith)
name_fits s c (Red n) home near own within =
    let most = c.red.1 in
    let small : n ≤ s.limits.red = grind (arith, nat_tests) in
    omega arith

-- the name of a sound operation fits a line
pub facts_name : (s : Settings) → IsConfigured s → (v : Shadow) → SoundFacts s v → IsName v.name
facts_name s c v f = name_fits s c v.name v.home f.home f.own f.within

kind_fits : (s : Settings) → IsConfigured s → (us : List Shadow) (v : Shadow) (kind : Kind) → IsValid s us →
    HasTarget us v (target_of kind)
    → is_misdirected (length s.starts) v.account (receiver_of kind) ≡ false → IsKind s kind
kind_fits s c us v (Cancel x) valid (t, there, named, is) near = subst IsName named (facts_name s c t (member_sound s us t valid there))
kind_fits s c us v (Transfer to) valid target near =
    let many = c.starts_of_all in
    let low : to.0 < length s.starts = grind (arith, nat_tests) in
    inl (omega arith)
kind_fits s c us v _ valid target near = tt

small_amount : (n : ℕ) → nat_lt MOST_CENTS n ≡ false → n < 2 ^ 64
small_amount n h = let most : n ≤ MOST_CENTS = grind (arith, nat_tests) in omega arith

few_of_version : (version sites : ℕ) → IsVersion version sites → version ≡ 1 → sites ≤ MOST_SITES_OF_VERSION_1
few_of_version version sites (inl one) e = one.1
few_of_version version sites (inr two) e = absurd (omega arith)

-- an operation that may follow a valid list, and carries its clock
pub made_fits : (s : Settings) → IsConfigured s → (us : List Shadow) (v : Shadow) → IsValid s us → MayFollow s us v → v.deps ≡ clock_of us
    → IsShadow s v
made_fits s c us v valid may clock =
    let f = sound_facts s v may.sound in
    let few = c.few_sites in
    let blue = c.blue.1 in
    let red = c.red.1 in
    let many = c.starts_of_all in
    let counted = and_parts (are_entries s.sites s.limits.blue v.deps.blue) (nat_le v.deps.red s.limits.red) (not-false _ f.clock) in
    let low : v.home < s.sites = let h = f.home in grind (arith, nat_tests) in
    let there : v.account.0 < length s.starts = let h = f.account in grind (arith, nat_tests) in
    let reds : v.deps.red ≤ s.limits.red = let h = counted.1 in grind (arith, nat_tests) in
    let amount : v.amount < 2 ^ 64 = let h = f.amount in small_amount v.amount h in
    record {
      name = facts_name s c v f;
      home = omega arith;
      sites = ap (λ d. length d.blue) clock ∙ clock_length us;
      blue = few_entries s.sites s.limits.blue v.deps.blue (omega arith) counted.0;
      further = λ e. none_behind MOST_SITES_OF_VERSION_1 s.sites s.limits.blue v.deps.blue (few_of_version s.version s.sites c.version e)
          counted.0;
      red = omega arith;
      account = inl (omega arith);
      amount = amount;
      kind = kind_fits s c us v v.kind valid may.target f.receiver;
    }

-- ---- how long it is

-- a red name, or a blue one of one of the first n sites
abbrev is_under : ℕ → OpName → Bool
is_under zero x = is_red x
is_under (suc n) x = is_under n x || is_blue_of x n

red_under : (m n : ℕ) → is_under n (Red m) ≡ true
red_under m zero = refl
red_under m (suc n) = ap (λ b. b || false) (red_under m n)

blue_under : (i m n : ℕ) → i < n → is_under n (Blue i m) ≡ true
blue_under i m zero h = absurd (omega arith)
blue_under i m (suc n) h = elim (Members.bool_cases (i == n)) [
  | inl e ↦ Members.or-right (is_under n (Blue i m)) (i == n) e
  | inr e ↦ let near : i < n = grind (arith, nat_tests) in ap (λ b. b || (i == n)) (blue_under i m n near)
]

all_under : (x : OpName) → Clocks.IsHoused x → is_under MOST_SITES x ≡ true
all_under (Blue i m) h = blue_under i m MOST_SITES h
all_under (Red m) h = red_under m MOST_SITES

-- of two tests at least one is passed by no more than pass each
count_or : (p q : Shadow → Bool) (us : List Shadow) → count_by (λ u. p u || q u) us ≤ count_by p us + count_by q us
count_or p q [] = omega arith
count_or p q (u ∷ us) =
    omega (
      arith,
      count_or p q us,
      sum_by-cons (λ v. cond (p v || q v) 1 0) u us,
      sum_by-cons (λ v. cond (p v) 1 0) u us,
      sum_by-cons (λ v. cond (q v) 1 0) u us,
      one (p u) (q u),
    )
  where
    one : (a b : Bool) → cond (a || b) 1 0 ≤ cond a 1 0 + cond b 1 0
    one true b = omega arith
    one false b = omega arith

count_all : (p : Shadow → Bool) (us : List Shadow) → ((u : Shadow) → Among u us → p u ≡ true) → count_by p us ≡ length us
count_all p [] h = refl
count_all p (u ∷ us) h =
    let one : cond {A = ℕ} (p u) 1 0 ≡ 1 = ap (λ b. cond {A = ℕ} b 1 0) (h u (inl refl)) in
    omega (arith, sum_by-cons (λ v. cond (p v) 1 0) u us, one, count_all p us (λ v k. h v (inr k)))

few_under : (us : List Shadow) (r m : ℕ) → red_count us ≤ r → ((k : ℕ) → blue_count us k ≤ m) → (n : ℕ)
    → count_by (λ u. is_under n u.name) us ≤ r + n * m
few_under us r m reds blues zero = let none : count_by (λ u. is_under zero u.name) us ≤ r = reds in omega (arith, none)
few_under us r m reds blues (suc n) =
    let more : suc n * m ≡ n * m + m = grind arith in
    omega (
      arith,
      count_or (λ u. is_under n u.name) (λ u. is_blue_of u.name n) us,
      few_under us r m reds blues n,
      blues n,
      more,
    )

-- a valid list has at most as many operations as the largest limits allow in all
pub few_operations : (s : Settings) → IsConfigured s → (us : List Shadow) → IsValid s us → length us ≤ MOST_OPERATIONS
few_operations s c us valid =
    omega (
      arith,
      few_under us MOST_RED MOST_BLUE reds blues MOST_SITES,
      count_all (λ u. is_under MOST_SITES u.name) us (λ u k. all_under u.name (SoundFacts.is_housed s u c.few_sites
          (Clocks.at_member us (λ before v. IsSound s v) u valid.sound k).1)),
    )
  where
    blues : (k : ℕ) → blue_count us k ≤ MOST_BLUE
    blues k = omega (arith, ValidClocks.within_limit s us (Blue k (blue_count us k)) valid refl, c.blue.1)

    reds : red_count us ≤ MOST_RED
    reds = omega (arith, ValidClocks.within_limit s us (Red (red_count us)) valid refl, c.red.1)

-- ---- how large a balance is

moved_low : (k : Kind) (n : ℕ) → moved k n ≤ℤ pos n
moved_low Withdraw n = omega (arith, ints)
moved_low (Transfer to) n = omega (arith, ints)
moved_low _ n = omega (arith, ints)

cond_low : (b : Bool) (y z : ℤ) (n : ℕ) → y ≤ℤ pos n → z ≤ℤ pos n → cond b y z ≤ℤ pos n
cond_low true y z n h k = h
cond_low false y z n h k = k

arrived_low : (o : Option Place) (n : ℕ) (a : Place) → arrived o n a ≤ℤ pos n
arrived_low None n a = omega (arith, ints)
arrived_low (Some to) n a = cond_low (to.0 == a.0) (pos n) (pos 0) n (omega (arith, ints)) (omega (arith, ints))

worth_low : (us : List Shadow) (a : Place) (u : Shadow) → Balances.worth us a u ≤ℤ pos u.amount
worth_low us a u =
    cond_low (Balances.is_kept us u) (delta u a) (pos 0) u.amount (cond_low (u.account.0 == a.0) (moved u.kind u.amount) _ u.amount
    (moved_low u.kind u.amount) (arrived_low (receiver_of u.kind) u.amount a)) (omega (arith, ints))

total_low : (f : Shadow → ℤ) (m : ℕ) (us : List Shadow) → ((u : Shadow) → Among u us → f u ≤ℤ pos m) → total f us ≤ℤ pos (m * length us)
total_low f m [] h = omega (arith, ints)
total_low f m (u ∷ us) h =
    let more : m * suc (length us) ≡ m + m * length us = grind arith in
    omega (arith, ints, h u (inl refl), total_low f m us (λ v k. h v (inr k)), more)

starts_low : (ns : List ℕ) (m : ℕ) → ((i n : ℕ) → slice_get ns i ≡ Some n → n ≤ m) → (i : ℕ) → slice_index ns i ≤ m
starts_low [] m h i = omega arith
starts_low (n ∷ ns) m h zero = h 0 n refl
starts_low (n ∷ ns) m h (suc i) = starts_low ns m (λ j k e. h (suc j) k e) i

-- what an account starts with is small
pub small_start : (s : Settings) (a : Place) → IsConfigured s → start_of s a ≤ MOST_CENTS
small_start s a c = starts_low s.starts MOST_CENTS c.starts a.0

-- a balance, which isn't negative
pub record IsBalance (s : Settings) (us : List Shadow) (a : Place) (n : ℕ) : Type 0 where
  pub is : pos n ≡ bal s us a
  pub small : n ≤ MOST_BALANCE

-- each balance of a valid list is small
pub small_balance : (s : Settings) → IsConfigured s → (us : List Shadow) (a : Place) → IsValid s us → IsBalance s us a (cents (bal s us a))
small_balance s c us a valid =
    let is : pos (cents (bal s us a)) ≡ bal s us a = Legal.kept_balance s us a (cents (bal s us a)) valid refl in
    let few : length us ≤ MOST_OPERATIONS = few_operations s c us valid in
    let start : start_of s a ≤ MOST_CENTS = small_start s a c in
    record {
      is = is;
      small = omega (
        arith,
        ints,
        is,
        few,
        start,
        Balances.bal-worth s us a,
        total_low (Balances.worth us a) MOST_CENTS us (λ u k. each u k),
      );
    }
  where
    each : (u : Shadow) → Among u us → Balances.worth us a u ≤ℤ pos MOST_CENTS
    each u k =
        let amount : u.amount ≤ MOST_CENTS = at_most MOST_CENTS u.amount (ValidClocks.member_sound s us u valid k).amount in
        omega (arith, ints, amount, worth_low us a u)

-- ---- positions

cancel_low : (k : ℕ) (us : List Shadow) (x : OpName) → first_cancel_from k us x ≤ k + length us
cancel_low k [] x = omega arith
cancel_low k (u ∷ us) x =
    let low = cancel_low (k + 1) us x in
    elim (cancels u.kind x) as (λ b. cond b k (first_cancel_from (k + 1) us x) ≤ k + suc (length us))
    [ true ↦ omega arith | false ↦ omega (arith, low) ]

-- the position of the first cancellation of a name
pub cancel_fits : (s : Settings) → IsConfigured s → (us : List Shadow) (x : OpName) → IsValid s us → first_cancel_from 1 us x < 2 ^ 32
cancel_fits s c us x valid = omega (arith, few_operations s c us valid, cancel_low 1 us x)

-- ---- balances and rows

-- a balance of a valid list
pub balance_fits : (s : Settings) → IsConfigured s → (us : List Shadow) (a : Place) → IsValid s us → cents (bal s us a) < 2 ^ 64
balance_fits s c us a valid = omega (arith, (small_balance s c us a valid).small)

moved_fits : (z : ℤ) → z ≤ℤ pos MOST_BALANCE → neg_ℤ (pos MOST_BALANCE) ≤ℤ z → IsMoved z
moved_fits (pos n) most least = let few : n ≤ MOST_BALANCE = omega (arith, ints, most) in omega (arith, few)
moved_fits (negsuc n) most least = let few : n ≤ MOST_BALANCE = omega (arith, ints, least) in omega (arith, few)

row_fits : (s : Settings) → IsConfigured s → (all : List Shadow) (a : Place) (before : List Shadow) (u : Shadow) →
    IsValid s (before ++ u ∷ []) → IsStatementRow (row_after s all a before u)
row_fits s c all a before u valid =
    let now = small_balance s c (before ++ u ∷ []) a valid in
    let was = small_balance s c before a (IsValid-front s before (u ∷ []) valid) in
    let few : length (before ++ u ∷ []) ≤ MOST_OPERATIONS = few_operations s c (before ++ u ∷ []) valid in
    let longer : length (before ++ u ∷ []) ≡ length before + 1 = length-append before (u ∷ []) in (
      omega (arith, few, longer),
      facts_name s c u (member_sound s (before ++ u ∷ []) u valid (Members.Among-right before (u ∷ []) u (inl refl))),
      moved_fits (bal s (before ++ u ∷ []) a +ℤ neg_ℤ (bal s before a)) (omega (arith, ints, now.is, now.small, was.is))
          (omega (arith, ints, now.is, was.is, was.small)),
      balance_fits s c (before ++ u ∷ []) a valid,
    )

each_if : {A : Type 0} (P : A → Type 0) (b : Bool) (x : A) → P x → Each P (cond b (x ∷ []) [])
each_if P true x h = (h, tt)
each_if P false x h = tt

rows_fit : (s : Settings) → IsConfigured s → (all : List Shadow) (a : Place) (before us : List Shadow) → IsValid s (before ++ us)
    → Each IsStatementRow (rows_of s all a before us)
rows_fit s c all a before [] valid = tt
rows_fit s c all a before (u ∷ us) valid =
    let whole : IsValid s ((before ++ u ∷ []) ++ us) = subst (IsValid s) (sym (append_assoc before (u ∷ []) us)) valid in
    each_both IsStatementRow _ (rows_of s all a (before ++ u ∷ []) us)
    (each_if IsStatementRow (is_on before u a) (row_after s all a before u)
    (row_fits s c all a before u (IsValid-front s (before ++ u ∷ []) us whole)))
    (rows_fit s c all a (before ++ u ∷ []) us whole)

-- an account's statement
pub statement_fits : (s : Settings) → IsConfigured s → (us : List Shadow) (a : Place) → IsValid s us
    → IsReply (Statement (statement_of s us a))
unfolding statement_of
statement_fits s c us a valid = (
  omega (arith, small_start s a c),
  rows_fit s c us a [] us valid,
  balance_fits s c us a valid,
)
