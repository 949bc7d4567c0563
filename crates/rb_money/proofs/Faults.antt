-- Facts that follow if nothing is wrong with a configuration that is asked for.
use Rattle.std.proofs.Common.{◌≡◌, List, [], ◌∷◌, ◌++◌, ℕ, ◌+◌, zero, suc, Bool, true, false, Option, Some, None, refl, ap, sym, subst, ◌∙◌}
use Rattle.std.proofs.Common.{◌≤◌, length, slice_get, inl, inr}
use Rattle.std.specs.Prelude.{map, not, ◌&&◌, nat_le, nat_lt, if◌then◌else◌}
use Rattle.std.specs.Option.{option_or}
use Rattle.std.specs.Str.{bytes_eq}
use Rattle.std.proofs.lemmas.Bool.{not-false, and_parts, or_parts, leb-true, ltb-false, true≢false, or_right, or_left}
use Rattle.std.proofs.lemmas.List.Folds.{list_any-append}
use Rattle.std.proofs.lemmas.Slice.Eq.{bytes_eq-Decides}
use Rattle.std.proofs.lemmas.Option.{same_Some}
use Rattle.rb_money.specs.declared.fault.ConfigFault.{ConfigFault}
use Rattle.rb_money.specs.declared.fault.ConfigFault.TheVariants.{Sites, Accounts, Name, Twice, Start, Limit}
use Rattle.rb_money.specs.declared.limits.Limits.{Limits}
use Rattle.rb_money.specs.declared.cents.TheConstants.{MOST_CENTS}
use Rattle.rb_money.specs.Settings.{IsConfigured, IsLimit, IsVersion, is_account_name, version_of}
use Rattle.rb_money.specs.declared.limits.TheConstants.{MOST_SITES, MOST_SITES_OF_VERSION_1, MOST_ACCOUNTS, MOST_BLUE, MOST_RED, MOST_INBOX}
use Rattle.rb_money.specs.declared.limits.TheConstants.{MOST_HISTORY, MOST_EPOCH}
use Rattle.rb_money.specs.Faults.{Account, settings_of, is_among, account_fault, is_limit, are_limits, config_fault}

-- the first of two faults is not there, so the test fails and the second is not there
past : (b : Bool) (x : ConfigFault) (o : Option ConfigFault) → (if b then Some x else o) ≡ None → (b ≡ false) × (o ≡ None)
past true x o h = absurd (cc)
past false x o h = (refl, h)

neither : (o p : Option ConfigFault) → option_or o p ≡ None → (o ≡ None) × (p ≡ None)
neither None p h = (refl, h)
neither (Some x) p h = absurd (cc)

holds : (b : Bool) → (if b then None else Some Limit) ≡ None → b ≡ true
holds true h = refl
holds false h = absurd (cc)

-- what is known of an account with which nothing is wrong, and of the later ones
pub record IsFine (before : List (List ℕ)) (i : ℕ) (a : Account) (later : List Account) : Type 0 where
  pub named : is_account_name a.0 ≡ true
  pub fresh : is_among before a.0 ≡ false
  pub small : nat_lt MOST_CENTS a.1 ≡ false
  pub rest : account_fault (before ++ a.0 ∷ []) (i + 1) later ≡ None

-- an account that isn't wrong
pub fine : (before : List (List ℕ)) (i : ℕ) (a : Account) (later : List Account) → account_fault before i (a ∷ later) ≡ None →
    IsFine before i a later
fine before i a later h =
    let third = account_fault (before ++ a.0 ∷ []) (i + 1) later in
    let second : Option ConfigFault = if nat_lt MOST_CENTS a.1 then Some (Start i) else third in
    let first : Option ConfigFault = if is_among before a.0 then Some (Twice i) else second in
    let p = past (not (is_account_name a.0)) (Name i) first h in
    let q = past (is_among before a.0) (Twice i) second p.1 in
    let r = past (nat_lt MOST_CENTS a.1) (Start i) third q.1 in
    record { named = not-false (is_account_name a.0) p.0; fresh = q.0; small = r.0; rest = r.1 }

abbrev names : List Account → List (List ℕ)
names accounts = map (λ a. a.0) accounts

abbrev starts : List Account → List ℕ
starts accounts = map (λ a. a.1) accounts

proper_name : (before : List (List ℕ)) (i : ℕ) (accounts : List Account) → account_fault before i accounts ≡ None → (k : ℕ) (name : List ℕ)
    → slice_get (names accounts) k ≡ Some name → is_account_name name ≡ true
proper_name before i [] none k name at = absurd (cc)
proper_name before i (a ∷ later) none zero name at =
    let P : List ℕ → Type 0 = λ n. is_account_name n ≡ true in
    subst P (same_Some a.0 name at) (fine before i a later none).named
proper_name before i (a ∷ later) none (suc k) name at = proper_name (before ++ a.0 ∷ []) (i
    + 1) later (fine before i a later none).rest k name at

small_start : (before : List (List ℕ)) (i : ℕ) (accounts : List Account) → account_fault before i accounts ≡ None → (k n : ℕ) →
    slice_get (starts accounts) k ≡ Some n → n ≤ MOST_CENTS
small_start before i [] none k n at = absurd (cc)
small_start before i (a ∷ later) none zero n at =
    let P : ℕ → Type 0 = λ m. m ≤ MOST_CENTS in
    subst P (same_Some a.1 n at) (ltb-false MOST_CENTS a.1 (fine before i a later none).small)
small_start before i (a ∷ later) none (suc k) n at = small_start (before ++ a.0 ∷ []) (i + 1) later (fine before i a later none).rest k n at

-- no name is among the earlier ones
unseen : (before : List (List ℕ)) (i : ℕ) (accounts : List Account) → account_fault before i accounts ≡ None → (k : ℕ) (name : List ℕ) →
    slice_get (names accounts) k ≡ Some name → is_among before name ≡ false
unseen before i [] none k name at = absurd (cc)
unseen before i (a ∷ later) none zero name at =
    let P : List ℕ → Type 0 = λ n. is_among before n ≡ false in
    subst P (same_Some a.0 name at) (fine before i a later none).fresh
unseen before i (a ∷ later) none (suc k) name at =
    (or_parts (is_among before name) (is_among (a.0 ∷ []) name) (sym (list_any-append (λ n. bytes_eq name n) before (a.0 ∷ []))
    ∙ unseen (before ++ a.0 ∷ []) (i + 1) later (fine before i a later none).rest k name at)).0

-- a name is among the names of which it is the last
is_last : (before : List (List ℕ)) (name : List ℕ) → is_among (before ++ name ∷ []) name ≡ true
is_last before name = list_any-append (λ n. bytes_eq name n) before (name ∷ [])
    ∙ or_right (is_among before name) (is_among (name ∷ []) name) (or_left (bytes_eq name name) false ((bytes_eq-Decides name name).1 refl))

-- and so no later account has it
not_later : (before : List (List ℕ)) (i : ℕ) (a : Account) (later : List Account) → account_fault before i (a ∷ later) ≡ None → (k : ℕ) →
    slice_get (names later) k ≡ Some a.0 → ⊥
not_later before i a later none k at = true≢false (sym (is_last before a.0)
    ∙ unseen (before ++ a.0 ∷ []) (i + 1) later (fine before i a later none).rest k a.0 at)

one_place : (before : List (List ℕ)) (i : ℕ) (accounts : List Account) → account_fault before i accounts ≡ None → (j k : ℕ) (name : List ℕ)
    → slice_get (names accounts) j ≡ Some name → slice_get (names accounts) k ≡ Some name → j ≡ k
one_place before i [] none j k name p q = absurd (cc)
one_place before i (a ∷ later) none zero zero name p q = refl
one_place before i (a ∷ later) none zero (suc k) name p q = absurd (not_later before i a later none k (q ∙ sym p))
one_place before i (a ∷ later) none (suc j) zero name p q = absurd (not_later before i a later none j (p ∙ sym q))
one_place before i (a ∷ later) none (suc j) (suc k) name p q = ap suc (one_place (before ++ a.0 ∷ []) (i
    + 1) later (fine before i a later none).rest j k name p q)

in_range : (n most : ℕ) → is_limit n most ≡ true → IsLimit n most
in_range n most h =
    let p = and_parts (nat_le 1 n) (nat_le n most) h in
    (leb-true 1 n p.0, leb-true n most p.1)

length_names : (accounts : List Account) → length (names accounts) ≡ length accounts
length_names [] = refl
length_names (a ∷ later) = ap suc (length_names later)

length_starts : (accounts : List Account) → length (starts accounts) ≡ length accounts
length_starts [] = refl
length_starts (a ∷ later) = ap suc (length_starts later)

-- what is looked at, if nothing is wrong
pub record IsProper (sites : ℕ) (accounts : List Account) (limits : Limits) : Type 0 where
  pub some_sites : 2 ≤ sites
  pub few_sites : sites ≤ MOST_SITES
  pub some_accounts : 1 ≤ length accounts
  pub few_accounts : length accounts ≤ MOST_ACCOUNTS
  pub each_account : account_fault [] 0 accounts ≡ None
  pub each_limit : are_limits limits ≡ true

-- a configuration in which nothing is wrong
pub proper : (sites : ℕ) (accounts : List Account) (limits : Limits) → config_fault sites accounts limits ≡ None →
    IsProper sites accounts limits
proper sites accounts limits none =
    let last : Option ConfigFault = if are_limits limits then None else Some Limit in
    let third = option_or (account_fault [] 0 accounts) last in
    let count = nat_le 1 (length accounts) && nat_le (length accounts) MOST_ACCOUNTS in
    let second : Option ConfigFault = if not count then Some Accounts else third in
    let p = past (not (nat_le 2 sites && nat_le sites MOST_SITES)) Sites second none in
    let q = past (not count) Accounts third p.1 in
    let r = neither (account_fault [] 0 accounts) last q.1 in
    let s = and_parts (nat_le 2 sites) (nat_le sites MOST_SITES) (not-false _ p.0) in
    let t = and_parts (nat_le 1 (length accounts)) (nat_le (length accounts) MOST_ACCOUNTS) (not-false _ q.0) in
    record {
      some_sites = leb-true 2 sites s.0;
      few_sites = leb-true sites MOST_SITES s.1;
      some_accounts = leb-true 1 (length accounts) t.0;
      few_accounts = leb-true (length accounts) MOST_ACCOUNTS t.1;
      each_account = r.0;
      each_limit = holds (are_limits limits) r.1;
    }

-- the version if none is asked for may be so
allowed : (sites : ℕ) → IsVersion (version_of sites) sites
allowed sites = at (nat_le sites MOST_SITES_OF_VERSION_1) refl
  where
    at : (b : Bool) → nat_le sites MOST_SITES_OF_VERSION_1 ≡ b → IsVersion (if b then 1 else 2) sites
    at true q = inl (refl, leb-true sites MOST_SITES_OF_VERSION_1 q)
    at false q = inr refl

-- it is a configuration
pub configured : (sites : ℕ) (accounts : List Account) (limits : Limits) → config_fault sites accounts limits ≡ None →
    IsConfigured (settings_of sites accounts limits)
configured sites accounts limits none =
    let p = proper sites accounts limits none in
    let blue = is_limit limits.blue MOST_BLUE in
    let red = is_limit limits.red MOST_RED in
    let inbox = is_limit limits.inbox MOST_INBOX in
    let history = is_limit limits.history MOST_HISTORY in
    let epoch = is_limit limits.epoch MOST_EPOCH in
    let a = and_parts (blue && red && inbox && history) epoch p.each_limit in
    let b = and_parts (blue && red && inbox) history a.0 in
    let c = and_parts (blue && red) inbox b.0 in
    let d = and_parts blue red c.0 in
    let same = length_names accounts in
    record {
      some_sites = p.some_sites;
      few_sites = p.few_sites;
      some_accounts = rw same p.some_accounts;
      few_accounts = rw same p.few_accounts;
      starts_of_all = length_starts accounts ∙ sym same;
      names = proper_name [] 0 accounts p.each_account;
      unique = one_place [] 0 accounts p.each_account;
      starts = small_start [] 0 accounts p.each_account;
      blue = in_range limits.blue MOST_BLUE d.0;
      red = in_range limits.red MOST_RED d.1;
      inbox = in_range limits.inbox MOST_INBOX c.1;
      history = in_range limits.history MOST_HISTORY b.1;
      epoch = in_range limits.epoch MOST_EPOCH a.1;
      version = allowed sites;
    }
