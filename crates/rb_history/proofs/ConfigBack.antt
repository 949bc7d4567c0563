-- The line of a configuration is read as the configuration, and what is read is one.
use Rattle.rb_history.proofs.Words.{accounts_of, config_json, start_json, accounts_at, accounts_in, config_at, config_from, config_in}
use Rattle.rb_history.proofs.Words.{config_of, has_known_keys, is_version, limits_of, version_at, Each, number_below, below, Account}
use Rattle.rb_history.proofs.Words.{account_fault, config_fault, is_among, settings_of, IsConfigured, IsVersion, Settings, is_account_name}
use Rattle.rb_history.proofs.Words.{MOST_CENTS, Limits, MOST_ACCOUNTS, MOST_BLUE, MOST_EPOCH, MOST_HISTORY, MOST_INBOX, MOST_RED}
use Rattle.rb_history.proofs.Words.{MOST_SITES, MOST_SITES_OF_VERSION_1, Data, get, read, items_of, compact_text, IfSome, List, None}
use Rattle.rb_history.proofs.Words.{Option, Some, [], ap, arith, bytes_eq, codes, drop, false, get_or, inl, inr, length, refl, rules, subst}
use Rattle.rb_history.proofs.Words.{suc, sym, true, zero, ℕ, ◌&&◌, ◌++◌, ◌+◌, ◌<◌, ◌==◌, ◌^◌, ◌∙◌, ◌∷◌, ◌≡◌, ◌≤◌, and_parts, eqb-true}
use Rattle.rb_history.proofs.Words.{le-leb, leb-true, or_parts, or_cases, or_right, nat_tests, length-map, bytes_eq-Decides, is_none, map}
use Rattle.rb_history.proofs.Words.{nat_le, nat_lt, option_and_then, slice_get}
use Rattle.rb_history.proofs.Reading.{compact_read}
use Rattle.rb_history.proofs.EntryText.{list_text, number_text, pair_text, string_text}
use Rattle.rb_history.proofs.KnownPlaces.{fails}
use Rattle.rb_money.proofs.Public.Configured.{parts_configured}
use Rattle.rb_history.specs.Laws.{ReadConfigsAreConfigured}
use Rattle.rb_history.proofs.FitsLaws.{fits_if, fits_next}

-- the accounts from a place on begin with the account there
pub drop_accounts : (names : List (List ℕ)) (starts : List ℕ) (i : ℕ) → i < length names → i < length starts
    → drop i (accounts_of names starts) ≡ (get_or names i [], get_or starts i 0) ∷ drop (suc i) (accounts_of names starts)
drop_accounts [] starts i h k = absurd (omega arith)
drop_accounts (name ∷ names) [] i h k = absurd (omega arith)
drop_accounts (name ∷ names) (start ∷ starts) zero h k = refl
drop_accounts (name ∷ names) (start ∷ starts) (suc i) h k = drop_accounts names starts i (omega arith) (omega arith)

-- there are no more accounts than starting balances
pub few_accounts : (names : List (List ℕ)) (starts : List ℕ) → length (accounts_of names starts) ≤ length starts
few_accounts [] starts = omega arith
few_accounts (name ∷ names) [] = omega arith
few_accounts (name ∷ names) (start ∷ starts) = let h = few_accounts names starts in omega arith

-- ---- the line of a configuration is read as the configuration

-- names and starting balances, from the accounts that they make
names_back : (names : List (List ℕ)) (starts : List ℕ) → length starts ≡ length names → map (λ a. a.0) (accounts_of names starts) ≡ names
names_back [] starts e = refl
names_back (name ∷ names) [] e = absurd (omega arith)
names_back (name ∷ names) (start ∷ starts) e = ap (λ l. name ∷ l) (names_back names starts (omega arith))

starts_back : (names : List (List ℕ)) (starts : List ℕ) → length starts ≡ length names → map (λ a. a.1) (accounts_of names starts) ≡ starts
starts_back [] [] e = refl
starts_back [] (start ∷ starts) e = absurd (omega arith)
starts_back (name ∷ names) [] e = absurd (omega arith)
starts_back (name ∷ names) (start ∷ starts) e = ap (λ l. start ∷ l) (starts_back names starts (omega arith))

accounts_length : (names : List (List ℕ)) (starts : List ℕ) → length starts ≡ length names
    → length (accounts_of names starts) ≡ length names
accounts_length names starts e = sym (length-map (accounts_of names starts) (λ (a : Account). a.0)) ∙ ap length (names_back names starts e)

small_starts : (names : List (List ℕ)) (starts : List ℕ) → ((i n : ℕ) → slice_get starts i ≡ Some n → n ≤ MOST_CENTS)
    → Each (λ (a : Account). a.1 < 2 ^ 64) (accounts_of names starts)
small_starts [] starts most = tt
small_starts (name ∷ names) [] most = tt
small_starts (name ∷ names) (start ∷ starts) most = let small : start ≤ MOST_CENTS = most 0 start refl in
    (omega arith, small_starts names starts (λ i. most (suc i)))

accounts_back : (accounts : List Account) → Each (λ (a : Account). a.1 < 2 ^ 64) accounts
    → accounts_in (items_of (map start_json accounts)) ≡ Some accounts
accounts_back [] h = refl
accounts_back (a ∷ accounts) h = rw (below a.1 (2 ^ 64) h.0, accounts_back accounts h.1) refl

-- ---- nothing is wrong with what a configuration keeps

among_more : (before : List (List ℕ)) (a n : List ℕ) → is_among before n ≡ false → (n ≡ a → ⊥) → is_among (before ++ a ∷ []) n ≡ false
among_more [] a n e apart = rw (fails (bytes_eq n a) (n ≡ a) (bytes_eq-Decides n a) apart) refl
among_more (b ∷ before) a n e apart = let p = or_parts (bytes_eq n b) (is_among before n) e in
    rw (p.0, among_more before a n p.1 apart) refl

at_most : (n : ℕ) → n ≤ MOST_CENTS → nat_lt MOST_CENTS n ≡ false
at_most n h = grind (arith, nat_tests)

no_account_fault : (before : List (List ℕ)) (i : ℕ) (names : List (List ℕ)) (starts : List ℕ) → length starts ≡ length names
    → ((j : ℕ) (name : List ℕ) → slice_get names j ≡ Some name → is_account_name name ≡ true)
    → ((j n : ℕ) → slice_get starts j ≡ Some n → n ≤ MOST_CENTS)
    → ((j : ℕ) (name : List ℕ) → slice_get names j ≡ Some name → is_among before name ≡ false)
    → ((j k : ℕ) (name : List ℕ) → slice_get names j ≡ Some name → slice_get names k ≡ Some name → j ≡ k)
    → account_fault before i (accounts_of names starts) ≡ None
no_account_fault before i [] starts e proper most fresh once = refl
no_account_fault before i (name ∷ names) [] e proper most fresh once = absurd (omega arith)
no_account_fault before i (name ∷ names) (start ∷ starts) e proper most fresh once =
    rw (proper 0 name refl, fresh 0 name refl, at_most start (most 0 start refl))
    (no_account_fault (before ++ name ∷ []) (i + 1) names starts (omega arith) (λ j. proper (suc j)) (λ j. most (suc j))
    (λ j n there. among_more before name n (fresh (suc j) n there) (λ same.
    let f : 0 ≡ suc j = once 0 (suc j) n (ap Some (sym same)) there in omega arith))
    (λ j k n here there. let f = once (suc j) (suc k) n here there in omega arith))

no_fault : (s : Settings) → IsConfigured s → config_fault s.sites (accounts_of s.names s.starts) s.limits ≡ None
no_fault s c =
    let many = accounts_length s.names s.starts c.starts_of_all in
    let some_accounts = c.some_accounts in
    let few_accounts = c.few_accounts in
    let l = s.limits in
    let accounts = accounts_of s.names s.starts in
    rw (
      le-leb 2 s.sites c.some_sites,
      le-leb s.sites MOST_SITES c.few_sites,
      le-leb 1 (length accounts) (omega arith),
      le-leb (length accounts) MOST_ACCOUNTS (omega arith),
      no_account_fault [] 0 s.names s.starts c.starts_of_all c.names c.starts (λ j name at. refl) c.unique,
      le-leb 1 l.blue c.blue.0,
      le-leb l.blue MOST_BLUE c.blue.1,
      le-leb 1 l.red c.red.0,
      le-leb l.red MOST_RED c.red.1,
      le-leb 1 l.inbox c.inbox.0,
      le-leb l.inbox MOST_INBOX c.inbox.1,
      le-leb 1 l.history c.history.0,
      le-leb l.history MOST_HISTORY c.history.1,
      le-leb 1 l.epoch c.epoch.0,
      le-leb l.epoch MOST_EPOCH c.epoch.1,
    ) refl

-- its version is one that its sites may have
right_version : (version sites : ℕ) → IsVersion version sites → is_version version sites ≡ true
right_version version sites (inl (one, few)) = rw (one, le-leb sites MOST_SITES_OF_VERSION_1 few) refl
right_version version sites (inr two) = rw two (or_right ((2 == 1) && nat_le sites MOST_SITES_OF_VERSION_1) true refl)

small_version : (version sites : ℕ) → IsVersion version sites → version < 2 ^ 8
small_version version sites (inl (one, few)) = omega arith
small_version version sites (inr two) = omega arith

config_back : (s : Settings) → IsConfigured s → config_of (config_json s) ≡ Some s
config_back s c =
    let l = s.limits in
    let few = c.few_sites in
    let blue = c.blue.1 in
    let red = c.red.1 in
    let inbox = c.inbox.1 in
    let history = c.history.1 in
    let epoch = c.epoch.1 in
    let names = names_back s.names s.starts c.starts_of_all in
    let starts = starts_back s.names s.starts c.starts_of_all in
    rw (
      below s.sites (2 ^ 8) (omega arith),
      below l.blue (2 ^ 32) (omega arith),
      below l.red (2 ^ 32) (omega arith),
      below l.inbox (2 ^ 32) (omega arith),
      below l.history (2 ^ 32) (omega arith),
      below l.epoch (2 ^ 32) (omega arith),
      accounts_back (accounts_of s.names s.starts) (small_starts s.names s.starts c.starts),
      no_fault s c,
      below s.version (2 ^ 8) (small_version s.version s.sites c.version),
      right_version s.version s.sites c.version,
    )
    (λ j. Some (record { sites = s.sites; names = names j; starts = starts j; limits = l; version = s.version }))

-- ---- the text

config_text : (s : Settings) → IsConfigured s → read (compact_text (config_json s)) ≡ Some (config_json s)
config_text s c =
    let few = c.few_sites in
    let accounts = list_text start_json (λ a. a.1 < 2 ^ 64) 1 (λ a small. pair_text _ _ 0 (string_text a.0) (number_text a.1 small))
    (accounts_of s.names s.starts) (small_starts s.names s.starts c.starts) in
    let blue = number_text {most = 0} s.limits.blue (omega (arith, c.blue.1)) in
    let epoch = number_text {most = 0} s.limits.epoch (omega (arith, c.epoch.1)) in
    let history = number_text {most = 0} s.limits.history (omega (arith, c.history.1)) in
    let inbox = number_text {most = 0} s.limits.inbox (omega (arith, c.inbox.1)) in
    let red = number_text {most = 0} s.limits.red (omega (arith, c.red.1)) in
    let sites = number_text {most = 0} s.sites (omega arith) in
    let small = small_version s.version s.sites c.version in
    let version = number_text {most = 0} s.version (omega arith) in
    let depth = accounts.shallow in
    let line = config_json s in
    compact_read line line (
      accounts.numbers,
      (blue.numbers, (epoch.numbers, (history.numbers, (inbox.numbers, (red.numbers, (sites.numbers, (version.numbers, tt))))))),
    )
    (omega arith) (rw (accounts.same, blue.same, epoch.same, history.same, inbox.same, red.same, sites.same, version.same) refl)

-- the line of a configuration is read as it
pub config_line : (s : Settings) → IsConfigured s → config_at (compact_text (config_json s)) ≡ Some s
config_line s c = ap (option_and_then config_of) (config_text s c) ∙ config_back s c

-- ---- a line that is read gives a configuration

nothing : {A : Type 0} (o : Option A) → is_none o ≡ true → o ≡ None
nothing None e = refl
nothing (Some x) e = absurd (cc)

-- a version that its sites may have
may_be : (version sites : ℕ) → is_version version sites ≡ true → IsVersion version sites
may_be version sites e = elim (or_cases ((version == 1) && nat_le sites MOST_SITES_OF_VERSION_1) (version == 2) e) [
  | inl h ↦
      let p = and_parts (version == 1) (nat_le sites MOST_SITES_OF_VERSION_1) h in
      inl (eqb-true version 1 p.0, leb-true sites MOST_SITES_OF_VERSION_1 p.1)
  | inr h ↦ inr (eqb-true version 2 h)
]

-- a configuration is one in each version that its sites may have
in_version : (s : Settings) (version : ℕ) → IsConfigured s → IsVersion version s.sites → IsConfigured (record s { version = version })
in_version s version c may = search rules

of_parts : (version sites : ℕ) (limits : Limits) (accounts : List Account) → IfSome (config_from version sites limits accounts) IsConfigured
of_parts version sites limits accounts =
    let fault = config_fault sites accounts limits in
    fits_if IsConfigured (is_version version sites && is_none fault) _ (λ e.
    let p = and_parts (is_version version sites) (is_none fault) e in
    in_version (settings_of sites accounts limits) version (parts_configured sites accounts limits (nothing fault p.1))
    (may_be version sites p.0))

of_values : (d : Data) → IfSome (config_in d) IsConfigured
of_values d =
    fits_next IsConfigured _ (version_at d) (λ version.
    fits_next IsConfigured _ (option_and_then (number_below (2 ^ 8)) (get (codes "sites") d)) (λ sites.
    fits_next IsConfigured _ (limits_of d) (λ limits.
    fits_next IsConfigured (config_from version sites limits) (option_and_then accounts_at (get (codes "accounts") d))
    (of_parts version sites limits))))

of_line : (line : List ℕ) → IfSome (option_and_then config_of (read line)) IsConfigured
of_line line = fits_next IsConfigured config_of (read line) (λ d. fits_if IsConfigured (has_known_keys d) (config_in d)
    (λ known. of_values d))

-- whatever line is read as settings, they are a configuration's
pub read_configured : ReadConfigsAreConfigured
read_configured line s e = subst (λ o. IfSome o IsConfigured) e (of_line line)
