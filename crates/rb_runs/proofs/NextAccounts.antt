-- The accounts of the next bank, one after another, and its settings.
use Rattle.rb_runs.proofs.Words.{◌≡◌, ◌<◌, ◌≤◌, ℕ, ◌+◌, List, [], ◌∷◌, ◌++◌, length, get_or, drop, map, refl, ap, sym, ◌∙◌, arith, add-one}
use Rattle.rb_runs.proofs.Words.{append_assoc, drop-cons, eq-eqb, ne_eqb, slice_get, Some, suc, Bool, true, false, not, ◌&&◌, nat_le}
use Rattle.rb_runs.proofs.Words.{nat_lt, IfSome, Option, None, zero, replicate, zip, if◌then◌else◌, get_or-map, length-append, length-map}
use Rattle.rb_runs.proofs.Words.{length-replicate, length-zip, get_or_from_slice_get, Account, account_fault, are_limits, config_fault}
use Rattle.rb_runs.proofs.Words.{is_among, settings_of, IsConfigured, Settings, in_version_2, is_account_name, MOST_CENTS}
use Rattle.rb_runs.proofs.Words.{MOST_ACCOUNTS, MOST_SITES, option_or, nat_tests, Limits, NextBank, next_accounts, sites_of_next}
use Rattle.rb_runs.proofs.Words.{next_with, ap₂, map-append, firsts-zip, seconds-zip}
use Rattle.std.proofs.lemmas.List.{map-id}
use Rattle.std.proofs.lemmas.Simd.{map-map, splat_is_map}
use Rattle.rb_money.specs.declared.fault.ConfigFault.{ConfigFault}
use Rattle.rb_money.specs.declared.fault.ConfigFault.TheVariants.{Accounts, Limit, Name, Sites, Start, Twice}

-- the added accounts, each of which starts with 0
abbrev pub added_from : List (List ℕ) → List Account
added_from names = map (λ name. (name, 0)) names

-- one account more is listed, and one fewer is left
pub one_more : (done done' rest : List Account) (a : Account) → done' ≡ done ++ a ∷ [] → done' ++ rest ≡ done ++ (a ∷ rest)
one_more done done' rest a e = rw e (append_assoc done (a ∷ []) rest)

-- what is left from this place on begins with the account at it
pub left_at : (names : List (List ℕ)) (balances : List ℕ) (i : ℕ) (name : List ℕ) → length balances ≡ length names
    → i < length balances → slice_get names i ≡ Some name
    → zip (drop i names) (drop i balances) ≡ (name, get_or balances i 0) ∷ zip (drop (i + 1) names) (drop (i + 1) balances)
left_at names balances i name e lt there =
    let n : i < length names = omega (arith, e, lt) in
    let at : get_or names i name ≡ name = get_or_from_slice_get names i name name there in
    let ns : drop i names ≡ name ∷ drop (i + 1) names =
    rw add-one (drop-cons names i name n ∙ ap (λ x. x ∷ drop (suc i) names) at) in
    let bs : drop i balances ≡ get_or balances i 0 ∷ drop (i + 1) balances = rw add-one (drop-cons balances i 0 lt) in
    ap (λ l. zip l (drop i balances)) ns ∙ ap (λ l. zip (name ∷ drop (i + 1) names) l) bs

-- what is left of the added ones from this place on begins with the one at it
pub added_at : {X : Type 0} (f : X → List ℕ) (items : List X) (added : List (List ℕ)) (i : ℕ) (d : X) → map f items ≡ added
    → i < length items → added_from (drop i added) ≡ (f (get_or items i d), 0) ∷ added_from (drop (i + 1) added)
added_at f items added i d e lt =
    let n : i < length added = omega (arith, length-map items f, ap length e, lt) in
    let at : get_or added i (f d) ≡ f (get_or items i d) = ap (λ l. get_or l i (f d)) (sym e) ∙ get_or-map f items i d (f d) lt in
    let ns : drop i added ≡ f (get_or items i d) ∷ drop (i + 1) added =
    rw add-one (drop-cons added i (f d) n ∙ ap (λ x. x ∷ drop (suc i) added) at) in
    ap added_from ns

-- the names of the accounts
pub names_listed : (names : List (List ℕ)) (balances : List ℕ) (added : List (List ℕ)) → length balances ≡ length names
    → map (λ (a : Account). a.0) (zip names balances ++ added_from added) ≡ names ++ added
names_listed names balances added e =
    map-append (λ (a : Account). a.0) (zip names balances) (added_from added)
    ∙ ap₂ (λ x y. x ++ y) (firsts-zip names balances e) (map-map (λ (a : Account). a.0) _ added ∙ map-id added)

-- what they start with
pub starts_listed : (names : List (List ℕ)) (balances : List ℕ) (added : List (List ℕ)) → length balances ≡ length names
    → map (λ (a : Account). a.1) (zip names balances ++ added_from added) ≡ balances ++ replicate (length added) 0
starts_listed names balances added e =
    map-append (λ (a : Account). a.1) (zip names balances) (added_from added)
    ∙ ap₂ (λ x y. x ++ y) (seconds-zip names balances e)
    (map-map (λ (a : Account). a.1) _ added ∙ sym (splat_is_map added (length added) 0 refl))

-- the settings of these accounts, in version 2, are the next bank's where it was in version 2
pub made_second : (s : Settings) (balances : List ℕ) (ask : NextBank) (n : ℕ) (accounts : List Account) (limits : Limits)
    → length balances ≡ length s.names → n ≡ sites_of_next s ask.sites → accounts ≡ next_accounts s balances ask
    → limits ≡ s.limits → s.version ≡ 2
    → in_version_2 (settings_of n accounts limits) ≡ next_with s balances ask
made_second s balances ask n accounts limits e en ea el ev =
    rw (en, ea, el, eq-eqb s.version 2 ev, names_listed s.names balances ask.added e, starts_listed s.names balances ask.added e) refl

-- the settings of these accounts are the next bank's where it wasn't
pub made_first : (s : Settings) (balances : List ℕ) (ask : NextBank) (n : ℕ) (accounts : List Account) (limits : Limits)
    → length balances ≡ length s.names → n ≡ sites_of_next s ask.sites → accounts ≡ next_accounts s balances ask
    → limits ≡ s.limits → (s.version ≡ 2 → ⊥)
    → settings_of n accounts limits ≡ next_with s balances ask
made_first s balances ask n accounts limits e en ea el ev =
    rw (en, ea, el, ne_eqb s.version 2 ev, names_listed s.names balances ask.added e, starts_listed s.names balances ask.added e) refl

-- ---- nothing is wrong with the next bank

first_fault : (p q r : Bool) (i : ℕ) (o o' : Option ConfigFault) → (o ≡ None → o' ≡ None)
    → (if p then Some (Name i) else (if q then Some (Twice i) else (if r then Some (Start i) else o))) ≡ None
    → (if p then Some (Name i) else (if q then Some (Twice i) else (if false then Some (Start i) else o'))) ≡ None
first_fault true q r i o o' k h = cc
first_fault false true r i o o' k h = cc
first_fault false false true i o o' k h = cc
first_fault false false false i o o' k h = k h

not_above : (n : ℕ) → n ≤ MOST_CENTS → nat_lt MOST_CENTS n ≡ false
not_above n h = grind (arith, nat_tests)

-- nothing is wrong with accounts that nothing is wrong with where they start with these balances
same_names : (before : List (List ℕ)) (i : ℕ) (names : List (List ℕ)) (starts balances : List ℕ) (added : List Account)
    → length starts ≡ length names → length balances ≡ length names
    → ((k n : ℕ) → slice_get balances k ≡ Some n → n ≤ MOST_CENTS)
    → account_fault before i (zip names starts ++ added) ≡ None → account_fault before i (zip names balances ++ added) ≡ None
same_names before i [] [] [] added e f few h = h
same_names before i [] (x ∷ starts) balances added e f few h = absurd (let no : ⊥ = omega (arith, e) in no)
same_names before i [] [] (b ∷ balances) added e f few h = absurd (let no : ⊥ = omega (arith, f) in no)
same_names before i (a ∷ names) [] balances added e f few h = absurd (let no : ⊥ = omega (arith, e) in no)
same_names before i (a ∷ names) (x ∷ starts) [] added e f few h = absurd (let no : ⊥ = omega (arith, f) in no)
same_names before i (a ∷ names) (x ∷ starts) (b ∷ balances) added e f few h =
    let rest = account_fault (before ++ a ∷ []) (i + 1) (zip names balances ++ added) in
    let shorter : length starts ≡ length names = omega (arith, e) in
    let shorter' : length balances ≡ length names = omega (arith, f) in
    ap (λ r. if not (is_account_name a) then Some (Name i) else (if is_among before a then Some (Twice i)
    else (if r then Some (Start i) else rest))) (not_above b (few zero b refl))
    ∙ first_fault (not (is_account_name a)) (is_among before a) (nat_lt MOST_CENTS x) i
    (account_fault (before ++ a ∷ []) (i + 1) (zip names starts ++ added)) rest
    (same_names (before ++ a ∷ []) (i + 1) names starts balances added shorter shorter' (λ k n at. few (suc k) n at)) h

of_parts_fault : (p q q' : Bool) (o o' l : Option ConfigFault) → q' ≡ q → (o ≡ None → o' ≡ None)
    → (if p then Some Sites else (if q then Some Accounts else option_or o l)) ≡ None
    → (if p then Some Sites else (if q' then Some Accounts else option_or o' l)) ≡ None
of_parts_fault true q q' o o' l e k h = cc
of_parts_fault false true q' o o' l e k h = cc
of_parts_fault false false true o o' l e k h = cc
of_parts_fault false false false (Some f) o' l e k h = cc
of_parts_fault false false false None o' l e k h = ap (λ x. option_or x l) (k refl) ∙ h

count_of : (names : List (List ℕ)) (starts balances : List ℕ) (added : List Account) → length starts ≡ length names
    → length balances ≡ length names → length (zip names balances ++ added) ≡ length (zip names starts ++ added)
count_of names starts balances added e f =
    omega (
      arith,
      length-append (zip names balances) added,
      length-append (zip names starts) added,
      length-zip names balances,
      length-zip names starts,
      e,
      f,
    )

-- if nothing is wrong but, perhaps, what the accounts start with, nothing is wrong with balances that they may start
-- with
pub no_fault : (s : Settings) (balances : List ℕ) (ask : NextBank) → IsConfigured s → length balances ≡ length s.names
    → ((k n : ℕ) → slice_get balances k ≡ Some n → n ≤ MOST_CENTS)
    → config_fault (sites_of_next s ask.sites) (next_accounts s s.starts ask) s.limits ≡ None
    → config_fault (sites_of_next s ask.sites) (next_accounts s balances ask) s.limits ≡ None
no_fault s balances ask c e few h =
    let n = sites_of_next s ask.sites in
    of_parts_fault (not (nat_le 2 n && nat_le n MOST_SITES)) _ _ (account_fault [] 0 (next_accounts s s.starts ask))
    (account_fault [] 0 (next_accounts s balances ask)) (if are_limits s.limits then None else Some Limit)
    (ap (λ k. not (nat_le 1 k && nat_le k MOST_ACCOUNTS)) (count_of s.names s.starts balances (added_from ask.added) c.starts_of_all e))
    (same_names [] 0 s.names s.starts balances (added_from ask.added) c.starts_of_all e few) h

-- a test that passed before another passes without it
without_sites : (p p' q : Bool) (o l : Option ConfigFault) → p' ≡ false
    → (if p then Some Sites else (if q then Some Accounts else option_or o l)) ≡ None
    → (if p' then Some Sites else (if q then Some Accounts else option_or o l)) ≡ None
without_sites true p' q o l e h = cc
without_sites false p' q o l e h = ap (λ b. if b then Some Sites else (if q then Some Accounts else option_or o l)) e ∙ h

sites_fit : (n : ℕ) → 2 ≤ n → n ≤ MOST_SITES → not (nat_le 2 n && nat_le n MOST_SITES) ≡ false
sites_fit n some few = grind (arith, nat_tests)

next_sites_fit : (s : Settings) (o : Option ℕ) → IsConfigured s → IfSome o (λ n. (2 ≤ n) × (n ≤ MOST_SITES))
    → not (nat_le 2 (sites_of_next s o) && nat_le (sites_of_next s o) MOST_SITES) ≡ false
next_sites_fit s None c fit = sites_fit s.sites c.some_sites c.few_sites
next_sites_fit s (Some n) c fit = sites_fit n fit.0 fit.1

-- if accounts may be added to a bank whose accounts start with nothing, nothing is wrong with the next bank but,
-- perhaps, what the accounts start with
pub may_be_next : (s : Settings) (ask : NextBank) → IsConfigured s → IfSome ask.sites (λ n. (2 ≤ n) × (n ≤ MOST_SITES))
    → config_fault s.sites (next_accounts s (replicate (length s.names) 0) (record { sites = None; added = ask.added })) s.limits ≡ None
    → config_fault (sites_of_next s ask.sites) (next_accounts s s.starts ask) s.limits ≡ None
may_be_next s ask c fit h =
    let zeros = replicate (length s.names) 0 in
    let many : length zeros ≡ length s.names = length-replicate (length s.names) 0 in
    let m = sites_of_next s ask.sites in
    without_sites (not (nat_le 2 s.sites && nat_le s.sites MOST_SITES)) (not (nat_le 2 m && nat_le m MOST_SITES)) _
    (account_fault [] 0 (next_accounts s s.starts ask)) (if are_limits s.limits then None else Some Limit)
    (next_sites_fit s ask.sites c fit)
    (of_parts_fault (not (nat_le 2 s.sites && nat_le s.sites MOST_SITES)) _ _
    (account_fault [] 0 (zip s.names zeros ++ added_from ask.added)) (account_fault [] 0 (next_accounts s s.starts ask))
    (if are_limits s.limits then None else Some Limit)
    (ap (λ k. not (nat_le 1 k && nat_le k MOST_ACCOUNTS)) (count_of s.names zeros s.starts (added_from ask.added) many c.starts_of_all))
    (same_names [] 0 s.names zeros s.starts (added_from ask.added) many c.starts_of_all c.starts) h)
