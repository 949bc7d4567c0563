-- Accounts that are asked for, by their names.
use Rattle.std.proofs.Common.{◌≡◌, List, [], ◌∷◌, ◌++◌, ℕ, ◌+◌, ◌<◌, zero, suc, false, None, refl, ap, sym, ◌∙◌}
use Rattle.std.proofs.Common.{arith, get_or, take, length, append-nil, append_assoc}
use Rattle.std.specs.Prelude.{map, string_bytes, String}
use Rattle.std.specs.declared.alloc.Global.{Global}
use Rattle.std.proofs.lemmas.List.{map-append, take_more}
use Rattle.rb_money.specs.Faults.{AreNewUpTo, account_fault, account_of, is_among}
use Rattle.rb_money.proofs.Faults.{fine}

-- names with starting balances
abbrev pub Entries : Type 0
Entries = List (String Global × ℕ)

-- their names
abbrev pub names_of : Entries → List (List ℕ)
names_of es = map (λ e. string_bytes e.0) es

-- these are the accounts' names
pub names_listed : (es : Entries) → names_of es ≡ map (λ a. a.0) (map account_of es)
names_listed [] = refl
names_listed (e ∷ es) = ap (λ l. string_bytes e.0 ∷ l) (names_listed es)

-- their balances are the accounts' starting balances
pub starts_listed : (es : Entries) → map (λ e. e.1) es ≡ map (λ a. a.1) (map account_of es)
starts_listed [] = refl
starts_listed (e ∷ es) = ap (λ l. e.1 ∷ l) (starts_listed es)

-- the names of the first accounts, up to this number of them
abbrev pub names_before : ℕ → Entries → List (List ℕ)
names_before i accounts = map (λ a. a.0) (map account_of (take i accounts))

-- one account more has one name more
pub names_more : (i : ℕ) (accounts : Entries) (a : String Global × ℕ) → i < length accounts →
    names_before (i + 1) accounts ≡ names_before i accounts ++ string_bytes (get_or accounts i a).0 ∷ []
names_more i accounts a l =
    ap (λ (es : Entries). map (λ b. b.0) (map account_of es)) (take_more accounts i a l)
    ∙ ap (map (λ b. b.0)) (map-append account_of (take i accounts) (get_or accounts i a ∷ []))
    ∙ map-append (λ b. b.0) (map account_of (take i accounts)) (account_of (get_or accounts i a) ∷ [])

-- if nothing is wrong after earlier names, no name is among those before it
new_after : (before : List (List ℕ)) (k : ℕ) (accounts : Entries) → account_fault before k (map account_of accounts) ≡ None → (i : ℕ)
    (a : String Global × ℕ) → i < length accounts →
    is_among (before ++ names_before i accounts) (string_bytes (get_or accounts i a).0) ≡ false
new_after before k [] none i a l = absurd (omega arith)
new_after before k (e ∷ es) none zero a l =
    ap (λ ns. is_among ns (string_bytes e.0)) (append-nil before) ∙ (fine before k (account_of e) (map account_of es) none).fresh
new_after before k (e ∷ es) none (suc i) a l =
    let rest = (fine before k (account_of e) (map account_of es) none).rest in
    ap (λ ns. is_among ns (string_bytes (get_or es i a).0)) (sym (append_assoc before (string_bytes e.0 ∷ []) (names_before i es)))
    ∙ new_after (before ++ string_bytes e.0 ∷ []) (k + 1) es rest i a (omega arith)

-- if nothing is wrong with them, no name is among those before it
pub all_new : (accounts : Entries) → account_fault [] 0 (map account_of accounts) ≡ None → AreNewUpTo (length accounts) accounts
all_new accounts none = new_after [] 0 accounts none
