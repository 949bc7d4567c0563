-- The second account that a record names.
use Rattle.rb_ledger.proofs.Words.{◌≡◌, ℕ, true, false, List, [], ◌∷◌, ◌++◌, ap, sym, ◌∙◌, arith, Some, None, pos, ◌==◌}
use Rattle.rb_ledger.proofs.Words.{Option, option_map, unwrap_or, Settings, IsConfigured, cents, Place, NOWHERE, Shadow}
use Rattle.rb_ledger.proofs.Words.{bal, other_of, equal, number_sound, IsValid}
use Rattle.rb_shadow.proofs.Public.Members
use Rattle.rb_ledger.proofs.Public.Legal
use Rattle.rb_ledger.proofs.Others

-- the second account of a record that names one
pub second_there : (us : List Shadow) (h : Shadow) (p : Place) → p ≡ unwrap_or (other_of us h.kind) NOWHERE → (p.0 == NOWHERE.0) ≡ false →
    other_of us h.kind ≡ Some p
second_there us h p is apart = at (other_of us h.kind) is
  where
    at : (o : Option Place) → p ≡ unwrap_or o NOWHERE → o ≡ Some p
    at None is = absurd (Members.true≢false (sym (equal p.0 NOWHERE.0 (ap (λ (b : Place). b.0) is)) ∙ apart))
    at (Some b) is = ap Some (sym is)

-- a record that names no second account is of an operation without one
pub no_second : (s : Settings) (us : List Shadow) (h : Shadow) (p b : Place) → IsConfigured s → IsValid s us → IsValid s (us ++ h ∷ []) →
    p ≡ unwrap_or (other_of us h.kind) NOWHERE → (p.0 == NOWHERE.0) ≡ true → other_of us h.kind ≡ Some b → ⊥
no_second s us h p b configured valid longer is nowhere there =
    let (near, apart) = Others.other_apart s us h b valid (Legal.IsValid-last s us h longer) there in
    let at : p.0 ≡ b.0 = ap (λ (a : Place). a.0) is ∙ ap (λ o. (unwrap_or o NOWHERE).0) there in
    omega (arith, near, at, number_sound p.0 NOWHERE.0 nowhere, configured.starts_of_all, configured.few_accounts)

-- the balance that a record keeps of it
pub second_kept : (s : Settings) (us : List Shadow) (h : Shadow) (b : Place) (n : ℕ) → IsValid s us →
    n ≡ unwrap_or (option_map (λ a. cents (bal s us a)) (other_of us h.kind)) 0 → other_of us h.kind ≡ Some b → pos n ≡ bal s us b
second_kept s us h b n valid is there = Legal.kept_balance s us b n valid (is
    ∙ ap (λ o. unwrap_or (option_map (λ a. cents (bal s us a)) o) 0) there)

-- there is one second account at most
pub same_second : (a b : Place) → Some a ≡ Some b → a ≡ b
same_second a b e = cc
