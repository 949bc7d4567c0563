-- A set of the names that were looked at.
use Rattle.std.proofs.Common.{◌≡◌, ◌⊎◌, List, [], ◌∷◌, ◌++◌, ℕ, ◌+◌, ◌<◌, ◌≤◌, Bor, Bool, true, false, ◌||◌, refl, ap, sym, subst, ◌∙◌}
use Rattle.std.proofs.Common.{HashSet, arith, get_or, inl, inr, length}
use Rattle.std.specs.Prelude.{string_bytes, String}
use Rattle.std.specs.HashSet.{contains_by}
use Rattle.std.specs.List.{list_any}
use Rattle.std.specs.List.Sorted.{IsPermutation}
use Rattle.std.specs.Str.{bytes_eq}
use Rattle.std.specs.declared.alloc.Global.{Global}
use Rattle.std.proofs.lemmas.Bool.{cases_lt}
use Rattle.std.proofs.lemmas.List.{get_or_default}
use Rattle.std.proofs.lemmas.List.Folds.{list_any-append}
use Rattle.std.proofs.lemmas.List.Sorted.{list_any-IsPermutation}
use Rattle.rb_money.specs.Faults.{AreNewUpTo, is_among}
use Rattle.rb_money.proofs.Named.{Entries, names_before, names_more}

-- the set has the names of the first accounts and no other, and each of those was new
pub record HasSeen {S : Type 0} (seen : HashSet (Bor (List ℕ)) S) (i : ℕ) (accounts : Entries) : Type 0 where
  pub names : (name : List ℕ) → contains_by (λ k. bytes_eq name k.now) seen ≡ is_among (names_before i accounts) name
  pub each : AreNewUpTo i accounts

-- it begins with none
pub none_seen_yet : {S : Type 0} (seen : HashSet (Bor (List ℕ)) S) (accounts : Entries) → seen.keys ≡ [] → HasSeen seen 0 accounts
none_seen_yet seen accounts none = record {
  names = λ name. ap (λ (ks : List (Bor (List ℕ))). list_any (λ k. bytes_eq name k.now) ks) none;
  each = λ i a l. absurd (omega arith);
}

-- one of two tests holds, whichever is first
last_first : (b c : Bool) → (b || c) ≡ (c || (b || false))
last_first true true = refl
last_first true false = refl
last_first false true = refl
last_first false false = refl

-- the next name, if the set doesn't have it, is put in
pub one_more_seen : {S : Type 0} (seen new : HashSet (Bor (List ℕ)) S) (k : Bor (List ℕ)) (i : ℕ) (accounts : Entries)
    (a : String Global × ℕ)
    → HasSeen seen i accounts → i < length accounts → k.now ≡ string_bytes (get_or accounts i a).0
    → contains_by (λ q. bytes_eq k.now q.now) seen ≡ false → IsPermutation (k ∷ seen.keys) new.keys → HasSeen new (i + 1) accounts
one_more_seen seen new k i accounts a h l same absent put = record {
  names = λ name.
      sym (list_any-IsPermutation (λ q. bytes_eq name q.now) (k ∷ seen.keys) new.keys put)
      ∙ ap (λ b. bytes_eq name k.now || b) (h.names name)
      ∙ last_first (bytes_eq name k.now) (is_among (names_before i accounts) name)
      ∙ sym (list_any-append (λ n. bytes_eq name n) (names_before i accounts) (k.now ∷ []))
      ∙ ap (λ (n : List ℕ). is_among (names_before i accounts ++ n ∷ []) name) same
      ∙ ap (λ ns. is_among ns name) (sym (names_more i accounts a l));
  each = λ j b m. at j b (cases_lt j i) m;
}
  where
    IsNew : ℕ → String Global × ℕ → Type 0
    IsNew j b = is_among (names_before j accounts) (string_bytes (get_or accounts j b).0) ≡ false

    last : (b : String Global × ℕ) → IsNew i b
    last b =
        ap (λ (e : String Global × ℕ). is_among (names_before i accounts) (string_bytes e.0)) (get_or_default accounts i b a l)
        ∙ ap (is_among (names_before i accounts)) (sym same) ∙ sym (h.names k.now) ∙ absent

    at : (j : ℕ) (b : String Global × ℕ) → (j < i) ⊎ (i ≤ j) → j < i + 1 → IsNew j b
    at j b (inl before) m = h.each j b before
    at j b (inr after) m = let here : i ≡ j = omega arith in subst (λ n. IsNew n b) here (last b)
