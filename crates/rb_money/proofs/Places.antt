-- Places of names, and the map that has them.
use Rattle.std.proofs.Common.{◌≡◌, List, [], ◌∷◌, ◌++◌, ℕ, ◌+◌, ◌<◌, zero, suc, Bool, true, false, cond, Some, None, refl, ap, sym, ◌∙◌}
use Rattle.std.proofs.Common.{append_assoc, arith, add-zero, get_or, length, zero-add}
use Rattle.std.specs.Prelude.{◌||◌, map, option_map, position, string_bytes, String}
use Rattle.std.specs.List.{position_from}
use Rattle.std.specs.Map.{keys_of}
use Rattle.std.specs.Str.{bytes_eq}
use Rattle.std.specs.String.{string_eq}
use Rattle.std.specs.declared.alloc.Global.{Global}
use Rattle.std.proofs.lemmas.Bool.{or_parts}
use Rattle.std.proofs.lemmas.Iterator.Adapters.{position_from-zero}
use Rattle.std.proofs.lemmas.List.{map-append}
use Rattle.std.proofs.lemmas.Slice.Eq.{bytes_eq-Decides}
use Rattle.indexmap.specs.IndexMap.{insert_entry}
use Rattle.rb_money.specs.Faults.{AreNewUpTo, account_fault, account_of, is_among}
use Rattle.rb_money.specs.Settings.{place_in}
use Rattle.rb_money.specs.declared.place.Place.{Place}
use Rattle.rb_money.proofs.Faults.{fine}
use Rattle.rb_money.proofs.Named.{Entries, all_new, names_before, names_of}

index_from : (es : Entries) (name : List ℕ) (i : ℕ) → position_from (λ q. bytes_eq name (string_bytes q)) i (keys_of es)
    ≡ position_from (λ n. bytes_eq name n) i (names_of es)
index_from [] name i = refl
index_from (e ∷ es) name i = ap (λ o. cond (bytes_eq name (string_bytes e.0)) (Some i) o) (index_from es name (i + 1))

-- a name's index among the keys is its index among the names
pub index_is : (es : Entries) (name : List ℕ) → position (λ q. bytes_eq name (string_bytes q)) (keys_of es)
    ≡ position (λ n. bytes_eq name n) (names_of es)
index_is es name = position_from-zero (λ q. bytes_eq name (string_bytes q)) (keys_of es) ∙ index_from es name 0
    ∙ sym (position_from-zero (λ n. bytes_eq name n) (names_of es))

own_index : (es : Entries) → AreNewUpTo (length es) es → (i : ℕ) (a : String Global × ℕ) → i < length es → (j : ℕ) →
    position_from (λ n. bytes_eq (string_bytes (get_or es i a).0) n) j (names_of es) ≡ Some (j + i)
own_index [] new i a l j = absurd (omega arith)
own_index (e ∷ es) new zero a l j =
    let name = string_bytes e.0 in
    ap (λ b. cond b (Some j) (position_from (λ n. bytes_eq name n) (j + 1) (names_of es))) ((bytes_eq-Decides name name).1 refl)
    ∙ ap Some (sym (add-zero j))
own_index (e ∷ es) new (suc i) a l j =
    let name = string_bytes (get_or es i a).0 in
    let moved : (j + 1) + i ≡ j + suc i = omega arith in
    ap (λ b. cond b (Some j) (position_from (λ n. bytes_eq name n) (j + 1) (names_of es))) (apart i a (omega arith)).0
    ∙ own_index es (λ k b m. (apart k b m).1) i a (omega arith) (j + 1) ∙ ap Some moved
  where
    -- a later name is neither the first one nor among those between
    apart : (k : ℕ) (b : String Global × ℕ) → k < length es →
        (bytes_eq (string_bytes (get_or es k b).0) (string_bytes e.0) ≡ false)
        × (is_among (names_before k es) (string_bytes (get_or es k b).0) ≡ false)
    apart k b m =
        let later = string_bytes (get_or es k b).0 in
        or_parts (bytes_eq later (string_bytes e.0)) (is_among (names_before k es) later) (new (suc k) b (omega arith))

-- if nothing is wrong with accounts, each is at its own index
pub own_place : (es : Entries) → account_fault [] 0 (map account_of es) ≡ None → (i : ℕ) (a : String Global × ℕ) → i < length es →
    place_in (names_of es) (string_bytes (get_or es i a).0) ≡ Some (record { 0 = i })
own_place es none i a l =
    let name = string_bytes (get_or es i a).0 in
    ap (option_map (λ k. let p : Place = record { 0 = k } in p)) (position_from-zero (λ n. bytes_eq name n) (names_of es)
    ∙ own_index es (all_new es none) i a l 0 ∙ ap Some (zero-add i))

added_step : (b c : Bool) (e : String Global × ℕ) (es new : Entries) (k : String Global) (v : ℕ) → (b || c) ≡ false →
    (c ≡ false → new ≡ es ++ (k, v) ∷ []) → cond b ((e.0, v) ∷ es) (e ∷ new) ≡ e ∷ (es ++ (k, v) ∷ [])
added_step true c e es new k v h more = absurd (cc)
added_step false c e es new k v h more = ap (λ (l : Entries). e ∷ l) (more h)

-- a name that none has goes last
added : (es : Entries) (k : String Global) (v : ℕ) → is_among (names_of es) (string_bytes k) ≡ false →
    insert_entry string_eq es k v ≡ es ++ (k, v) ∷ []
added [] k v h = refl
added (e ∷ es) k v h = added_step (string_eq k e.0) _ e es (insert_entry string_eq es k v) k v h (added es k v)

-- a map has the first of these accounts, and nothing is wrong with the rest after them
pub record IsFilling (mapped rest all : Entries) : Type 0 where
  pub same : mapped ++ rest ≡ all
  pub proper : (i : ℕ) × (account_fault (names_of mapped) i (map account_of rest) ≡ None)

-- it begins with none
pub filling : (mapped all : Entries) → mapped ≡ [] → account_fault [] 0 (map account_of all) ≡ None → IsFilling mapped all all
filling mapped all none proper = record {
  same = ap (λ (es : Entries). es ++ all) none;
  proper = (0, ap (λ (es : Entries). account_fault (names_of es) 0 (map account_of all)) none ∙ proper);
}

-- the next goes last
pub one_more : (mapped new rest all : Entries) (k : String Global) (v : ℕ) → IsFilling mapped ((k, v) ∷ rest) all →
    new ≡ insert_entry string_eq mapped k v → IsFilling new rest all
one_more mapped new rest all k v h put =
    let f = fine (names_of mapped) h.proper.0 (account_of (k, v)) (map account_of rest) h.proper.1 in
    let last = put ∙ added mapped k v f.fresh in
    record {
      same = ap (λ (es : Entries). es ++ rest) last ∙ append_assoc mapped ((k, v) ∷ []) rest ∙ h.same;
      proper = (
        h.proper.0 + 1,
        ap (λ (es : Entries). account_fault (names_of es) (h.proper.0 + 1) (map account_of rest)) last
            ∙ ap (λ ns. account_fault ns (h.proper.0 + 1) (map account_of rest)) (map-append (λ e. string_bytes e.0) mapped ((k, v) ∷ []))
            ∙ f.rest,
      );
    }
