-- The shadows of a row that are ready.
use Rattle.std.proofs.Common.{◌≡◌, ℕ, suc, zero, ◌+◌, ◌<◌, Bool, true, false, cond, ◌&&◌, List, [], ◌∷◌, length, drop, refl, ap, sym, ◌∙◌}
use Rattle.std.proofs.Common.{arith, ◌⊎◌, inl, inr, subst, get_or}
use Rattle.std.specs.Prelude.{Some, filter, nat_le, slice_index}
use Rattle.std.proofs.lemmas.Bool.Decides.{nat_tests}
use Rattle.rb_shadow.specs.Operations.{Among, entry_of, find_in, number_of, past, row_of}
use Rattle.rb_shadow.specs.declared.deps.Deps.{Deps}
use Rattle.rb_shadow.specs.declared.op_name.OpName.{OpName}
use Rattle.rb_shadow.specs.declared.op_name.OpName.TheVariants.{Blue, Red}
use Rattle.rb_shadow.specs.declared.shadow.Shadow.{Shadow}
use Rattle.rb_shadow.proofs.Public.Lookups.{Among-index}
use Rattle.rb_inbox.specs.Held.{IsNumbered, IsReady, comes_before}
use Rattle.rb_inbox.specs.Rows.{AreHeldRows, IsHeldRow, held_of}
use Rattle.rb_inbox.proofs.Changes.{finds_at}
use Rattle.rb_inbox.proofs.Order.{Among-find, left_cases}
use Rattle.rb_inbox.proofs.Rows.{is_of, is_of-yes, row_at, row_is}

-- an operation whose number is past the next of the clock isn't ready
waits : (u : Shadow) (c : Deps) → IsNumbered u → entry_of c u.name + 1 < number_of u.name → IsReady c u → ⊥
unfolding past
waits u c numbered l ready = at u.name numbered.next l
  where
    at : (x : OpName) → number_of x ≡ entry_of u.deps x + 1 → entry_of c x + 1 < number_of x → ⊥
    at (Blue i zero) e l = omega arith
    at (Blue i (suc m)) e l = let named : nat_le 1 m && nat_le m (slice_index u.deps.blue i) ≡ true = grind (arith, nat_tests) in
        let counted : nat_le 1 m && nat_le m (slice_index c.blue i) ≡ true = ready (Blue i m) named in grind (arith, nat_tests)
    at (Red zero) e l = omega arith
    at (Red (suc m)) e l = let named : nat_le 1 m && nat_le m u.deps.red ≡ true = grind (arith, nat_tests) in
        let counted : nat_le 1 m && nat_le m c.red ≡ true = ready (Red m) named in grind (arith, nat_tests)

-- of two names of a row the later has the greater number, at the same entry
later_number : (x y : OpName) (c : Deps) → row_of x ≡ row_of y → comes_before x y ≡ true →
    (number_of x < number_of y) × (entry_of c x ≡ entry_of c y)
later_number (Blue i m) (Blue j n) c e h = (grind (arith, nat_tests), ap (slice_index c.blue) (let same : i ≡ j = omega arith in same))
later_number (Blue i m) (Red n) c e h = absurd (omega arith)
later_number (Red m) (Blue j n) c e h = absurd (omega arith)
later_number (Red m) (Red n) c e h = (grind (arith, nat_tests), refl)

-- from such an operation on, none of its row is ready
pub none_from : (r : ℕ) (us : List Shadow) (k : ℕ) (d u : Shadow) (c : Deps) → IsHeldRow r us → k < length us →
    entry_of c (get_or us k d).name + 1 < number_of (get_or us k d).name
    → Among u us → Among u (drop k us) → IsReady c u → ⊥
none_from r us k d u c row within l a left ready = waits u c (row.numbered u a) (at (left_cases us k d u row.in_order within left)) ready
  where
    at : (u ≡ get_or us k d) ⊎ (comes_before (get_or us k d).name u.name ≡ true) → entry_of c u.name + 1 < number_of u.name
    at (inl e) = subst (λ (w : Shadow). entry_of c w.name + 1 < number_of w.name) (sym e) l
    at (inr e) =
        let more : (number_of (get_or us k d).name < number_of u.name) × (entry_of c (get_or us k d).name ≡ entry_of c u.name) =
        later_number (get_or us k d).name u.name c (row.placed (get_or us k d) (Among-index us k d within) ∙ sym (row.placed u a)) e in
        omega arith

-- what is held is in its name's row
pub Among-filter : (p : Shadow → Bool) (us : List Shadow) (u : Shadow) → Among u us → p u ≡ true → Among u (filter p us)
Among-filter p [] u a e = elim a [ ]
Among-filter p (v ∷ us) u (inl q) e = subst (Among u) (sym (ap (λ b. cond b (v ∷ filter p us) (filter p us)) (ap p (sym q) ∙ e))) (inl q)
Among-filter p (v ∷ us) u (inr a) e = at (p v) (Among-filter p us u a e)
  where
    at : (b : Bool) → Among u (filter p us) → Among u (cond b (v ∷ filter p us) (filter p us))
    at true k = inr k
    at false k = k

-- what is held is in the row of its name
pub among_row : (rows : List (List Shadow)) (u : Shadow) → AreHeldRows 0 rows → Among u (held_of rows) →
    Among u (get_or rows (row_of u.name) [])
among_row rows u h a = subst (Among u) (sym (row_is rows (row_of u.name) h))
    (Among-filter (is_of (row_of u.name)) (held_of rows) u a (is_of-yes (row_of u.name) u refl))

-- what is held is found under its name
pub held_found : (rows : List (List Shadow)) (u : Shadow) → AreHeldRows 0 rows → Among u (held_of rows) →
    find_in (held_of rows) u.name ≡ Some u
held_found rows u h a = sym (finds_at rows u.name (row_of u.name) refl h)
    ∙ Among-find (get_or rows (row_of u.name) []) u (row_at rows (row_of u.name) h).in_order (among_row rows u h a)
