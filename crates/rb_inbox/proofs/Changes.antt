-- The rows of the held operations, before and after a change.
use Rattle.std.proofs.Common.{◌≡◌, ℕ, ◌+◌, ◌-◌, ◌<◌, ◌≤◌, Bool, true, false, cond, not, List, [], ◌∷◌, ◌++◌, length, set, replicate, refl}
use Rattle.std.proofs.Common.{ap, sym, ◌∙◌, arith, ◌⊎◌, inl, inr, subst, get_or}
use Rattle.std.specs.Prelude.{Option, Some, None, filter, insert, remove, nat_lt}
use Rattle.std.proofs.lemmas.Bool.Decides.{nat_tests}
use Rattle.std.proofs.lemmas.List.{get_or_default, get_or_past}
use Rattle.std.proofs.lemmas.List.Edits.{length-remove}
use Rattle.rb_shadow.specs.Operations.{Among, find_in, same_name, row_of}
use Rattle.rb_shadow.specs.declared.op_name.OpName.{OpName}
use Rattle.rb_shadow.specs.declared.shadow.Shadow.{Shadow}
use Rattle.rb_inbox.specs.Held.{Holding, IsNumbered, held_before, index_in_row, comes_before, with_held, without}
use Rattle.rb_inbox.specs.Quiet.{IsQuiet}
use Rattle.rb_inbox.specs.Rows.{AreCounted, AreHeldRows, IsHeldRow, held_of}
use Rattle.rb_inbox.specs.declared.quiet.Quiet.{Quiet}
use Rattle.rb_inbox.proofs.Order.{found_within, holding, in_order-filter, in_order-with_held, insert-index, remove-index}
use Rattle.rb_inbox.proofs.Public.{held_cases, kept_among}
use Rattle.rb_inbox.proofs.Rows.{find_in_row, held-change, held-length, held-more, is_of, putting, removing, row_at, row_is, rows-more}
use Rattle.rb_inbox.proofs.Rows.{rows-set}

-- ---- the row of a name

-- a name is found in its row as among all that is held
pub finds : (row held : List Shadow) (x : OpName) (r : ℕ) → r ≡ row_of x → row ≡ filter (is_of r) held → find_in row x ≡ find_in held x
finds row held x r e h =
    ap (λ (us : List Shadow). find_in us x) (h ∙ ap (λ (k : ℕ). filter (is_of k) held) e) ∙ find_in_row held x

-- a name is found in its row alone
pub finds_at : (rows : List (List Shadow)) (x : OpName) (r : ℕ) → r ≡ row_of x → AreHeldRows 0 rows →
    find_in (get_or rows r []) x ≡ find_in (held_of rows) x
finds_at rows x r e h = finds (get_or rows r []) (held_of rows) x r e (row_is rows r h)

-- what is held has a row
pub row_within : (rows : List (List Shadow)) (x : OpName) (u : Shadow) (r : ℕ) → r ≡ row_of x → AreHeldRows 0 rows →
    find_in (held_of rows) x ≡ Some u → r < length rows
row_within rows x u r e h found = at (nat_lt r (length rows)) refl
  where
    at : (b : Bool) → nat_lt r (length rows) ≡ b → r < length rows
    at true q = grind (arith, nat_tests)
    at false q = absurd (
        let past : length rows ≤ r = grind (arith, nat_tests) in
        let none : find_in (get_or rows r []) x ≡ None = ap (λ (us : List Shadow). find_in us x) (get_or_past rows r [] past) in
        let some : find_in (get_or rows r []) x ≡ Some u = finds_at rows x r e h ∙ found in cc)

-- the place of a held name is one of its row
pub index_within : (rows : List (List Shadow)) (x : OpName) (u : Shadow) (r : ℕ) → r ≡ row_of x → AreHeldRows 0 rows →
    find_in (held_of rows) x ≡ Some u
    → held_before (get_or rows r []) x < length (get_or rows r [])
index_within rows x u r e h found = found_within (get_or rows r []) x u (row_at rows r h).in_order (finds_at rows x r e h ∙ found)

-- the index of a name in its row, of what is held, is one in the row itself
pub index_there : (rows : List (List Shadow)) (n : ℕ) (b : Holding) (x : OpName) (r index : ℕ) → holding n (held_of rows) ≡ b →
    r ≡ row_of x → AreHeldRows 0 rows → index ≡ index_in_row b.held x → index ≡ held_before (get_or rows r []) x
index_there rows n b x r index same e h i =
    i ∙ ap (λ (b : Holding). index_in_row b.held x) (sym same)
    ∙ ap (λ (us : List Shadow). held_before us x) (ap (λ (k : ℕ). filter (is_of k) (held_of rows)) (sym e) ∙ sym (row_is rows r h))

-- a row that was read at its place
pub row_there : (rows : List (List Shadow)) (r : ℕ) (row : List Shadow) → r < length rows → row ≡ get_or rows r row → row ≡ get_or rows r []
row_there rows r row l e = e ∙ get_or_default rows r row [] l

-- a row that was read
pub slice_there : (rows items : List (List Shadow)) (r : ℕ) (row slice : List Shadow) → items ≡ rows → r < length items →
    row ≡ get_or items r row → slice ≡ row → slice ≡ get_or rows r []
slice_there rows items r row slice same l e s = s ∙ row_there items r row l e ∙ ap (λ (ws : List (List Shadow)). get_or ws r []) same

-- a row that was changed at the place of a name
pub changed_there : (f : List Shadow → ℕ → List Shadow) (row old there : List Shadow) (index : ℕ) (x : OpName)
    → row ≡ f old index → old ≡ there → index ≡ held_before there x → row ≡ f there (held_before there x)
changed_there f row old there index x made o p = made ∙ ap (λ us. f us index) o ∙ ap (f there) p

-- ---- the rows after a change

-- more empty rows keep the count
pub grown : (rows more : List (List Shadow)) (count n : ℕ) (quiet : Option Quiet) → more ≡ rows ++ replicate n []
    → AreCounted rows count quiet → AreCounted more count quiet
grown rows more count n quiet e h = subst (λ ws. AreCounted ws count quiet) (sym e) (record {
  each = rows-more 0 n rows h.each;
  counted = h.counted ∙ ap length (sym (held-more rows n));
  known = subst (IsQuiet quiet) (sym (held-more rows n)) h.known;
})

-- and hold the same
pub grown_holds : (rows more : List (List Shadow)) (n : ℕ) → more ≡ rows ++ replicate n [] → held_of more ≡ held_of rows
grown_holds rows more n e = ap held_of e ∙ held-more rows n

row-put : (r : ℕ) (v : Shadow) (us : List Shadow) → IsHeldRow r us → r ≡ row_of v.name → IsNumbered v → find_in us v.name ≡ None →
    IsHeldRow r (with_held v us)
row-put r v us h e numbered new = record {
  placed = λ u a. by u (held_cases v us u a);
  in_order = in_order-with_held v us h.in_order new;
  numbered = λ u a. here u (held_cases v us u a);
}
  where
    by : (u : Shadow) → (u ≡ v) ⊎ Among u us → row_of u.name ≡ r
    by u (inl q) = ap (λ (w : Shadow). row_of w.name) q ∙ sym e
    by u (inr a) = h.placed u a

    here : (u : Shadow) → (u ≡ v) ⊎ Among u us → IsNumbered u
    here u (inl q) = subst IsNumbered (sym q) numbered
    here u (inr a) = h.numbered u a

row-without : (r : ℕ) (x : OpName) (us : List Shadow) → IsHeldRow r us → IsHeldRow r (without x us)
row-without r x us h = record {
  placed = λ u a. h.placed u (kept_among (λ (w : Shadow). not (same_name w.name x)) us u a);
  in_order = in_order-filter (λ (w : Shadow). not (same_name w.name x)) us h.in_order;
  numbered = λ u a. h.numbered u (kept_among (λ (w : Shadow). not (same_name w.name x)) us u a);
}

with_held-length : (v : Shadow) (us : List Shadow) → length (with_held v us) ≡ length us + 1
with_held-length v [] = refl
with_held-length v (u ∷ us) = at (comes_before v.name u.name) (with_held-length v us)
  where
    at : (b : Bool) → length (with_held v us) ≡ length us + 1 → length (cond b (v ∷ u ∷ us) (u ∷ with_held v us)) ≡ length (u ∷ us) + 1
    at true e = omega arith
    at false e = omega arith

-- the row of a new operation has it in its place
pub after_put : (rows : List (List Shadow)) (count : ℕ) (quiet noted : Option Quiet) (v : Shadow) (r : ℕ) (row : List Shadow)
    → AreCounted rows count quiet → IsNumbered v → find_in (held_of rows) v.name ≡ None
    → ((us : List Shadow) → IsQuiet quiet us → IsQuiet noted (with_held v us))
    → r ≡ row_of v.name → r < length rows → row ≡ insert (get_or rows r []) (held_before (get_or rows r []) v.name) v
    → AreCounted (set rows r row) (count + 1) noted × (held_of (set rows r row) ≡ with_held v (held_of rows))
after_put rows count quiet noted v r row h numbered new note e l made = (
  record {
    each = rows-set rows r row h.each (subst (IsHeldRow r) (sym is) (row-put r v (get_or rows r []) was e numbered none));
    counted = omega (arith, h.counted, held-length rows r row l, ap length is, with_held-length v (get_or rows r []));
    known = subst (IsQuiet noted) (sym there) (note (held_of rows) h.known);
  },
  there,
)
  where
    was : IsHeldRow r (get_or rows r [])
    was = row_at rows r h.each

    none : find_in (get_or rows r []) v.name ≡ None
    none = finds_at rows v.name r e h.each ∙ new

    is : row ≡ with_held v (get_or rows r [])
    is = made ∙ insert-index v (get_or rows r []) was.in_order none

    there : held_of (set rows r row) ≡ with_held v (held_of rows)
    there = ap (λ us. held_of (set rows r us)) is ∙ held-change v.name (with_held v) (putting v) rows r e h.each l

-- the row of a held name is without it
pub after_remove : (rows : List (List Shadow)) (count : ℕ) (quiet noted : Option Quiet) (x : OpName) (u : Shadow) (r : ℕ)
    (row : List Shadow) → AreCounted rows count quiet → find_in (held_of rows) x ≡ Some u
    → ((us : List Shadow) → IsQuiet quiet us → IsQuiet noted (without x us))
    → r ≡ row_of x → row ≡ remove (get_or rows r []) (held_before (get_or rows r []) x)
    → AreCounted (set rows r row) (count - 1) noted × (held_of (set rows r row) ≡ without x (held_of rows))
after_remove rows count quiet noted x u r row h found note e made = (
  record {
    each = rows-set rows r row h.each (subst (IsHeldRow r) (sym is) (row-without r x (get_or rows r []) was));
    counted = omega (
      arith,
      h.counted,
      held-length rows r row within,
      ap length made,
      length-remove (get_or rows r []) (held_before (get_or rows r []) x) (index_within rows x u r e h.each found),
    );
    known = subst (IsQuiet noted) (sym there) (note (held_of rows) h.known);
  },
  there,
)
  where
    within : r < length rows
    within = row_within rows x u r e h.each found

    was : IsHeldRow r (get_or rows r [])
    was = row_at rows r h.each

    is : row ≡ without x (get_or rows r [])
    is = made ∙ remove-index (get_or rows r []) x u was.in_order (finds_at rows x r e h.each ∙ found)

    there : held_of (set rows r row) ≡ without x (held_of rows)
    there = ap (λ us. held_of (set rows r us)) is ∙ held-change x (without x) (removing x) rows r e h.each within
