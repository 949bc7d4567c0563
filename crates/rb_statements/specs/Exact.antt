-- The derived test of rows is true exactly of equal ones.
use Rattle.std.specs.Prelude.{◌≡◌, ◌↔◌, Bool, true, false, IsTrue}
use Rattle.std.specs.Bool.{beq}
use Rattle.std.proofs.Common.{refl, sym, true≢false}
use Rattle.std.proofs.lemmas.Bool.Decides.{Decides-int_eq}
use Rattle.std.proofs.lemmas.Bool.{and_from as both, and_parts as each}
use Rattle.rb_kit.proofs.Public.{exact_if}
use Rattle.rb_money.proofs.Public.Tests.{number_same, number_sound}
use Rattle.rb_shadow.specs.Exact.{labels_exact, names_exact}
use Rattle.rb_statements.specs.contracts.row.RowPartialEq.TheImpl.{ghosts as row_test}
use Rattle.rb_statements.specs.declared.row.Row.{Row}

-- equality of truth values
bool_sound : (a b : Bool) → beq a b ≡ true → a ≡ b
bool_sound true true h = refl
bool_sound true false h = absurd (true≢false (sym h))
bool_sound false true h = absurd (true≢false (sym h))
bool_sound false false h = refl

bool_same : (a : Bool) → beq a a ≡ true
bool_same true = refl
bool_same false = refl

row_sound : (u v : Row) → row_test.eq u v ≡ true → u ≡ v
row_sound u v h =
    let (position, h1) = each _ _ h in
    let (name, h2) = each _ _ h1 in
    let (kind, h3) = each _ _ h2 in
    let (moved, h4) = each _ _ h3 in
    let (cancelled, balance) = each _ _ h4 in
    λ t. record {
      position = number_sound u.position v.position position t;
      name = (names_exact u.name v.name).0 name t;
      kind = (labels_exact u.kind v.kind).0 kind t;
      moved = (Decides-int_eq u.moved v.moved).0 moved t;
      cancelled = bool_sound u.cancelled v.cancelled cancelled t;
      balance = number_sound u.balance v.balance balance t;
    }

row_same : (u : Row) → row_test.eq u u ≡ true
row_same u =
    both _ _ (number_same u.position) (both _ _ ((names_exact u.name u.name).1 refl)
    (both _ _ ((labels_exact u.kind u.kind).1 refl) (both _ _ ((Decides-int_eq u.moved u.moved).1 refl)
    (both _ _ (bool_same u.cancelled) (number_same u.balance)))))

pub rows_exact : (u v : Row) → IsTrue (row_test.eq u v) ↔ (u ≡ v)
rows_exact = exact_if row_test.eq row_sound row_same
