-- Messages that are listed by their numbers.
use Rattle.std.proofs.Common.{◌≡◌, ℕ, ◌+◌, ◌<◌, List, [], ◌∷◌, ◌++◌, length, take, refl, ap, sym, subst, ◌∙◌, inl, inr}
use Rattle.std.proofs.Common.{arith, length-append, Some, append_assoc, Vec, get_or}
use Rattle.std.specs.Prelude.{slice_get, slice_set}
use Rattle.std.proofs.lemmas.List.{length-map, length-take-le, take_more}
use Rattle.std.proofs.lemmas.Option.{slice_get_read}
use Rattle.rb_auditor.specs.Findings.{lists_of}
use Rattle.rb_site.specs.declared.message.Message.{Message}
use Rattle.rb_site.proofs.Public.Places
use Rattle.rb_site.proofs.Public.Places.{same_number}
use Rattle.rb_site.proofs.Public.Lists.{get_front, map_at}
use Rattle.rb_auditor.specs.Sent.{AreListed, IsListed, row_of_message, slot_of}
use Rattle.rb_auditor.proofs.Lists

-- there are as many lists of items as vectors that have them
pub length_lists : {X Z : Type 0} (vs : List (Vec X Z)) → length (lists_of vs) ≡ length vs
length_lists {X} {Z} vs = length-map vs (λ (v : Vec X Z). v.items)

-- a row of the rows
pub row_at : {X Z : Type 0} (rows : List (Vec X Z)) (r : ℕ) (v : Vec X Z) → r < length rows → v ≡ get_or rows r v
    → slice_get (lists_of rows) r ≡ Some v.items
row_at {X} {Z} rows r v less is =
    map_at (λ (v : Vec X Z). v.items) rows r v (slice_get_read rows (length rows) r v refl less is)

-- a row that grows at its end
pub kept_in_row : (rows : List (List ℕ)) (others : List ℕ) (r : ℕ) (row more : List ℕ) → slice_get rows r ≡ Some row
    → (j : ℕ) (m : Message) → IsListed rows others j m → IsListed (slice_set rows r (row ++ more)) others j m
kept_in_row rows others r row more at j m (inr h) = inr h
kept_in_row rows others r row more at j m (inl (positions, there, position)) = elim (same_number r (row_of_message m)) [
  | inl e ↦
      let same : positions ≡ row = Lists.same_item (slice_get rows r) positions row (ap (slice_get rows) (sym e) ∙ there) at in
      inl (
        row ++ more,
        ap (slice_get (slice_set rows r (row ++ more))) e ∙ Places.get_set_same rows r row (row ++ more) at,
        get_front row more (slot_of m) j (ap (λ p. slice_get p (slot_of m)) (sym same) ∙ position),
      )
  | inr ne ↦ inl (positions, Places.get_set_other rows r (row_of_message m) (row ++ more) ne ∙ there, position)
]

-- a message is listed once its position is added to its row, if its place is the one just after that row
pub listed_in_row : (rows : List (List ℕ)) (others row : List ℕ) (position : ℕ) (m : Message)
    → slice_get rows (row_of_message m) ≡ Some row → length row ≡ slot_of m
    → IsListed (slice_set rows (row_of_message m) (row ++ position ∷ [])) others position m
listed_in_row rows others row position m at e =
    inl (
      row ++ position ∷ [],
      Places.get_set_same rows (row_of_message m) row (row ++ position ∷ []) at,
      ap (slice_get (row ++ position ∷ [])) (sym e) ∙ Lists.get_after row [] position,
    )

-- a list of others that grows at its end
pub kept_apart : (rows : List (List ℕ)) (others more : List ℕ) (j : ℕ) (m : Message) → IsListed rows others j m
    → IsListed rows (others ++ more) j m
kept_apart rows others more j m (inl h) = inl h
kept_apart rows others more j m (inr (k, at)) = inr (k, get_front others more k j at)

-- a message is listed once its position is added to the others
pub listed_apart : (rows : List (List ℕ)) (others : List ℕ) (position : ℕ) (m : Message)
    → IsListed rows (others ++ position ∷ []) position m
listed_apart rows others position m = inr (length others, Lists.get_after others [] position)

-- one message more
pub listed_more : (rows new_rows : List (List ℕ)) (others new_others : List ℕ) (ms : List Message) (n : Message) (position : ℕ)
    → position ≡ length ms → ((j : ℕ) (m : Message) → IsListed rows others j m → IsListed new_rows new_others j m)
    → IsListed new_rows new_others position n → AreListed rows others ms → AreListed new_rows new_others (ms ++ n ∷ [])
listed_more rows new_rows others new_others ms n position is kept here all j m at = elim (Lists.before_or_last ms n m j at) [
  | inl h ↦ kept j m (all j m h)
  | inr (e, same) ↦ subst (λ k. IsListed new_rows new_others k m) (is ∙ sym e)
      (subst (IsListed new_rows new_others position) (sym same) here)
]

-- the next of the messages that are added
pub listed_next : (rows new_rows : List (List ℕ)) (others new_others : List ℕ) (old posted : List Message) (k : ℕ) (d : Message)
    (position : ℕ) → k < length posted → position ≡ length old + k
    → ((j : ℕ) (m : Message) → IsListed rows others j m → IsListed new_rows new_others j m)
    → IsListed new_rows new_others position (get_or posted k d) → AreListed rows others (old ++ take k posted)
    → AreListed new_rows new_others (old ++ take (k + 1) posted)
listed_next rows new_rows others new_others old posted k d position less is kept here all =
    let front : length (old ++ take k posted) ≡ length old + length (take k posted) = length-append old (take k posted) in
    let taken : length (take k posted) ≡ k = length-take-le k posted (omega arith) in
    let longer : (old ++ take k posted) ++ get_or posted k d ∷ [] ≡ old ++ take (k + 1) posted =
    append_assoc old (take k posted) (get_or posted k d ∷ []) ∙ ap (λ ms. old ++ ms) (sym (take_more posted k d less)) in
    subst (AreListed new_rows new_others) longer
    (listed_more rows new_rows others new_others (old ++ take k posted) (get_or posted k d) position (omega arith) kept here all)
