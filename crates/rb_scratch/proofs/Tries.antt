-- Trials on a ledger, operation by operation.
use Rattle.std.proofs.Common.{◌≡◌, List, [], ◌∷◌, ◌++◌, length, refl, ap, sym, ◌∙◌, arith, append_assoc, ◌⊎◌}
use Rattle.std.proofs.Common.{inl, inr}
use Rattle.std.proofs.lemmas.List.{append-nil}
use Rattle.rb_shadow.specs.declared.shadow.Shadow.{Shadow}
use Rattle.rb_undo.specs.declared.parts.UndoParts.{UndoParts}
use Rattle.rb_ledger.specs.Book.{Book}
use Rattle.rb_ledger.specs.Records.{logged}
use Rattle.rb_ledger.specs.Valid.{parts_of}
use Rattle.rb_ledger.proofs.Public.Records
use Rattle.rb_scratch.specs.Tried.{IsTried, IsAdded}
use Rattle.rb_scratch.proofs.Public.Batches.{tried_length}

-- one operation more
pub added : (was now : Book) (vs longer : List Shadow) (records more : List UndoParts) (v : Shadow) → now.settings ≡ was.settings →
    now.entries ≡ was.entries ++ v ∷ [] → longer ≡ vs ++ v ∷ [] → more ≡ records ++ parts_of was.settings was.entries v ∷ []
    → IsAdded was now vs longer records more v
added was now vs longer records more v same grown listed recorded =
    record {
      settings = same;
      entries = grown;
      made = listed;
      records = recorded;
      tried = λ base tried. record {
        entries = grown ∙ ap (λ us. us ++ v ∷ []) tried.entries ∙ append_assoc base vs (v ∷ []) ∙ ap (λ us. base ++ us) (sym listed);
        records =
            recorded ∙ ap (λ ps. ps ++ parts_of was.settings was.entries v ∷ []) tried.records
            ∙ ap (λ us. logged was.settings base vs ++ parts_of was.settings us v ∷ []) tried.entries
            ∙ sym (Records.logged-append was.settings base vs (v ∷ []))
            ∙ ap (logged was.settings base) (sym listed) ∙ ap (λ s. logged s base longer) (sym same);
      };
    }

-- a list is empty, or has a last element
last_of : {A : Type 0} (xs : List A) → (xs ≡ []) ⊎ ((ys : List A) × (y : A) × (xs ≡ ys ++ y ∷ []))
last_of [] = inl refl
last_of (x ∷ xs) = at (last_of xs)
  where
    at : (xs ≡ []) ⊎ ((ys : List _) × (y : _) × (xs ≡ ys ++ y ∷ [])) → (x ∷ xs ≡ []) ⊎ ((ys : List _) × (y : _) × (x ∷ xs ≡ ys ++ y ∷ []))
    at (inl e) = inr ([], x, ap (λ zs. x ∷ zs) e)
    at (inr (ys, y, e)) = inr (x ∷ ys, y, ap (λ zs. x ∷ zs) e)

-- the last record is that of the last operation
pub record IsLastOf (base : List Shadow) (book : Book) (rest : List UndoParts) (p : UndoParts) : Type 0 where
  pub left : List Shadow
  pub last : Shadow
  pub entries : book.entries ≡ (base ++ left) ++ last ∷ []
  pub record_is : p ≡ parts_of book.settings (base ++ left) last
  pub records : rest ≡ logged book.settings base left

-- the last record is that of the last operation
pub last_record : (base made : List Shadow) (book : Book) (records : List UndoParts) (rest : List UndoParts) (p : UndoParts) →
    IsTried base made book records → records ≡ rest ++ p ∷ [] → IsLastOf base book rest p
last_record base made book records rest p tried e = at (last_of made)
  where
    never : (ps : List UndoParts) (p : UndoParts) → ps ++ p ∷ [] ≡ [] → ⊥
    never [] p e = cc
    never (q ∷ ps) p e = cc

    at : (made ≡ []) ⊎ ((ys : List Shadow) × (y : Shadow) × (made ≡ ys ++ y ∷ [])) → IsLastOf base book rest p
    at (inl none) = absurd (never rest p (sym e ∙ tried.records ∙ ap (logged book.settings base) none))
    at (inr (left, last, is)) =
        let same = Records.ends rest (logged book.settings base left) p (parts_of book.settings (base ++ left) last)
        (sym e ∙ tried.records ∙ ap (logged book.settings base) is ∙ Records.logged-append book.settings base left (last ∷ [])) in
        record {
          left = left;
          last = last;
          entries = tried.entries ∙ ap (λ us. base ++ us) is ∙ sym (append_assoc base left (last ∷ []));
          record_is = same.1;
          records = same.0;
        }

-- what is left where it was taken out
pub tried_less : (base : List Shadow) (book now : Book) (rest : List UndoParts) (p : UndoParts) (v : Shadow) →
    (last : IsLastOf base book rest p) → book.entries ≡ now.entries ++ v ∷ [] → now.settings ≡ book.settings →
    IsTried base last.left now rest
tried_less base book now rest p v last e same =
    record {
      entries = (Records.ends now.entries (base ++ last.left) v last.last (sym e ∙ last.entries)).0;
      records = last.records ∙ ap (λ s. logged s base last.left) (sym same);
    }

-- without records nothing is left to take out
pub tried_all : (base made : List Shadow) (book : Book) (records : List UndoParts) → IsTried base made book records → records ≡ [] →
    book.entries ≡ base
tried_all base made book records tried e =
    let none : length made ≡ 0 = sym (tried_length base made book records tried) ∙ ap length e in
    tried.entries ∙ ap (λ us. base ++ us) (empty made none) ∙ append-nil base
  where
    empty : (us : List Shadow) → length us ≡ 0 → us ≡ []
    empty [] e = refl
    empty (u ∷ us) e = absurd (omega arith)
