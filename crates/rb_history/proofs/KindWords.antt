-- Words of kinds.
use Rattle.rb_history.proofs.Words.{◌≡◌, ℕ, false, List, refl, None, bytes_eq, bytes_eq-Decides, label_of_word, word_of, Label, Declined}
use Rattle.rb_shadow.specs.declared.label.Label.TheVariants.{Deposit, Withdraw, Interest, Cancel, Transfer}
use Rattle.rb_history.proofs.KnownPlaces.{fails}

-- a text that is no kind's word
pub no_word : (word : List ℕ) → ((l : Label) → word ≡ word_of l → ⊥) → label_of_word word ≡ None
no_word word none = rw (other Deposit, other Withdraw, other Declined, other Interest, other Cancel, other Transfer) refl
  where
    other : (l : Label) → bytes_eq word (word_of l) ≡ false
    other l = fails (bytes_eq word (word_of l)) (word ≡ word_of l) (bytes_eq-Decides word (word_of l)) (none l)
