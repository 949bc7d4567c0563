-- The words of kinds.
use Rattle.std.specs.Prelude.{ℕ, List, [], ◌∷◌, codes, find, Option}
use Rattle.std.specs.Str.{bytes_eq}
use Rattle.rb_shadow.specs.declared.label.Label.{Label}
use Rattle.rb_shadow.specs.declared.label.Label.TheVariants.{Deposit as DepositLabel, Withdraw as WithdrawLabel, Declined as DeclinedLabel}
use Rattle.rb_shadow.specs.declared.label.Label.TheVariants.{Interest as InterestLabel, Cancel as CancelLabel, Transfer as TransferLabel}

-- a kind's word in lines
abbrev pub word_of : Label → List ℕ
word_of DepositLabel = codes "deposit"
word_of WithdrawLabel = codes "withdraw"
word_of DeclinedLabel = codes "declined"
word_of InterestLabel = codes "interest"
word_of CancelLabel = codes "cancel"
word_of TransferLabel = codes "transfer"

-- the kind whose word that is
abbrev pub label_of_word : List ℕ → Option Label
label_of_word word = find (λ l. bytes_eq word (word_of l)) (DepositLabel ∷ WithdrawLabel ∷ DeclinedLabel ∷ InterestLabel ∷ CancelLabel
    ∷ TransferLabel ∷ [])
