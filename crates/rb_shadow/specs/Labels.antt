-- Kinds as replies show them.
use Rattle.rb_shadow.specs.declared.kind.Kind.{Kind}
use Rattle.rb_shadow.specs.declared.kind.Kind.TheVariants.{Deposit, Withdraw, Declined, Interest, Cancel, Transfer}
use Rattle.rb_shadow.specs.declared.label.Label.{Label}
use Rattle.rb_shadow.specs.declared.label.Label.TheVariants.{Deposit as DepositLabel, Withdraw as WithdrawLabel, Declined as DeclinedLabel}
use Rattle.rb_shadow.specs.declared.label.Label.TheVariants.{Interest as InterestLabel, Cancel as CancelLabel, Transfer as TransferLabel}

-- a kind without its target or second account
abbrev pub label_of : Kind → Label
label_of Deposit = DepositLabel
label_of Withdraw = WithdrawLabel
label_of Declined = DeclinedLabel
label_of Interest = InterestLabel
label_of (Cancel x) = CancelLabel
label_of (Transfer to) = TransferLabel
