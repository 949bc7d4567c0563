use Rattle.std.proofs.Common.{◌≡◌, drop}
use Rattle.std.specs.List.{list_all}
use Rattle.rb_money.specs.Settings.{is_name_byte}
use Rattle.rb_money.proofs.checks.is_account_name.Given as goal

abbrev pub invariant-loop-byte : goal.invariant-loop-byte
invariant-loop-byte l = list_all is_name_byte l.name ≡ list_all is_name_byte (drop l.byte-index l.name)
