use Rattle.std.proofs.Common.{◌≡◌, ℕ, sym, subst, None}
use Rattle.std.specs.Arc.{arc_value}
use Rattle.std.specs.Prelude.{map}
use Rattle.rb_money.specs.Faults.{account_of, config_fault}
use Rattle.rb_money.specs.Settings.{AccountList, IsConfigured, version_of}
use Rattle.rb_money.proofs.Named.{Entries}
use Rattle.rb_money.proofs.Faults.{configured}
use Rattle.rb_money.proofs.config.Config.new.Goals as goal

pub invariant_of-result : goal.invariant_of-result
invariant_of-result c =
    let IsRight : Entries → Type 0 = λ es. config_fault c.args.sites (map account_of es) c.args.limits ≡ None in
    let none = subst IsRight c.deref.ensures.value (sym c.in_default.ensures.first) in
    let Configured : AccountList → ℕ → Type 0 = λ list version. IsConfigured (record {
      sites = c.args.sites;
      names = list.names;
      starts = list.starts;
      limits = c.args.limits;
      version = version;
    }) in
    let kept = subst (λ list. Configured list (version_of c.args.sites)) (sym c.in-Ok.ensures)
    (configured c.args.sites (map account_of c.args.accounts.items) c.args.limits none) in
    subst (Configured (arc_value c.in-Ok.accounts)) (sym c.version_of.ensures) kept
