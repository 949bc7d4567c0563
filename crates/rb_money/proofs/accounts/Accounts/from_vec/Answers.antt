use Rattle.std.proofs.Common.{◌∙◌, List, ℕ, ap}
use Rattle.std.specs.Prelude.{map}
use Rattle.rb_money.specs.Faults.{account_of}
use Rattle.rb_money.specs.Settings.{AccountList}
use Rattle.rb_money.proofs.Named.{Entries, names_listed, names_of, starts_listed}
use Rattle.rb_money.proofs.accounts.Accounts.from_vec.Goals as goal

pub returns : goal.returns
returns c =
    let es = c.args.accounts.items in
    let With : List (List ℕ) → List ℕ → AccountList = λ ns ss. record { names = ns; starts = ss } in
    ap (λ (all : Entries). With (names_of all) (map (λ e. e.1) all)) c.in_ok-by_name.ensures
    ∙ ap (λ ns. With ns (map (λ e. e.1) es)) (names_listed es) ∙ ap (With (map (λ a. a.0) (map account_of es))) (starts_listed es)
