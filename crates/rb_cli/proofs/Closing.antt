-- Words that ask to close the books, in their usual spelling, are taken, and read as what they ask for.
use Rattle.std.proofs.Common.{◌≡◌, ◌∙◌, ◌≤◌, ◌++◌, ℕ, codes, decimal, true, false, refl, sym, ap, subst}
use Rattle.std.proofs.Common.{arith, List, [], ◌∷◌, length, Option, Some, None, inl, inr}
use Rattle.std.specs.Prelude.{IfSome, fold, option_map}
use Rattle.std.proofs.lemmas.List.{append-nil, append_assoc}
use Rattle.clap.specs.Lexer.{usize_max}
use Rattle.clap.specs.Faults.{check_fault, defaults_fault, level_fault}
use Rattle.clap.specs.Simple.{filled}
use Rattle.clap.specs.Walk.{Row, Rule, Text, is_pending, nothing_held, rows_after, used, with_default}
use Rattle.clap.proofs.OnLiterals.{clap_on_literals}
use Rattle.rb_money.specs.declared.limits.TheConstants.{MOST_SITES}
use Rattle.rb_cli.specs.Words.{AreValues, account_words, close, close_line, repeated_rule, value_words, words_of_matches}
use Rattle.rb_cli.proofs.Behind.{leaves_behind}
use Rattle.rb_cli.proofs.GivenOptions.{AreGiven, FitsValued, Given, IsNamed, Leaves, pending_after, rows_with, spelled}
use Rattle.rb_cli.proofs.GivenOptions.{takes_walked, valued}
use Rattle.rb_cli.proofs.Reading.{journals_rule, leaf, numbers}
use Rattle.rb_cli.proofs.Spelled.{decimal_digits, is_plain, named, number_passes, reads}

-- ---- the options

abbrev sites_rule : Rule
sites_rule = numbers (codes "sites") 2 MOST_SITES false

abbrev account_rule : Rule
account_rule = filled (repeated_rule (codes "account"))

sites_named : IsNamed (leaf close_line) (codes "--sites") sites_rule
unfolding clap_on_literals
sites_named = named (leaf close_line) _ _ (λ rows pending. refl) (λ rows pending. refl) refl refl refl (inl refl)

account_named : IsNamed (leaf close_line) (codes "--account") account_rule
unfolding clap_on_literals
account_named = named (leaf close_line) _ _ (λ rows pending. refl) (λ rows pending. refl) refl refl refl (inr refl)

-- the accounts in turn, and before them the number of sites, if it is asked for
abbrev accounts_given : List Text → List Given
accounts_given [] = []
accounts_given (name ∷ names) = valued (codes "--account") account_rule name ∷ accounts_given names

abbrev options_given : Option ℕ → List Text → List Given
options_given None names = accounts_given names
options_given (Some n) names = valued (codes "--sites") sites_rule (decimal n) ∷ accounts_given names

accounts_spelled : (names : List Text) → spelled (accounts_given names) ≡ account_words names
accounts_spelled [] = refl
accounts_spelled (name ∷ names) = ap (λ words. codes "--account" ∷ name ∷ words) (accounts_spelled names)

options_spelled : (sites : Option ℕ) (names : List Text)
    → spelled (options_given sites names) ≡ value_words (codes "--sites") (option_map decimal sites) ++ account_words names
options_spelled None names = accounts_spelled names
options_spelled (Some n) names = ap (λ words. codes "--sites" ∷ decimal n ∷ words) (accounts_spelled names)

-- ---- their rows

-- the row of the number of sites, if it is given
abbrev sites_rows : Option ℕ → List Row
sites_rows None = []
sites_rows (Some n) = used sites_rule (decimal n ∷ []) []

-- with the row of these accounts, if there are any
abbrev option_rows : Option ℕ → List Text → List Row
option_rows sites [] = sites_rows sites
option_rows sites (name ∷ names) = used account_rule (name ∷ names) (sites_rows sites)

-- one more account is one more value of that row
one_more : (sites : Option ℕ) (first : Text) (seen : List Text) (name : Text)
    → used account_rule (name ∷ []) (option_rows sites (first ∷ seen)) ≡ option_rows sites (first ∷ (seen ++ name ∷ []))
one_more None first seen name = refl
one_more (Some n) first seen name = refl

more_rows : (sites : Option ℕ) (first : Text) (seen names : List Text)
    → rows_with (option_rows sites (first ∷ seen)) (accounts_given names) ≡ option_rows sites (first ∷ (seen ++ names))
more_rows sites first seen [] = ap (λ xs. option_rows sites (first ∷ xs)) (sym (append-nil seen))
more_rows sites first seen (name ∷ names) =
    ap (λ rows. rows_with rows (accounts_given names)) (one_more sites first seen name)
    ∙ more_rows sites first (seen ++ name ∷ []) names ∙ ap (λ xs. option_rows sites (first ∷ xs)) (append_assoc seen (name ∷ []) names)

account_rows : (sites : Option ℕ) (names : List Text) → rows_with (sites_rows sites) (accounts_given names) ≡ option_rows sites names
account_rows sites [] = refl
account_rows sites (name ∷ names) = more_rows sites name [] names

rows_are : (sites : Option ℕ) (names : List Text) → rows_with [] (options_given sites names) ≡ option_rows sites names
rows_are None names = account_rows None names
rows_are (Some n) names = account_rows (Some n) names

-- ---- they can be given in turn

accounts_fit : (rows : List Row) (names : List Text) → AreValues names → AreGiven (leaf close_line) rows (accounts_given names)
accounts_fit rows [] are = tt
accounts_fit rows (name ∷ names) are =
    (FitsValued account_named (is_plain name are.0) refl, inl refl, accounts_fit (used account_rule (name ∷ []) rows) names are.1)

options_fit : (sites : Option ℕ) (names : List Text) → IfSome sites (λ n. (2 ≤ n) × (n ≤ MOST_SITES)) → AreValues names
    → AreGiven (leaf close_line) [] (options_given sites names)
options_fit None names few are = accounts_fit [] names are
options_fit (Some n) names few are = (
  FitsValued sites_named (decimal_digits n (omega (arith, few.1))).plain
      (number_passes (codes "sites") false n 2 MOST_SITES (omega (arith, few.1)) few.0 few.1),
  inr refl,
  accounts_fit (sites_rows (Some n)) names are,
)

-- no file is read yet
not_pending : (pending : Option (Text × List Text)) (names : List Text) → is_pending journals_rule pending ≡ false
    → is_pending journals_rule (pending_after pending (accounts_given names)) ≡ false
not_pending pending [] is = is
not_pending pending (name ∷ names) is = not_pending (Some (codes "account", name ∷ [])) names refl

none_pending : (sites : Option ℕ) (names : List Text)
    → is_pending journals_rule (pending_after None (options_given sites names)) ≡ false
none_pending None names = not_pending None names refl
none_pending (Some n) names = not_pending (Some (codes "sites", decimal n ∷ [])) names refl

-- ---- the files after them

-- the last checks pass, and the rows are read as what is asked for
record Ends (rows : List Row) (sites : Option ℕ) (names files : List Text) : Type 0 where
  defaults : defaults_fault rows (leaf close_line).rules ≡ []
  checks : check_fault (leaf close_line) (fold with_default rows (leaf close_line).rules) false ≡ []
  is : words_of_matches (Some (codes "close", fold with_default rows (leaf close_line).rules)) ≡ Some (close sites names files)

ends : (sites : Option ℕ) (names : List Text) (file : Text) (files : List Text)
    → IfSome sites (λ n. (2 ≤ n) × (n ≤ MOST_SITES))
    → Ends (used journals_rule (file ∷ files) (option_rows sites names)) sites names (file ∷ files)
unfolding clap_on_literals
ends None [] file files few = record { defaults = refl; checks = refl; is = refl }
ends None (name ∷ names) file files few = record { defaults = refl; checks = refl; is = refl }
ends (Some n) [] file files few = record {
  defaults = refl;
  checks = refl;
  is = ap (λ m. Some (close (Some m) [] (file ∷ files))) (reads n _ (decimal_digits n (omega (arith, few.1))));
}
ends (Some n) (name ∷ names) file files few = record {
  defaults = refl;
  checks = refl;
  is = ap (λ m. Some (close (Some m) (name ∷ names) (file ∷ files))) (reads n _ (decimal_digits n (omega (arith, few.1))));
}

-- words that ask to close the books are taken after the command's name, and read as that
pub record TakesClosing (words : List Text) (sites : Option ℕ) (names files : List Text) : Type 0 where
  pub fault : level_fault (leaf close_line) [] nothing_held words false [] ≡ []
  pub is : words_of_matches (Some (codes "close", rows_after (leaf close_line).rules [] words)) ≡ Some (close sites names files)

pub closing_taken : (sites : Option ℕ) (names files : List Text) → IfSome sites (λ n. (2 ≤ n) × (n ≤ MOST_SITES)) → AreValues names
    → AreValues files → 1 ≤ length files → length files ≤ usize_max
    → TakesClosing (value_words (codes "--sites") (option_map decimal sites) ++ (account_words names ++ files)) sites names files
closing_taken sites names [] few are_names are_files some fit = absurd (omega (arith, some))
closing_taken sites names (file ∷ files) few are_names are_files some fit =
    let s = leaf close_line in
    let end = ends sites names file files few in
    let leaves = leaves_behind s (codes "journals") true refl refl (options_given sites names) file files
    (options_fit sites names few are_names) (none_pending sites names) are_files fit in
    let takes = takes_walked s _ _
    (subst (λ rows. Leaves s (spelled (options_given sites names) ++ file ∷ files) (used journals_rule (file ∷ files) rows))
    (rows_are sites names) leaves) end.defaults in
    let spelled_as = ap (λ ws. ws ++ file ∷ files) (options_spelled sites names)
    ∙ append_assoc (value_words (codes "--sites") (option_map decimal sites)) (account_words names) (file ∷ files) in
    subst (λ ws. TakesClosing ws sites names (file ∷ files)) spelled_as (record {
      fault = takes.0 end.checks;
      is = ap (λ (r : List Row). words_of_matches (Some (codes "close", r))) takes.1 ∙ end.is;
    })
