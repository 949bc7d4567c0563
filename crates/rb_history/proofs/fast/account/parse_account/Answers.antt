use Rattle.rb_history.proofs.Words.{behind_quote, place_in, Some, ap, codes, rules, sym, ◌++◌, ◌∙◌, ◌≡◌, unwrap_or}
use Rattle.rb_history.proofs.KnownPlaces.{name_there, nobody_there}
use Rattle.rb_history.proofs.Plain.{string_written}
use Rattle.rb_history.proofs.fast.account.parse_account.Goals as goal

pub returns-in-Some-clause-text : goal.returns-in-Some-clause-text
returns-in-Some-clause-text c =
    let names = c.args.config.now.names in
    let name = c.in_ok-name.name.now in
    let rest = c.in_ok-name.rest.now in
    let found : place_in names name ≡ Some c.in-Some.place = search rules in
    string_written name c.args.text.now rest c.in_ok-name.ensures.0 c.in_ok-name.ensures.1
    ∙ ap (λ o. behind_quote (unwrap_or o (codes "?")) ++ rest) (sym (name_there names name c.in-Some.place found))

pub returns-then-eq-clause-text : goal.returns-then-eq-clause-text
returns-then-eq-clause-text c =
    let name = c.in_ok-name.name.now in
    let rest = c.in_ok-name.rest.now in
    let is : name ≡ codes "?" = search rules in
    string_written name c.args.text.now rest c.in_ok-name.ensures.0 c.in_ok-name.ensures.1
    ∙ ap (λ l. behind_quote l ++ rest) (is ∙ sym (nobody_there c.args.config.now c.accounts.ensures.configured))
