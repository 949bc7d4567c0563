-- The bank is named if the option for it has a text.
use Rattle.std.proofs.Common.{◌≡◌, ◌∙◌, ◌&&◌, Option, Some, None, Bor, ap, codes, is_some, option_map, sym}
use Rattle.clap.specs.Words.{Text, found_of, rows_of}
use Rattle.clap.proofs.WalkLemmas.{first_value-rows}
use Rattle.rb_cli.specs.Words.{switch_at}
use Rattle.rb_cli.proofs.words.names_bank_to_seal.Goals as goal

-- a text is there as it is found
is_there : (o : Option (Bor Text)) (t : Option Text) → option_map (λ s. s.now) o ≡ t → is_some o ≡ is_some t
is_there None t is = ap is_some is
is_there (Some s) t is = ap is_some is

pub returns-in-Some : goal.returns-in-Some
returns-in-Some c =
    let rows = rows_of (found_of c.args.given.now) in
    let there = is_there c.get_str.result _ (c.get_str.ensures ∙ first_value-rows (found_of c.args.given.now) (codes "bank")) in
    c.switch.ensures ∙ ap (λ b. b && switch_at (codes "seal") rows) (ap is_some (sym c.in-Some.is) ∙ there)

pub returns-in-None : goal.returns-in-None
returns-in-None c =
    let rows = rows_of (found_of c.args.given.now) in
    let there = is_there c.get_str.result _ (c.get_str.ensures ∙ first_value-rows (found_of c.args.given.now) (codes "bank")) in
    ap (λ b. b && switch_at (codes "seal") rows) (ap is_some (sym c.in-None.is) ∙ there)
