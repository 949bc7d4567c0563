-- The events are those that the option's word names.
use Rattle.std.proofs.Common.{◌≡◌, ◌∙◌, Option, Some, None, ap, codes, sym, Bor, option_map}
use Rattle.std.specs.Option.{option_map_or}
use Rattle.clap.specs.Words.{Text, found_of}
use Rattle.clap.proofs.WalkLemmas.{first_value-rows}
use Rattle.rb_cli.specs.declared.recorded.Record.TheVariants.{Changes}
use Rattle.rb_cli.specs.Words.{record_of}
use Rattle.rb_cli.proofs.words.recorded.Goals as goal

-- what is recorded by the option's word, as it is found
by_word : (o : Option (Bor Text)) (t : Option Text) → option_map (λ s. s.now) o ≡ t
    → option_map_or (λ s. record_of s.now) o Changes ≡ option_map_or record_of t Changes
by_word None t is = ap (λ x. option_map_or record_of x Changes) is
by_word (Some s) t is = ap (λ x. option_map_or record_of x Changes) is

pub returns-in-Some : goal.returns-in-Some
returns-in-Some c =
    let word = by_word c.get_str.result _ (c.get_str.ensures ∙ first_value-rows (found_of c.args.given.now)
    (codes "record")) in
    c.record_named.ensures ∙ ap (λ o. option_map_or (λ s. record_of s.now) o Changes) (sym c.in-Some.is) ∙ word

pub returns-in-None : goal.returns-in-None
returns-in-None c =
    let word = by_word c.get_str.result _ (c.get_str.ensures ∙ first_value-rows (found_of c.args.given.now)
    (codes "record")) in
    ap (λ o. option_map_or (λ s. record_of s.now) o Changes) (sym c.in-None.is) ∙ word
