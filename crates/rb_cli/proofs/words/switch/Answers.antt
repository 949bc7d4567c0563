-- A switch is given if its word is true.
use Rattle.std.proofs.Common.{◌≡◌, ◌∙◌, Bool, Option, Some, None, true, false, codes, refl, sym, ap, inl, inr, IfSome}
use Rattle.std.specs.Option.{option_map_or}
use Rattle.std.specs.Str.{bytes_eq}
use Rattle.clap.specs.Words.{Text, found_of, one_of, rows_of}
use Rattle.clap.proofs.WalkLemmas.{one_text-rows}
use Rattle.rb_cli.specs.Words.{IsSwitchWord}
use Rattle.rb_cli.proofs.words.switch.Goals as goal

reads : (o : Option Text) (r : Bool) → (o ≡ None → r ≡ false) → (o ≡ Some (codes "true") → r ≡ true)
    → (o ≡ Some (codes "false") → r ≡ false) → IfSome o IsSwitchWord → r ≡ option_map_or (λ text. bytes_eq text (codes "true")) o false
reads None r none on off word = none refl
reads (Some t) r none on off (inl is) = on (ap Some is) ∙ sym (ap (λ text. bytes_eq text (codes "true")) is)
reads (Some t) r none on off (inr is) = off (ap Some is) ∙ sym (ap (λ text. bytes_eq text (codes "true")) is)

pub returns : goal.returns
returns c =
    let same = one_text-rows (found_of c.args.given.now) c.args.name.now in
    reads (one_of c.args.name.now (rows_of (found_of c.args.given.now))) c.get_flag.result
    (λ is. c.get_flag.ensures.none (same ∙ is)) (λ is. c.get_flag.ensures.value (same ∙ is))
    (λ is. c.get_flag.ensures.other (same ∙ is)) c.requires
