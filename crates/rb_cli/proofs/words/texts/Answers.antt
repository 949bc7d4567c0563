-- The texts are the values that are found.
use Rattle.std.proofs.Common.{◌∙◌, [], map, option_map, ap, sym}
use Rattle.std.specs.Prelude.{unwrap_or}
use Rattle.std.proofs.lemmas.Result.{IfOk-weaker}
use Rattle.clap.specs.Words.{found_of}
use Rattle.clap.proofs.WalkLemmas.{raw_values-rows}
use Rattle.rb_cli.proofs.words.texts.Goals as goal

pub returns-in-Some : goal.returns-in-Some
returns-in-Some c =
    let same = c.get_strs.ensures ∙ raw_values-rows (found_of c.args.given.now) c.args.name.now in
    let texts_are = ap (λ o. unwrap_or (option_map (λ s. map (λ v. v.now) s.now) o) []) (sym c.in-Some.is)
    ∙ ap (λ o. unwrap_or o []) same in
    IfOk-weaker c.to_vec.result _ _ (λ v copied. ap (map (λ text. text.now)) (copied (λ x y is. is)) ∙ texts_are)
    c.to_vec.ensures.items_if_clones_equal

pub returns-in-None : goal.returns-in-None
returns-in-None c =
    let same = c.get_strs.ensures ∙ raw_values-rows (found_of c.args.given.now) c.args.name.now in
    ap (map (λ text. text.now)) c.new.ensures.items
    ∙ ap (λ o. unwrap_or (option_map (λ s. map (λ v. v.now) s.now) o) []) (sym c.in-None.is) ∙ ap (λ o. unwrap_or o []) same
